use Rattle.std.proofs.Common.{◌≡◌, ◌++◌, ℕ, true, List, ℤ, drop, map}
use Rattle.std.specs.List.{All}
use Rattle.form_build.specs.declared.form.Truth.TheVariants as truth
use Rattle.form_build.specs.Forms.{HasVariable}
use Rattle.expr_forms.specs.declared.form.Member.{Member}
use Rattle.expr_forms.specs.FormValues.{members_at}
use Rattle.identity_forms.proofs.members.sure_members.Given as goal

abbrev pub invariant-loop-object : goal.invariant-loop-object
invariant-loop-object l = record {
  members : (a : List ℤ) → members_at l.members.items a ++ drop l.object-index l.objects ≡ l.objects;
  objects : map (λ (m : Member). m.object) l.members.items ++ drop l.object-index l.objects ≡ l.objects;
  variables : (n : ℕ) → All (λ (m : Member). HasVariable n m.is) l.members.items;
  sure : All (λ (m : Member). m.is ≡ truth.Fixed true) l.members.items;
}
