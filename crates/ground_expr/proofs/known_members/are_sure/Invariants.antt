use Rattle.std.proofs.Common.{◌≡◌, true, take}
use Rattle.std.specs.List.{All}
use Rattle.expr_forms.specs.declared.form.Member.{Member}
use Rattle.form_build.specs.declared.form.Truth.TheVariants as truth
use Rattle.ground_expr.proofs.known_members.are_sure.Given as goal

abbrev pub invariant-loop-m : goal.invariant-loop-m
invariant-loop-m l = All (λ (m : Member). m.is ≡ truth.Fixed true) (take l.m-index l.members)
