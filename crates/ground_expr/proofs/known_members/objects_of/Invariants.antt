use Rattle.std.proofs.Common.{◌≡◌, map, take}
use Rattle.expr_forms.specs.declared.form.Member.{Member}
use Rattle.ground_expr.proofs.known_members.objects_of.Given as goal

abbrev pub invariant-loop-m : goal.invariant-loop-m
invariant-loop-m l = l.objects.items ≡ map (λ (m : Member). m.object) (take l.m-index l.members)
