use Rattle.std.proofs.Common.{ℤ, pos, ◌*ℤ◌, ◌≤ℤ◌, ◌<ℤ◌, arith, ap, ◌∙◌}
use Rattle.std.proofs.lemmas.Int.{ints}
use Rattle.linear_prop.proofs.Products.{falls_down, falls_up}
use Rattle.linear_prop.proofs.fall.step_back.Goals as goal

pub returns-then-c-lt0-clause-paid : goal.returns-then-c-lt0-clause-paid
returns-then-c-lt0-clause-paid c =
    let below : c.args.c.value <ℤ pos 0 = grind (arith, ints) in
    ap (λ (z : ℤ). c.args.c.value *ℤ z) c.raised.ensures ∙ falls_up c.args.c.value c.args.at.value c.args.steps below

pub returns-else-c-lt0-clause-paid : goal.returns-else-c-lt0-clause-paid
returns-else-c-lt0-clause-paid c =
    let least : pos 0 ≤ℤ c.args.c.value = grind (arith, ints) in
    ap (λ (z : ℤ). c.args.c.value *ℤ z) c.lowered.ensures ∙ falls_down c.args.c.value c.args.at.value c.args.steps least
