use Rattle.std.proofs.Common.{unsigned_abs, ◌-ℤ◌, subst, sym, ◌/◌, ◌≤◌, ℕ}
use Rattle.linear_prop.proofs.Products.{paid_in_full}
use Rattle.linear_prop.proofs.Falling.{steps_fit}
use Rattle.linear_prop.proofs.fall.back_off.Goals as goal

pub step_back-requires-clause-steps : goal.step_back-requires-clause-steps
step_back-requires-clause-steps c =
    let d = unsigned_abs (c.args.at.value -ℤ c.args.end.value) in
    subst (λ (n : ℕ). c.args.slack / n ≤ d) (sym c.size-size.ensures) (steps_fit (unsigned_abs c.args.c.value) d c.args.slack c.requires.slack)

pub returns-clause-paid : goal.returns-clause-paid
returns-clause-paid c = paid_in_full _ _ (unsigned_abs c.args.c.value) c.size-size.result c.args.slack c.size-size.ensures c.step_back.ensures.paid
