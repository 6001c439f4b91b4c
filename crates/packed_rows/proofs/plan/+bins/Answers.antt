use Rattle.std.proofs.Common.{length, ◌/◌, arith}
use Rattle.signed_clause.specs.Ranges.{has}
use Rattle.packed_rows.proofs.PlanLaws.{halves}
use Rattle.packed_rows.proofs.plan.+bins.Goals as goal

pub returns-in_ok-all-in_default : goal.returns-in_ok-all-in_default
returns-in_ok-all-in_default t c v =
    halves (length c.args.rows.now / 2) c.args.rows.now v (has c.in_ok-front-in_default.front v) (has c.in_ok-back-in_default.back v) (has c.in_ok-all-in_default.all v) (omega arith) (c.in_ok-front-in_default.ensures v) (c.in_ok-back-in_default.ensures v) (c.in_ok-all-in_default.ensures.values v)
