use Rattle.stated_costs.proofs.ValueLaws.{one_left}
use Rattle.stated_costs.proofs.values.allowed.Goals as goal

pub returns-in_ok-left-in-Some : goal.returns-in_ok-left-in-Some
returns-in_ok-left-in-Some c a h k =
    one_left c.args.c.now c.in-Some.l.now c.args.values c.in_ok-left-in-Some.left c.args.y a c.in-Some.ensures.form c.in-Some.ensures.own c.in_ok-left-in-Some.ensures.values h k
