use Rattle.std.proofs.Common.{subst}
use Rattle.bound_search.specs.declared.solving.Ended.{Ended}
use Rattle.bound_search.specs.Ends.{EndsOf}
use Rattle.bound_search.proofs.Splits.{ended_within}
use Rattle.bound_search.proofs.solving.search.Goals as goal

pub returns-in_err-ended-in-Some-clause-run : goal.returns-in_err-ended-in-Some-clause-run
returns-in_err-ended-in-Some-clause-run g c =
    (c.no_point.ensures.kept c.args.chooser.now.order c.args.hints.now).run

pub returns-in_err-ended-in-Some-clause-problem : goal.returns-in_err-ended-in-Some-clause-problem
returns-in_err-ended-in-Some-clause-problem g c =
    (c.no_point.ensures.kept c.args.chooser.now.order c.args.hints.now).problem

pub returns-in_err-ended-in-Some-clause-rounds : goal.returns-in_err-ended-in-Some-clause-rounds
returns-in_err-ended-in-Some-clause-rounds g c =
    (c.no_point.ensures.kept c.args.chooser.now.order c.args.hints.now).rounds

pub returns-in_ok-ended-in-Some-clause-run : goal.returns-in_ok-ended-in-Some-clause-run
returns-in_ok-ended-in-Some-clause-run g c =
    (c.no_point.ensures.kept c.args.chooser.now.order c.args.hints.now).run

pub returns-in_ok-ended-in-Some-clause-problem : goal.returns-in_ok-ended-in-Some-clause-problem
returns-in_ok-ended-in-Some-clause-problem g c =
    (c.no_point.ensures.kept c.args.chooser.now.order c.args.hints.now).problem

pub returns-in_ok-ended-in-Some-clause-rounds : goal.returns-in_ok-ended-in-Some-clause-rounds
returns-in_ok-ended-in-Some-clause-rounds g c =
    (c.no_point.ensures.kept c.args.chooser.now.order c.args.hints.now).rounds

pub returns-in_ok-ended-in-Some-clause-closed : goal.returns-in_ok-ended-in-Some-clause-closed
returns-in_ok-ended-in-Some-clause-closed g c = λ e.
    (subst (λ (r : Ended). EndsOf c.args.g.now 0 c.no_point.new.journal.lines r) e
    (c.in_ok-ended-in-Some.ensures.ends 0)).0

pub returns-in_ok-ended-in-Some-clause-spent : goal.returns-in_ok-ended-in-Some-clause-spent
returns-in_ok-ended-in-Some-clause-spent g c = λ e.
    subst (λ (r : Ended). EndsOf c.args.g.now c.args.limits.budget c.no_point.new.journal.lines r) e
    (c.in_ok-ended-in-Some.ensures.ends c.args.limits.budget)

pub returns-in_ok-ended-in-Some-clause-within : goal.returns-in_ok-ended-in-Some-clause-within
returns-in_ok-ended-in-Some-clause-within g c =
    let budget = c.args.limits.budget in
    ended_within c.args.g.now budget c.no_point.new.journal.lines c.in_ok-ended-in-Some.ended
    (c.in_ok-ended-in-Some.ensures.ends budget)
