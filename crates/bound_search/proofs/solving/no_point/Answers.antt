use Rattle.bound_search.proofs.Splits.{empty_kept, empty_closes}
use Rattle.bound_search.proofs.solving.no_point.Goals as goal

pub returns-clause-kept : goal.returns-clause-kept
returns-clause-kept c = λ order hints.
    empty_kept c.args.g.now order hints c.args.journal.now c.push.new.self c.args.x c.requires.lines
    c.requires.var c.requires.none c.in_ok-push.ensures.ok c.in_ok-push.ensures.ground
    c.in_ok-push.ensures.rounds

pub returns-clause-ends : goal.returns-clause-ends
returns-clause-ends c = λ budget.
    empty_closes c.args.g.now c.args.journal.now c.push.new.self c.args.x budget c.requires.lines
    c.in_ok-push.ensures.ok
