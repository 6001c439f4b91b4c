use Rattle.model_search.proofs.FoundRuns.{has_searched}
use Rattle.model_search.proofs.finder.find.Goals as goal

pub returns-clause-searched : goal.returns-clause-searched
returns-clause-searched g c =
    has_searched c.args.g c.args.limits.budget c.search.new.journal.lines c.lines.result.now
    c.keep.new.self.lines c.in_ok-end.end c.in_ok-verdict.verdict c.lines.ensures
    c.keep.ensures.lines c.in_ok-end.ensures.run c.in_ok-verdict.ensures.verdict
    c.in_ok-verdict.ensures.sound c.in_ok-verdict.ensures.found c.in_ok-end.ensures.closed
    c.in_ok-end.ensures.spent c.in_ok-end.ensures.within
