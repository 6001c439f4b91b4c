use Rattle.std.proofs.Common.{◌≡◌, ◌+◌, ◌≤◌, subst, sym}
use Rattle.std.specs.Prelude.{option_copied}
use Rattle.object_alloc.specs.Counts.{configuration_count}
use Rattle.run_law.specs.Decisions.{decisions, MayDecide}
use Rattle.model_search.proofs.FoundRuns.{found_run}
use Rattle.model_search.proofs.RepairProblems.{as_many_former}
use Rattle.model_search.proofs.searching.find_best.Goals as goal

pub returns-clause-run : goal.returns-clause-run
returns-clause-run g c =
    let q = c.args.question in
    let o = q.objects.now in
    let here = c.in-Some.g.now in
    found_run o q.model.now.constraints q.model.now.goals (option_copied q.repair) c.in_ok-g.g here
    (g.F.Finder.order c.args.finder.now) (g.F.Finder.allowed c.args.finder.now)
    c.searched.new.journal c.in_ok-told.told c.in_ok-verdict.verdict
    c.in_ok-verdict.ensures.problem c.in-Some.ensures.some c.in_ok-g.ensures.problem
    c.in_ok-verdict.ensures.searched c.searched.ensures.run.ordered c.in_ok-told.ensures.finding
    (subst (λ ls. MayDecide here ls → decisions ls + 2 ≤ configuration_count o) c.lines.ensures
    c.undecided_has_more.ensures.more)

pub searched-requires-clause-hints : goal.searched-requires-clause-hints
searched-requires-clause-hints g c =
    let q = c.args.question in
    as_many_former q.objects.now q.model.now.constraints q.model.now.goals (option_copied q.repair)
    c.in_ok-g.g c.in_ok-g.ensures.problem c.requires.understood
