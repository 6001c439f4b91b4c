use Rattle.std.proofs.Common.{◌+◌, ◌*◌, length}
use Rattle.conf_core.specs.Searching.{IsUnderWay}
use Rattle.conf_core.proofs.narrowing.narrowed.Given as goal

abbrev pub invariant-loop-with : goal.invariant-loop-with
invariant-loop-with g l =
    IsUnderWay l.with.objects.now l.with.model.now.constraints l.with.budget l.fn.journal.rounds
    l.fn.first l.journal l.n (g.F.Finder.allowed l.finder)

abbrev pub decreases-loop-with : goal.decreases-loop-with
decreases-loop-with g l = 3 * length l.n.rest.items + l.n.chunk
