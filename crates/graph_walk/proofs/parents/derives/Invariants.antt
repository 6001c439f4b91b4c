use Rattle.std.proofs.Common.{◌≡◌, ◌-◌, ◌<◌}
use Rattle.graph_walk.specs.Ancestors.{derives}
use Rattle.graph_walk.proofs.parents.derives.Given as goal

-- what is left decides
abbrev pub invariant-loop-step : goal.invariant-loop-step
invariant-loop-step g l =
    record {
      within : l.at < g.P.Parents.size l.family;
      rest : derives (g.P.Parents.up l.family) (g.P.Parents.size l.family - l._step) l.at l.d ≡ derives (g.P.Parents.up l.family) (g.P.Parents.size l.family) l.c l.d;
    }
