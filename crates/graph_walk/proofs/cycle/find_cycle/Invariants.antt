use Rattle.std.proofs.Common.{◌≡◌, ℕ, ◌<◌, []}
use Rattle.graph_walk.specs.Walk.{IsWalk, IsNew, state_at}
use Rattle.graph_walk.proofs.cycle.find_cycle.Given as goal

abbrev pub invariant-loop-root : goal.invariant-loop-root
invariant-loop-root l =
    record {
      walk : IsWalk l.graph l.walk.states.items l.walk.path.items l.walk.done;
      path : l.walk.path.items ≡ [];
      reached : (c : ℕ) → c < l.root → IsNew (state_at l.walk.states.items c) → ⊥;
    }
