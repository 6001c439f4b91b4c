use Rattle.std.proofs.Common.{◌≡◌, drop, map}
use Rattle.serde_json.specs.View.{view}
use Rattle.view_leaves.specs.Views.{step_seen}
use Rattle.view_picture.specs.Lookup.{value_at}
use Rattle.view_picture.proofs.lookup.value_at.Given as goal

-- what is left of the path goes on from here
abbrev pub invariant-loop-step : goal.invariant-loop-step
invariant-loop-step l =
    value_at (map step_seen (drop l.step-index l.path)) (view l.value)
    ≡ value_at (map step_seen l.path) (view l.whole)
