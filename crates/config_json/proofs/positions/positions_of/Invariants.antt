use Rattle.serde_json.specs.View.{view}
use Rattle.config_json.specs.Positions.{ArePositions}
use Rattle.config_json.proofs.positions.positions_of.Given as goal

abbrev pub invariant-loop-n : goal.invariant-loop-n
invariant-loop-n l = ArePositions l.objects (view l.former) l.n l.positions.items
