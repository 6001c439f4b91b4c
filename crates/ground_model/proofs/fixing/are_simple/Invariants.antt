use Rattle.std.proofs.Common.{◌≡◌, drop}
use Rattle.conf_types.specs.TreeOf.{trees_of}
use Rattle.ground_model.specs.Fixing.{are_simple}
use Rattle.ground_model.proofs.fixing.are_simple.Given as goal

-- with what is left it is that of all
abbrev pub invariant-loop-e : goal.invariant-loop-e
invariant-loop-e l = are_simple (trees_of (drop l.e-index l.list)) ≡ are_simple (trees_of l.list)
