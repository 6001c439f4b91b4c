use Rattle.std.proofs.Common.{◌≡◌, ◌<◌, length, map}
use Rattle.std.specs.Prelude.{position}
use Rattle.graph_walk.specs.Cycles.{rank}
use Rattle.class_table.specs.Outline.{attributes, variable_name}
use Rattle.class_table.specs.Same.{same_name}
use Rattle.class_table.proofs.class_table.number_of.Given as goal

-- the number is that of the class where the search stands
abbrev pub invariant-up : goal.invariant-up
invariant-up l =
    record {
      class : l.at < length l.classes;
      same : position (same_name l.name) (map variable_name (attributes l.classes l.at)) ≡ position (same_name l.name) (map variable_name (attributes l.classes l.c));
    }

abbrev pub decreases-up : goal.decreases-up
decreases-up l = rank l.order l.at
