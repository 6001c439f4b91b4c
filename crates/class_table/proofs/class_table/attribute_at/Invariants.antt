use Rattle.std.proofs.Common.{◌≡◌, ◌<◌, length}
use Rattle.std.specs.Prelude.{slice_index_or}
use Rattle.class_table.specs.declared.table.Variable.{Variable}
use Rattle.graph_walk.specs.Cycles.{rank}
use Rattle.class_table.specs.Outline.{attributes}
use Rattle.class_table.proofs.class_table.attribute_at.Given as goal

-- the attribute is one of the class where the search stands, by the same number
abbrev pub invariant-up : goal.invariant-up
invariant-up l =
    record {
      class : l.at < length l.classes;
      attribute : l.k < length (attributes l.classes l.at);
      same : (d : Variable) → slice_index_or (attributes l.classes l.at) l.k d ≡ slice_index_or (attributes l.classes l.c) l.k d;
    }

abbrev pub decreases-up : goal.decreases-up
decreases-up l = rank l.order l.at
