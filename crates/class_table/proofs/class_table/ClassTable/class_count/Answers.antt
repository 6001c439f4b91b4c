use Rattle.std.proofs.Common.{subst}
use Rattle.graph_walk.specs.Cycles.{rank}
use Rattle.class_table.specs.Sound.{IsSound}
use Rattle.class_table.proofs.class_table.ClassTable.class_count.Goals as goal

pub returns-clause-sound : goal.returns-clause-sound
returns-clause-sound c =
    let t = c.self.invariant.table in
    subst IsSound c.self.view_is (record {
      parents = t.parents;
      ranks = record { rank = rank c.self.inside.order.items; falls = t.falls; below = t.below };
      nesting = c.self.invariant.nesting;
      differ = t.differ;
      closed = c.self.invariant.closed;
      named = c.self.invariant.named;
    })
