use Rattle.std.proofs.Common.{◌≡◌, length}
use Rattle.std.specs.Prelude.{All}
use Rattle.graph_walk.proofs.heirs.zeros.Given as goal

abbrev pub invariant-loop-node : goal.invariant-loop-node
invariant-loop-node l =
    record {
      size : length l.counts.items ≡ l._node;
      zeros : All (λ n. n ≡ 0) l.counts.items;
    }
