use Rattle.std.proofs.Common.{◌≡◌, ◌+◌, ◌*◌, length}
use Rattle.block_sums.specs.Blocks.{block}
use Rattle.block_sums.proofs.BlockSteps.{AreCut}
use Rattle.block_sums.proofs.blocks.blocks_of.Given as goal

-- the blocks so far, and what is left
abbrev pub invariant-loop-rest : goal.invariant-loop-rest
invariant-loop-rest l =
    record {
      cut : AreCut l.fn.b l.b l.terms l.blocks.items l.rest;
      short : block * length l.blocks.items + length l.rest ≡ length l.terms;
    }

abbrev pub decreases-loop-rest : goal.decreases-loop-rest
decreases-loop-rest l = length l.rest
