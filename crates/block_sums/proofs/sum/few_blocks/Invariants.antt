use Rattle.std.proofs.Common.{◌+◌, ◌<◌, ◌≤◌, length}
use Rattle.ground_form.specs.Bounds.{weight_of}
use Rattle.form_build.specs.Worlds.{Defines}
use Rattle.block_sums.specs.Blocks.{AreBlocks}
use Rattle.block_sums.proofs.sum.few_blocks.Given as goal

-- the blocks stand for the terms, and with their number what was added is no more than the terms
abbrev pub invariant-loop-b : goal.invariant-loop-b
invariant-loop-b l =
    record {
      blocks : AreBlocks l.b (weight_of l.terms l.fn.b.domains) l.terms l.blocks.items;
      variables : 64 < length l.terms → length l.b.domains + length l.blocks.items ≤ length l.fn.b.domains + length l.terms;
      constraints : 64 < length l.terms → length l.b.cons + length l.blocks.items ≤ length l.fn.b.cons + length l.terms;
      adds : Defines l.fn.b l.b;
    }

abbrev pub decreases-loop-b : goal.decreases-loop-b
decreases-loop-b l = length l.blocks.items
