use Rattle.std.proofs.Common.{◌<◌, ◌++◌, length, All}
use Rattle.pairwise_forms.proofs.BlockLaws.{AreStated}
use Rattle.pairwise_forms.proofs.blocks.state_block.Given as goal

-- those so far have been told apart from the block
abbrev pub invariant-loop-left : goal.invariant-loop-left
invariant-loop-left l = record {
  stated : AreStated l.fn.maker l.maker l.block l.left l.behind;
  variables : All (λ x. x < length l.maker.domains) (l.block ++ l.behind);
}

abbrev pub decreases-loop-left : goal.decreases-loop-left
decreases-loop-left l = length l.left
