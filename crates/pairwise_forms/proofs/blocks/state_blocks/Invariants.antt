use Rattle.std.proofs.Common.{◌<◌, length, All}
use Rattle.pairwise_forms.proofs.BlockLaws.{AreApart}
use Rattle.pairwise_forms.proofs.blocks.state_blocks.Given as goal

-- the blocks so far have been told apart
abbrev pub invariant-loop-left : goal.invariant-loop-left
invariant-loop-left l = record {
  apart : AreApart l.fn.maker l.maker l.left l.vars;
  variables : All (λ x. x < length l.maker.domains) l.vars;
}

abbrev pub decreases-loop-left : goal.decreases-loop-left
decreases-loop-left l = length l.left
