use Rattle.std.proofs.Common.{◌+◌, ◌*◌, ◌≤◌, length}
use Rattle.form_truths.specs.Disjunctions.{block}
use Rattle.form_truths.proofs.BlockSteps.{AreCut}
use Rattle.form_truths.proofs.blocks.blocks_of.Given as goal

-- the blocks so far, and what is left
abbrev pub invariant-loop-rest : goal.invariant-loop-rest
invariant-loop-rest l = record {
  cut : AreCut l.fn.m l.m l.d l.blocks l.rest;
  short : block * length l.blocks.1 + length l.rest ≤ length l.d.1 + block;
}

abbrev pub decreases-loop-rest : goal.decreases-loop-rest
decreases-loop-rest l = length l.rest
