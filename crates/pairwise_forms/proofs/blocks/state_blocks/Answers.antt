use Rattle.std.proofs.Common.{length}
use Rattle.pairwise_forms.proofs.BlockLaws.{none_apart, next_apart, variables_kept, left_exist}
use Rattle.pairwise_forms.proofs.blocks.state_blocks.Goals as goal

pub loop-left-init : goal.loop-left-init
loop-left-init c = record {
  apart = none_apart c.args.maker.now c.args.vars.now;
  variables = c.requires.variables;
}

pub state_block-requires : goal.state_block-requires
state_block-requires c =
    let t = c.loop-left.invariant.apart in
    record {
      variables =
          left_exist (length c.loop-left.maker.domains) t.done c.loop-left.left.now c.args.vars.now
          c.split.result.0.now c.split.result.1.now c.split.ensures.whole t.parts
          c.loop-left.invariant.variables;
    }

pub loop-left-preserved : goal.loop-left-preserved
loop-left-preserved c =
    let said = c.in_ok-state_block.ensures.apart in
    record {
      apart =
          next_apart c.args.maker.now c.loop-left.maker c.state_block.new.maker c.loop-left.left.now
          c.split.result.0.now c.split.result.1.now c.args.vars.now c.split.ensures.whole
          c.loop-left.invariant.apart said;
      variables =
          variables_kept c.loop-left.maker c.state_block.new.maker c.args.vars.now said.adds.grows
          c.loop-left.invariant.variables;
    }
