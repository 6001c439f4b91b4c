use Rattle.std.proofs.Common.{[], ◌++◌, length, refl}
use Rattle.pairwise_forms.proofs.BlockLaws.{first_stated, next_stated, variables_kept, next_exist}
use Rattle.pairwise_forms.proofs.blocks.state_block.Goals as goal

pub state_joined-requires : goal.state_joined-requires
state_joined-requires c = record {
  variables =
      next_exist (length c.args.maker.now.domains) c.args.block.now [] c.args.behind.now c.args.behind.now
      c.split.result.0.now c.split.result.1.now c.split.ensures.whole refl c.requires.variables;
}

pub loop-left-init : goal.loop-left-init
loop-left-init c =
    let said = c.in_ok-state_joined.ensures.says in
    record {
      stated =
          first_stated c.args.maker.now c.state_joined.new.maker c.args.block.now c.split.result.0.now
          c.split.result.1.now c.args.behind.now c.split.ensures.whole said;
      variables =
          variables_kept c.args.maker.now c.state_joined.new.maker (c.args.block.now ++ c.args.behind.now)
          said.grows c.requires.variables;
    }

pub state_joined-requires-in-loop-left : goal.state_joined-requires-in-loop-left
state_joined-requires-in-loop-left c =
    let t = c.loop-left.invariant.stated in
    record {
      variables =
          next_exist (length c.loop-left.maker.domains) c.args.block.now t.done c.loop-left.left.now
          c.args.behind.now c.split-in-loop-left.result.0.now c.split-in-loop-left.result.1.now
          c.split-in-loop-left.ensures.whole t.parts c.loop-left.invariant.variables;
    }

pub loop-left-preserved : goal.loop-left-preserved
loop-left-preserved c =
    let said = c.in_ok-state_joined-2.ensures.says in
    record {
      stated =
          next_stated c.args.maker.now c.loop-left.maker c.state_joined-in-loop-left.new.maker
          c.args.block.now c.loop-left.left.now c.split-in-loop-left.result.0.now
          c.split-in-loop-left.result.1.now c.args.behind.now c.split-in-loop-left.ensures.whole
          c.loop-left.invariant.stated said;
      variables =
          variables_kept c.loop-left.maker c.state_joined-in-loop-left.new.maker
          (c.args.block.now ++ c.args.behind.now) said.grows c.loop-left.invariant.variables;
    }
