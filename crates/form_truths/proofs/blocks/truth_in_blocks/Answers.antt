use Rattle.std.proofs.Common.{◌∙◌}
use Rattle.form_build.proofs.Growth.{world_before, defines_more}
use Rattle.form_truths.proofs.blocks.truth_in_blocks.Goals as goal

pub loop-m-init : goal.loop-m-init
loop-m-init c = record {
  value = c.in_ok-blocks.ensures.value;
  exist = c.in_ok-blocks.ensures.exist;
  adds = c.in_ok-blocks.ensures.adds;
}

pub loop-m-preserved : goal.loop-m-preserved
loop-m-preserved c =
    let before = c.loop-m.invariant in
    let made = c.in_ok-blocks-2.ensures in
    record {
      value = λ a w. made.value a w ∙ before.value a (world_before c.loop-m.m c.blocks_of-in-loop-m.new.m a made.adds.grows w);
      exist = made.exist;
      adds = defines_more c.args.m.now c.loop-m.m c.blocks_of-in-loop-m.new.m before.adds made.adds;
    }

pub returns-clause-value : goal.returns-clause-value
returns-clause-value c a w =
    let made = c.in_ok-t-2.ensures in
    made.value a w ∙ c.loop-m.invariant.value a (world_before c.loop-m.m c.truth_of_few-2.new.m a made.adds.grows w)

pub returns-clause-adds : goal.returns-clause-adds
returns-clause-adds c = defines_more c.args.m.now c.loop-m.m c.truth_of_few-2.new.m c.loop-m.invariant.adds c.in_ok-t-2.ensures.adds
