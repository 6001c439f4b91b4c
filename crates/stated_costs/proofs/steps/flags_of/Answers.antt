use Rattle.std.proofs.Common.{[], arith}
use Rattle.form_build.proofs.Growth.{adds_nothing, defines_more, no_less}
use Rattle.stated_costs.proofs.steps.flags_of.Goals as goal

pub loop-part-init : goal.loop-part-init
loop-part-init c = record { exists = c.requires.exists; adds = adds_nothing [] c.args.maker.now }

pub loop-part-preserved : goal.loop-part-preserved
loop-part-preserved c =
    let there = c.loop-part.invariant in
    let more = c.in_ok-f.ensures in
    let less = no_less c.loop-part.maker c.flag_in.new.maker more.grows in
    record {
      exists = omega (arith, less, there.exists);
      adds = defines_more c.args.maker.now c.loop-part.maker c.flag_in.new.maker there.adds more;
    }
