use Rattle.form_build.proofs.Growth.{defines_more}
use Rattle.packing_sums.proofs.PackingLaws.{packing_kept}
use Rattle.goal_rows.proofs.parts.state_parts.Goals as goal

pub loop-part-init : goal.loop-part-init
loop-part-init c = record {
  packing = packing_kept c.args.maker.now c.state_total.new.maker c.args.p.now c.in_ok-state_total.ensures.grows c.requires.packing;
  adds = c.in_ok-state_total.ensures;
}

pub loop-part-preserved : goal.loop-part-preserved
loop-part-preserved c =
    let more = c.in_ok-state_part.ensures in
    record {
      packing = packing_kept c.loop-part.maker c.state_part.new.maker c.args.p.now more.grows c.loop-part.invariant.packing;
      adds = defines_more c.args.maker.now c.loop-part.maker c.state_part.new.maker c.loop-part.invariant.adds more;
    }
