use Rattle.std.proofs.Common.{[]}
use Rattle.form_build.proofs.Growth.{adds_nothing, defines_more}
use Rattle.packing_sums.proofs.PackingLaws.{packing_kept}
use Rattle.stated_facts.proofs.NoughtLaws.{nought_kept}
use Rattle.goal_rows.proofs.adding.add_for_sets.Goals as goal

pub loop-one-init : goal.loop-one-init
loop-one-init c = record {
  nought = c.requires.nought;
  packing = c.requires.packing;
  adds = adds_nothing [] c.args.maker.now;
}

pub loop-one-preserved : goal.loop-one-preserved
loop-one-preserved c =
    let there = c.loop-one.invariant in
    let more = c.in_ok-add_for_set.ensures in
    let old = c.loop-one.maker in
    let new = c.add_for_set.new.maker in
    record {
      nought = nought_kept old new c.args.zero.now more.grows there.nought;
      packing = packing_kept old new c.args.p.now more.grows there.packing;
      adds = defines_more c.args.maker.now old new there.adds more;
    }
