use Rattle.std.proofs.Common.{[]}
use Rattle.form_build.proofs.Growth.{adds_nothing, defines_more}
use Rattle.stated_facts.proofs.NoughtLaws.{nought_kept}
use Rattle.goal_rows.proofs.adding.add_by.Goals as goal

pub loop-k-init : goal.loop-k-init
loop-k-init c = record {
  nought = c.requires.nought;
  adds = adds_nothing [] c.args.maker.now;
}

pub loop-k-preserved : goal.loop-k-preserved
loop-k-preserved c =
    let there = c.loop-k.invariant in
    let more = c.in_ok-add_for.ensures in
    let old = c.loop-k.maker in
    let new = c.add_for.new.maker in
    record {
      nought = nought_kept old new c.args.zero.now more.grows there.nought;
      adds = defines_more c.args.maker.now old new there.adds more;
    }
