use Rattle.std.proofs.Common.{[]}
use Rattle.form_build.proofs.Growth.{adds_nothing, defines_more}
use Rattle.stated_facts.proofs.NoughtLaws.{nought_kept}
use Rattle.goal_rows.proofs.totals.add_each.Goals as goal

pub loop-k-init : goal.loop-k-init
loop-k-init c = record {
  nought = c.requires;
  adds = adds_nothing [] c.args.maker.now;
}

pub loop-k-preserved : goal.loop-k-preserved
loop-k-preserved c =
    let there = c.loop-k.invariant in
    let more = c.in_ok-add_without.ensures in
    let old = c.loop-k.maker in
    let new = c.add_without.new.maker in
    record {
      nought = nought_kept old new c.args.covers.now more.grows there.nought;
      adds = defines_more c.args.maker.now old new there.adds more;
    }

pub returns-then-not-are_few : goal.returns-then-not-are_few
returns-then-not-are_few c = adds_nothing [] c.args.maker.now
