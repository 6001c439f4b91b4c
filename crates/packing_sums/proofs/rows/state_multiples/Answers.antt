use Rattle.std.proofs.Common.{[], ◌^◌}
use Rattle.form_build.proofs.Growth.{adds_nothing, defines_more}
use Rattle.form_build.proofs.Keeping.{linear_kept}
use Rattle.stated_facts.proofs.NoughtLaws.{follows_kept, nought_kept}
use Rattle.packing_sums.proofs.rows.state_multiples.Goals as goal

pub loop-m-init : goal.loop-m-init
loop-m-init c = record {
  row = c.requires.row;
  follows = c.requires.follows;
  nought = c.requires.nought;
  adds = adds_nothing [] c.args.maker.now;
}

pub loop-m-preserved : goal.loop-m-preserved
loop-m-preserved c =
    let there = c.loop-m.invariant in
    let more = c.in_ok-state_if_small.ensures in
    let old = c.loop-m.maker in
    let new = c.state_if_small.new.maker in
    record {
      row = linear_kept (2 ^ 40) old new c.args.row.now more.grows there.row;
      follows = follows_kept old new c.args.row.now more.grows there.follows;
      nought = nought_kept old new c.args.zero.now more.grows there.nought;
      adds = defines_more c.args.maker.now old new there.adds more;
    }
