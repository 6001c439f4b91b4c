use Rattle.std.proofs.Common.{[]}
use Rattle.form_build.proofs.Growth.{adds_nothing, defines_more}
use Rattle.stated_facts.proofs.NoughtLaws.{nought_kept}
use Rattle.goal_rows.proofs.adding.add_goal_sums.Goals as goal

pub returns-then-not-are_small : goal.returns-then-not-are_small
returns-then-not-are_small c = record { adds = adds_nothing [] c.args.maker.now }

pub add_with_packings-requires-clause-nought : goal.add_with_packings-requires-clause-nought
add_with_packings-requires-clause-nought c =
    nought_kept c.args.maker.now c.add_bounds.new.maker c.in_ok-zero.zero c.in_ok-add_bounds.ensures.grows c.in_ok-zero.ensures

pub returns : goal.returns
returns c = record {
  adds = defines_more c.args.maker.now c.add_bounds.new.maker c.add_with_packings.new.maker c.in_ok-add_bounds.ensures c.in_ok-add_with_packings.ensures;
}
