use Rattle.std.proofs.Common.{pos, ◌^◌, ◌+◌, arith}
use Rattle.std.specs.Prelude.{int_le}
use Rattle.form_build.specs.Forms.{linear_at}
use Rattle.form_build.proofs.Linears.{numbers_within, linear_more}
use Rattle.stated_facts.proofs.NoughtLaws.{row_says}
use Rattle.packing_sums.proofs.RowLaws.{implied}
use Rattle.packing_sums.proofs.rows.state_with.Goals as goal

pub plus-requires-clause-left : goal.plus-requires-clause-left
plus-requires-clause-left c = numbers_within c.args.maker.now.domains (2 ^ 58) (2 ^ 61) c.args.row.now (omega arith) c.requires.row

pub plus-requires-clause-right : goal.plus-requires-clause-right
plus-requires-clause-right c = numbers_within c.args.maker.now.domains (2 ^ 58) (2 ^ 61) c.in_ok-more.more (omega arith) c.in_ok-more.ensures.linear

pub state_below-requires-clause-linear : goal.state_below-requires-clause-linear
state_below-requires-clause-linear c =
    linear_more (2 ^ 58 + 2 ^ 58) (2 ^ 60) c.args.maker.now.domains c.in_ok-f.f (omega arith)
    (c.in_ok-f.ensures.linear c.args.maker.now.domains (2 ^ 58) (2 ^ 58) c.requires.row c.in_ok-more.ensures.linear)

pub returns : goal.returns
returns c =
    implied c.args.maker.now c.state_below.new.m (λ a. int_le (linear_at c.in_ok-f.f a) (pos 0))
    (row_says c.args.maker.now c.args.row.now c.in_ok-more.more c.in_ok-f.f c.requires.follows (c.in_ok-more.ensures.below c.requires.allowed) c.in_ok-f.ensures.value)
    c.in_ok-state_below.ensures.says
