use Rattle.std.proofs.Common.{◌^◌, ◌+◌, arith, refl}
use Rattle.form_build.proofs.Linears.{numbers_within, linear_more}
use Rattle.stated_facts.proofs.NoughtLaws.{combined_nought}
use Rattle.stated_facts.proofs.noughts.combined.Goals as goal

pub plus-requires-clause-left : goal.plus-requires-clause-left
plus-requires-clause-left c = numbers_within c.args.maker.now.domains (2 ^ 20) (2 ^ 61) c.args.zero.now.sum (omega arith) c.requires.zero.linear

pub plus-requires-clause-right : goal.plus-requires-clause-right
plus-requires-clause-right c = numbers_within c.args.maker.now.domains (2 ^ 58) (2 ^ 61) c.in_ok-more.more (omega arith) c.in_ok-more.ensures.linear

pub is_small-requires : goal.is_small-requires
is_small-requires c =
    linear_more (2 ^ 20 + 2 ^ 58) (2 ^ 60) c.args.maker.now.domains c.in_ok-sum.sum (omega arith)
    (c.in_ok-sum.ensures.linear c.args.maker.now.domains (2 ^ 20) (2 ^ 58) c.requires.zero.linear c.in_ok-more.ensures.linear)

pub returns : goal.returns
returns c =
    combined_nought c.args.maker.now c.args.zero.now c.args.other.now c.is_allowed-up.result c.is_allowed-down.result c.in_ok-more.more (record { sum = c.in_ok-sum.sum; adds = c.both-adds.result; takes = c.both-takes.result }) c.requires.zero
    (λ t. c.in_ok-more.ensures.below (c.is_allowed-up.ensures t)) (λ t. c.in_ok-more.ensures.above (c.is_allowed-down.ensures t)) c.in_ok-sum.ensures.value (c.if-not-is_small.ensures refl) c.both-adds.ensures c.both-takes.ensures
