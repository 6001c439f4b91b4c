use Rattle.std.proofs.Common.{◌^◌, ◌+◌, arith}
use Rattle.form_build.proofs.Linears.{numbers_within, linear_more}
use Rattle.stated_costs.proofs.adding.sum_of.Goals as goal

pub plus-requires-clause-left : goal.plus-requires-clause-left
plus-requires-clause-left c = numbers_within c.args.maker.now.domains (2 ^ 19) (2 ^ 61) c.in-Some.own (omega arith) c.in-Some.ensures

pub plus-requires-clause-right : goal.plus-requires-clause-right
plus-requires-clause-right c = numbers_within c.args.maker.now.domains (2 ^ 19) (2 ^ 61) c.in-Some-small_number.number (omega arith) c.in-Some-small_number.ensures

pub returns : goal.returns
returns c =
    linear_more (2 ^ 19 + 2 ^ 19) (2 ^ 20) c.args.maker.now.domains c.in_ok-f.f (omega arith)
    (c.in_ok-f.ensures.linear c.args.maker.now.domains (2 ^ 19) (2 ^ 19) c.in-Some.ensures c.in-Some-small_number.ensures)
