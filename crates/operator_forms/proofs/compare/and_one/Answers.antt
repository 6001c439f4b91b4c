use Rattle.std.proofs.Common.{◌^◌, ◌+◌, arith}
use Rattle.form_build.proofs.Linears.{linear_more}
use Rattle.operator_forms.proofs.Differences.{fits_plus}
use Rattle.operator_forms.proofs.compare.and_one.Goals as goal

pub plus-requires-clause-left : goal.plus-requires-clause-left
plus-requires-clause-left c = fits_plus c.args.maker.now.domains (2 ^ 59) c.args.f.now (omega arith) c.requires

pub plus-requires-clause-right : goal.plus-requires-clause-right
plus-requires-clause-right c = fits_plus c.args.maker.now.domains 1 c.number-one.result (omega arith) (c.number-one.ensures.linear c.args.maker.now.domains)

pub returns-clause-linear : goal.returns-clause-linear
returns-clause-linear c = linear_more (2 ^ 59 + 1) (2 ^ 60) c.args.maker.now.domains c.in_ok-r.r (omega arith) (c.in_ok-r.ensures.linear c.args.maker.now.domains (2 ^ 59) 1 c.requires (c.number-one.ensures.linear c.args.maker.now.domains))
