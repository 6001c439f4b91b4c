use Rattle.std.proofs.Common.{◌^◌, arith}
use Rattle.form_build.proofs.Linears.{linear_more}
use Rattle.packing_sums.proofs.used.use_of.Goals as goal

pub amount_less-requires-clause-linear : goal.amount_less-requires-clause-linear
amount_less-requires-clause-linear c = linear_more _ (2 ^ 41) c.args.maker.now.domains c.in_ok-own.own (omega (arith, c.requires.near)) c.in_ok-own.ensures.linear
