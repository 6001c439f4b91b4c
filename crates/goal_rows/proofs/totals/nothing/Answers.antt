use Rattle.std.proofs.Common.{◌^◌, arith}
use Rattle.std.proofs.lemmas.Int.{ints}
use Rattle.form_build.proofs.Linears.{linear_more}
use Rattle.goal_rows.proofs.totals.nothing.Goals as goal

pub returns : goal.returns
returns c = record {
  linear = linear_more 0 (2 ^ 20) c.args.maker.now.domains c.amount-sum.result (omega arith) (c.amount-sum.ensures.linear c.args.maker.now.domains);
  adds = λ e a w all. let nil = c.amount-sum.ensures.value a in omega (arith, ints, nil);
  takes = λ e a w all. let nil = c.amount-sum.ensures.value a in omega (arith, ints, nil);
}
