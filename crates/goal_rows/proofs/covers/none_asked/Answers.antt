use Rattle.std.proofs.Common.{◌^◌, arith}
use Rattle.form_build.proofs.Linears.{linear_more}
use Rattle.goal_rows.proofs.CoverLaws.{none_asked_bound}
use Rattle.goal_rows.proofs.covers.none_asked.Goals as goal

pub returns : goal.returns
returns c = record {
  linear = linear_more 1 (2 ^ 20) c.args.maker.now.domains c.amount-sum.result (omega arith) (c.amount-sum.ensures.linear c.args.maker.now.domains);
  bound = none_asked_bound c.args.maker.now c.args.x c.amount-sum.result c.in_ok-rest.rest c.requires c.amount-sum.ensures.value c.in_ok-rest.ensures;
}
