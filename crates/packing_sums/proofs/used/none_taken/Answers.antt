use Rattle.std.proofs.Common.{◌^◌, arith}
use Rattle.form_build.proofs.Linears.{linear_more}
use Rattle.packing_sums.proofs.HostLaws.{none_taken_bound}
use Rattle.packing_sums.proofs.used.none_taken.Goals as goal

pub returns : goal.returns
returns c = record {
  linear = linear_more 0 (2 ^ 39) c.args.maker.now.domains c.amount-sum.result (omega arith) (c.amount-sum.ensures.linear c.args.maker.now.domains);
  bound = none_taken_bound c.args.maker.now c.args.p.now c.amount-sum.result c.in_ok-rest.rest c.requires c.amount-sum.ensures.value c.in_ok-rest.ensures.list;
}
