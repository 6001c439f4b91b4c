use Rattle.std.proofs.Common.{◌^◌, arith}
use Rattle.form_build.proofs.Linears.{linear_more}
use Rattle.form_truths.proofs.PartLaws.{fixed_flag_of}
use Rattle.form_truths.proofs.products.fixed_flag.Goals as goal

pub linear-requires-clause-linear : goal.linear-requires-clause-linear
linear-requires-clause-linear c = linear_more 1 (2 ^ 60) c.args.m.now.domains c.number_of-value.result (omega arith) (c.number_of-value.ensures.linear c.args.m.now.domains)

pub returns-clause-flag : goal.returns-clause-flag
returns-clause-flag c = fixed_flag_of c.linear.new.self c.in_ok-f.f c.args.b c.args.m.now.domains c.number_of-value.result c.in_ok-f.ensures.variable (c.number_of-value.ensures.lies c.args.m.now.domains) c.number_of-value.ensures.value
