use Rattle.std.proofs.Common.{[]}
use Rattle.form_build.specs.Sums.{least_linear, greatest_linear}
use Rattle.form_build.proofs.Growth.{adds_nothing}
use Rattle.quantifier_forms.proofs.Narrowness.{turned_round}
use Rattle.quantifier_forms.proofs.shares.sum_where.Goals as goal

pub returns-in_ok-r-in-Fixed-true-clause-adds : goal.returns-in_ok-r-in-Fixed-true-clause-adds
returns-in_ok-r-in-Fixed-true-clause-adds c = adds_nothing [] c.args.maker.now

pub returns-in-Fixed-false-clause-adds : goal.returns-in-Fixed-false-clause-adds
returns-in-Fixed-false-clause-adds c = adds_nothing [] c.args.maker.now

pub returns-in_ok-r-in-In-clause-sum : goal.returns-in_ok-r-in-In-clause-sum
returns-in_ok-r-in-In-clause-sum c =
    turned_round c.times_truth.new.m.domains (least_linear c.args.f.now c.args.maker.now.domains) (greatest_linear c.args.f.now c.args.maker.now.domains) c.in_ok-r-in-In.r c.in_ok-r-in-In.ensures.sum
