use Rattle.std.proofs.Common.{◌^◌, arith}
use Rattle.pairwise_forms.proofs.LoadSteps.{fits_times, fits_plus, less_value}
use Rattle.pairwise_forms.proofs.loads.difference.Goals as goal

pub times-requires : goal.times-requires
times-requires c = record { numbers = fits_times c.args.maker.now.domains c.args.g.now c.requires.right }

pub plus-requires-clause-left : goal.plus-requires-clause-left
plus-requires-clause-left c = fits_plus c.args.maker.now.domains (2 ^ 58) c.args.f.now (omega arith) c.requires.left

pub plus-requires-clause-right : goal.plus-requires-clause-right
plus-requires-clause-right c = fits_plus c.args.maker.now.domains (2 ^ 58) c.in_ok-less.less (omega arith) (c.in_ok-less.ensures.linear c.args.maker.now.domains (2 ^ 58) c.requires.right)

pub returns-clause-value : goal.returns-clause-value
returns-clause-value c a = less_value c.args.f.now c.args.g.now c.in_ok-less.less c.in_ok-r.r a (c.in_ok-less.ensures.value a) (c.in_ok-r.ensures.value a)

pub returns-clause-linear : goal.returns-clause-linear
returns-clause-linear c = c.in_ok-r.ensures.linear c.args.maker.now.domains (2 ^ 58) (2 ^ 58) c.requires.left (c.in_ok-less.ensures.linear c.args.maker.now.domains (2 ^ 58) c.requires.right)
