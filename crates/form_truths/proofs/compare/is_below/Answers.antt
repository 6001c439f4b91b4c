use Rattle.std.proofs.Common.{[], pos}
use Rattle.std.specs.Prelude.{int_le}
use Rattle.form_build.specs.Forms.{linear_at}
use Rattle.form_build.proofs.Growth.{adds_nothing}
use Rattle.form_truths.proofs.Singles.{line_over}
use Rattle.form_truths.proofs.compare.is_below.Goals as goal

pub returns-then-is_number-clause-adds : goal.returns-then-is_number-clause-adds
returns-then-is_number-clause-adds c = adds_nothing [] c.args.m.now

pub line_below-requires-clause-line : goal.line_below-requires-clause-line
line_below-requires-clause-line c = line_over c.in-Some.o.line c.in-Some.o.variable c.args.f.now c.args.m.now.domains c.in-Some.ensures c.requires.linear

pub returns-in-Some-clause-adds : goal.returns-in-Some-clause-adds
returns-in-Some-clause-adds c = adds_nothing [] c.args.m.now

pub returns-clause-value : goal.returns-clause-value
returns-clause-value c a w = c.is_one.ensures.value a (int_le (linear_at c.args.f.now a) (pos 0)) (c.in_ok-y.ensures.flag.value a w)
