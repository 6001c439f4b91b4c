use Rattle.std.proofs.Common.{ℤ, ap, arith, of_z, w64}
use Rattle.std.proofs.lemmas.Grind.{common_steps}
use Rattle.form_build.proofs.Linears.{IsTimes, times_at, times_linear, times_low, times_high}
use Rattle.form_build.proofs.form.Linear.times.Goals as goal

made : (c : goal.After-of) → IsTimes c.args.c c.args.self.now c.of.result
made c = record {
  terms = grind (arith, common_steps);
  offset = grind (arith, common_steps);
}

pub returns-clause-value : goal.returns-clause-value
returns-clause-value c a = times_at c.args.c c.args.self.now c.of.result a (made c)

pub returns-clause-linear : goal.returns-clause-linear
returns-clause-linear c boxes n h = times_linear c.args.c c.args.self.now c.of.result boxes n (λ e. c.if-c-eq0.false (ap (λ (z : ℤ). of_z w64 z) e)) (made c) h

pub returns-clause-low : goal.returns-clause-low
returns-clause-low c boxes = times_low c.args.c c.args.self.now c.of.result boxes (made c)

pub returns-clause-high : goal.returns-clause-high
returns-clause-high c boxes = times_high c.args.c c.args.self.now c.of.result boxes (made c)
