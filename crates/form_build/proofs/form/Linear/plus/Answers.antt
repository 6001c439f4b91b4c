use Rattle.std.proofs.Common.{List, ℤ, ℕ, ◌∙◌, ap, arith}
use Rattle.std.proofs.lemmas.Grind.{common_steps}
use Rattle.form_build.specs.Merged.{merged}
use Rattle.form_build.proofs.Linears.{IsPlus, plus_at, plus_linear, plus_low, plus_high}
use Rattle.form_build.proofs.form.Linear.plus.Goals as goal

made : (c : goal.After-of) → IsPlus c.args.self.now c.args.o.now c.of.result
made c = record {
  terms = c.of.ensures.terms ∙ c.in_ok-terms.ensures ∙ ap (λ (z : List (ℤ × ℕ)). merged z c.items-2.result.now) c.items.ensures ∙ ap (λ (z : List (ℤ × ℕ)). merged c.args.self.now.terms z) c.items-2.ensures;
  offset = grind (arith, common_steps);
}

pub returns-clause-value : goal.returns-clause-value
returns-clause-value c a = plus_at c.args.self.now c.args.o.now c.of.result a (made c)

pub returns-clause-linear : goal.returns-clause-linear
returns-clause-linear c boxes m n h k = plus_linear c.args.self.now c.args.o.now c.of.result boxes m n (made c) h k

pub returns-clause-low : goal.returns-clause-low
returns-clause-low c boxes = plus_low c.args.self.now c.args.o.now c.of.result boxes (made c)

pub returns-clause-high : goal.returns-clause-high
returns-clause-high c boxes = plus_high c.args.self.now c.args.o.now c.of.result boxes (made c)
