use Rattle.std.proofs.Common.{[], sym, subst, ◌∙◌}
use Rattle.signed_clause.specs.Clauses.{Boxes}
use Rattle.form_build.specs.Forms.{linear_at}
use Rattle.form_build.specs.Worlds.{IsInBoxes}
use Rattle.form_build.proofs.Growth.{adds_nothing}
use Rattle.form_truths.proofs.Singles.{line_over, only_nought}
use Rattle.form_truths.proofs.compare.is_zero.Goals as goal

pub returns-then-is_number-clause-adds : goal.returns-then-is_number-clause-adds
returns-then-is_number-clause-adds c = adds_nothing [] c.args.m.now

pub line_zero-requires-clause-line : goal.line_zero-requires-clause-line
line_zero-requires-clause-line c = line_over c.in-Some.o.line c.in-Some.o.variable c.args.f.now c.args.m.now.domains c.in-Some.ensures c.requires.linear

pub returns-in-Some-clause-adds : goal.returns-in-Some-clause-adds
returns-in-Some-clause-adds c = adds_nothing [] c.args.m.now

pub returns-clause-value : goal.returns-clause-value
returns-clause-value c a w =
    c.literal.ensures.value a (subst (λ (z : Boxes). IsInBoxes z a) (sym c.domains.ensures.items) w.within)
    ∙ c.range.ensures.values _ ∙ only_nought _ (linear_at c.args.f.now a) (c.in_ok-y.ensures.value a w)
