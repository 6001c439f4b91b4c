use Rattle.std.proofs.Common.{rules, w64, refl, ◌∙◌}
use Rattle.std.proofs.lemmas.Int.{to_z-of_z}
use Rattle.stated_facts.proofs.EqualLaws.{row_linear, row_follows}
use Rattle.stated_facts.proofs.equals.row_of.Goals as goal

pub returns-clause-linear : goal.returns-clause-linear
returns-clause-linear c =
    row_linear c.args.maker.now.domains c.args.terms.now c.args.bound.value _ c.in_ok-own.ensures (to_z-of_z w64 c.turned-offset.result.value (search rules) ∙ c.turned-offset.ensures)
    (c.if-not-are_light.ensures.terms refl) (c.if-not-are_light.ensures.light refl) (c.if-not-is_near_zero.ensures refl)

pub returns-clause-follows : goal.returns-clause-follows
returns-clause-follows c = row_follows c.args.maker.now c.args.terms.now c.args.bound.value _ c.requires.stands c.in_ok-own.ensures (to_z-of_z w64 c.turned-offset.result.value (search rules) ∙ c.turned-offset.ensures)
