use Rattle.std.proofs.Common.{◌∙◌, ℕ, pos, sym, ap, subst}
use Rattle.signed_clause.specs.Ranges.{has}
use Rattle.signed_clause.specs.Clauses.{Boxes}
use Rattle.ground_form.specs.Meaning.{value_of}
use Rattle.form_build.specs.Forms.{truth_at}
use Rattle.form_build.specs.Worlds.{IsInBoxes}
use Rattle.identity_forms.specs.Choices.{values_where}
use Rattle.identity_forms.proofs.ChoiceLaws.{in_by_map}
use Rattle.identity_forms.proofs.literals.is_in.Goals as goal

pub returns-in_ok-those-in-Mapped-clause-value : goal.returns-in_ok-those-in-Mapped-clause-value
returns-in_ok-those-in-Mapped-clause-value c a w =
    in_by_map c.args.maker.now.domains c.args.c.now c.in-Mapped.x c.in-Mapped.map (λ (n : ℕ). has c.args.set (pos n)) c.deref-in-Mapped.result.now a (truth_at c.literal-in-Mapped.result a) c.in-Mapped.is c.requires.choice w
    (c.deref-in-Mapped.ensures.value ∙ c.in_ok-values-in-Mapped.ensures ∙ ap (values_where (λ (n : ℕ). has c.args.set (pos n))) c.deref.ensures.value)
    (c.literal-in-Mapped.ensures.value a (subst (λ (z : Boxes). IsInBoxes z a) (sym c.domains-in-Mapped.ensures.items) w) ∙ c.in_ok-those-in-Mapped.ensures (value_of a c.in-Mapped.x))
