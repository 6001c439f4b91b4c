use Rattle.std.proofs.Common.{◌∙◌, ℕ, nat_eq, sym, subst}
use Rattle.signed_clause.specs.Clauses.{Boxes}
use Rattle.ground_form.specs.Meaning.{value_of}
use Rattle.form_build.specs.Forms.{truth_at}
use Rattle.form_build.specs.Worlds.{IsInBoxes}
use Rattle.identity_forms.specs.Choices.{group}
use Rattle.identity_forms.proofs.ChoiceLaws.{in_by_map, groups_at}
use Rattle.identity_forms.proofs.literals.is_object.Goals as goal

pub returns-in_ok-set-in-Mapped-clause-value : goal.returns-in_ok-set-in-Mapped-clause-value
returns-in_ok-set-in-Mapped-clause-value c a w =
    in_by_map c.args.maker.now.domains c.args.c.now c.in-Mapped.x c.in-Mapped.field-1 (λ (m : ℕ). nat_eq m c.args.n) (group c.args.groups.now.entries c.args.n) a (truth_at c.literal.result a) c.in-Mapped.is c.requires.choice w
    (groups_at c.args.c.now c.in-Mapped.x c.in-Mapped.field-1 c.args.groups.now.entries c.in-Mapped.is c.requires.groups c.args.n)
    (c.literal.ensures.value a (subst (λ (z : Boxes). IsInBoxes z a) (sym c.domains.ensures.items) w) ∙ c.in_ok-set-in-Mapped.ensures (value_of a c.in-Mapped.x))
