use Rattle.std.proofs.Common.{◌∙◌, ℕ, ℤ, List, sym, subst}
use Rattle.expr_forms.specs.declared.form.Choice.{Choice}
use Rattle.expr_forms.specs.declared.form.Choice.TheVariants as choice
use Rattle.expr_forms.specs.FormBounds.{IsMap, IsChoiceOf, IsFrom}
use Rattle.reference_forms.specs.Candidates.{HaveShape}
use Rattle.reference_forms.specs.Dots.{IsDotForm}
use Rattle.reference_forms.proofs.CandidateLaws.{candidates_map}
use Rattle.reference_forms.proofs.DotLaws.{cell_dot, nothing_made}
use Rattle.reference_forms.proofs.dots.dot_form.Goals as goal

pub mapped_form-requires-clause-map : goal.mapped_form-requires-clause-map
mapped_form-requires-clause-map c =
    let may : IsChoiceOf c.args.maker.now.domains (HaveShape c.args.objects.now c.args.k c.args.shape) (choice.Cell c.in-Cell.x) =
    subst (λ (z : Choice). IsChoiceOf c.args.maker.now.domains (HaveShape c.args.objects.now c.args.k c.args.shape) z) c.in-Cell.is c.requires.choice in
    let named : IsFrom c.args.objects.now c.args.maker.now.domains c.args.class (choice.Cell c.in-Cell.x) =
    subst (λ (z : Choice). IsFrom c.args.objects.now c.args.maker.now.domains c.args.class z) c.in-Cell.is c.requires.class in
    subst (λ (z : List (ℤ × ℕ)). IsMap c.args.maker.now.domains (HaveShape c.args.objects.now c.args.k c.args.shape) c.in-Cell.x z) (sym (c.deref.ensures.value ∙ c.in_ok-pairs-in-Cell.ensures.list))
    (candidates_map c.args.objects.now c.args.maker.now.domains c.args.class c.in-Cell.x (HaveShape c.args.objects.now c.args.k c.args.shape) named.1 may.1)

pub returns-in_ok-form-in-Fixed-clause-adds : goal.returns-in_ok-form-in-Fixed-clause-adds
returns-in_ok-form-in-Fixed-clause-adds c = nothing_made c.args.maker.now

pub returns-in_ok-form-in-Cell-clause-dot : goal.returns-in_ok-form-in-Cell-clause-dot
returns-in_ok-form-in-Cell-clause-dot c =
    let may : IsChoiceOf c.args.maker.now.domains (HaveShape c.args.objects.now c.args.k c.args.shape) (choice.Cell c.in-Cell.x) =
    subst (λ (z : Choice). IsChoiceOf c.args.maker.now.domains (HaveShape c.args.objects.now c.args.k c.args.shape) z) c.in-Cell.is c.requires.choice in
    let named : IsFrom c.args.objects.now c.args.maker.now.domains c.args.class (choice.Cell c.in-Cell.x) =
    subst (λ (z : Choice). IsFrom c.args.objects.now c.args.maker.now.domains c.args.class z) c.in-Cell.is c.requires.class in
    subst (λ (z : Choice). IsDotForm c.args.objects.now c.mapped_form.new.maker c.args.class z c.args.k c.args.shape c.in_ok-form-in-Cell.form) (sym c.in-Cell.is)
    (cell_dot c.args.objects.now c.mapped_form.new.maker c.args.class c.args.k c.args.shape c.args.maker.now c.in-Cell.x c.deref.result.now c.in_ok-form-in-Cell.form c.in_ok-form-in-Cell.ensures.adds.grows may.0 named.1
    (c.deref.ensures.value ∙ c.in_ok-pairs-in-Cell.ensures.list) c.in_ok-form-in-Cell.ensures.form)
