use Rattle.std.proofs.Common.{◌∙◌, ℕ, ℤ, List, ap, refl, sym, subst}
use Rattle.class_table.specs.declared.table.Resolved.{Resolved}
use Rattle.class_table.specs.declared.table.Resolved.TheVariants as shape
use Rattle.object_alloc.specs.Cells.{domain_of}
use Rattle.conf_limits.specs.Measures.{shape_interval, is_narrow}
use Rattle.expr_forms.specs.FormBounds.{IsMap}
use Rattle.reference_forms.specs.Candidates.{HaveShape}
use Rattle.reference_forms.specs.Dots.{IsMappedChoice}
use Rattle.reference_forms.specs.Lists.{slots_from}
use Rattle.reference_forms.proofs.DotLaws.{at_shape, nothing_made, some_shape}
use Rattle.reference_forms.proofs.MappedForms.{span_form, truth_form, choice_form, ref_form}
use Rattle.reference_forms.proofs.PartLaws.{one_form, many_form}
use Rattle.reference_forms.proofs.SlotLaws.{set_form}
use Rattle.reference_forms.proofs.dots.chosen_form.Goals as goal

pub chosen_cell-requires-clause-domain : goal.chosen_cell-requires-clause-domain
chosen_cell-requires-clause-domain c = record { values = _; is = ap (domain_of c.args.objects.now) c.in-Span.is }

pub chosen_cell-requires-in-Truth-clause-domain : goal.chosen_cell-requires-in-Truth-clause-domain
chosen_cell-requires-in-Truth-clause-domain c = record { values = _; is = ap (domain_of c.args.objects.now) c.in-Truth.is }

pub chosen_cell-requires-in-Choice-clause-domain : goal.chosen_cell-requires-in-Choice-clause-domain
chosen_cell-requires-in-Choice-clause-domain c = record { values = _; is = refl }

pub chosen_cell-requires-in-Ref-clause-domain : goal.chosen_cell-requires-in-Ref-clause-domain
chosen_cell-requires-in-Ref-clause-domain c = record { values = _; is = refl }

pub variable-requires : goal.variable-requires
variable-requires c = record { exists = (c.in_ok-y-in-Span.ensures.cell _ (ap (domain_of c.args.objects.now) c.in-Span.is)).exists }

pub variable_truth-requires : goal.variable_truth-requires
variable_truth-requires c = record { exists = (c.in_ok-y-in-Truth.ensures.cell _ (ap (domain_of c.args.objects.now) c.in-Truth.is)).exists }

pub variable_choice-requires : goal.variable_choice-requires
variable_choice-requires c = record { exists = (c.in_ok-y-in-Choice.ensures.cell _ refl).exists }

pub variable_choice-requires-in-Ref : goal.variable_choice-requires-in-Ref
variable_choice-requires-in-Ref c = record { exists = (c.in_ok-y-in-Ref.ensures.cell _ refl).exists }

pub extent-requires : goal.extent-requires
extent-requires c = record {
  class = some_shape c.args.objects.now c.args.maker.now c.args.x c.args.pairs.now c.args.k (shape.RefSet c.in-RefSet.class c.in-RefSet.field-1) c.count-count.ensures.sound c.domains-before.ensures.well_made c.domains-before.ensures.some c.requires.there
      (subst (λ (z : Resolved). IsMap c.args.maker.now.domains (HaveShape c.args.objects.now c.args.k z) c.args.x c.args.pairs.now) c.in-RefSet.is c.requires.map);
}

pub returns-in_ok-number-in-Span-clause-form : goal.returns-in_ok-number-in-Span-clause-form
returns-in_ok-number-in-Span-clause-form c =
    at_shape c.args.objects.now c.chosen_cell.new.maker c.args.x c.args.pairs.now c.args.k _ c.args.shape _ c.in-Span.is
    (span_form c.args.objects.now c.chosen_cell.new.maker c.args.x c.args.pairs.now c.args.k c.in-Span.field-0 c.in-Span.field-1 c.in_ok-y-in-Span.y c.in_ok-number-in-Span.number
    (sym (ap (λ (z : Resolved). is_narrow (shape_interval z)) c.in-Span.is) ∙ c.requires.narrow) c.domains-after.ensures.well_made c.domains-after.ensures.some
    (c.in_ok-y-in-Span.ensures.cell _ (ap (domain_of c.args.objects.now) c.in-Span.is)) c.in_ok-number-in-Span.ensures.value c.in_ok-number-in-Span.ensures.linear c.in_ok-number-in-Span.ensures.lies)

pub returns-in_ok-y-in-Truth-clause-form : goal.returns-in_ok-y-in-Truth-clause-form
returns-in_ok-y-in-Truth-clause-form c =
    at_shape c.args.objects.now c.chosen_cell-in-Truth.new.maker c.args.x c.args.pairs.now c.args.k _ c.args.shape _ c.in-Truth.is
    (truth_form c.args.objects.now c.chosen_cell-in-Truth.new.maker c.args.x c.args.pairs.now c.args.k c.in_ok-y-in-Truth.y c.variable_truth.result
    (c.in_ok-y-in-Truth.ensures.cell _ (ap (domain_of c.args.objects.now) c.in-Truth.is)) c.variable_truth.ensures.variable c.variable_truth.ensures.value)

pub returns-in_ok-y-in-Choice-clause-form : goal.returns-in_ok-y-in-Choice-clause-form
returns-in_ok-y-in-Choice-clause-form c =
    at_shape c.args.objects.now c.chosen_cell-in-Choice.new.maker c.args.x c.args.pairs.now c.args.k _ c.args.shape _ c.in-Choice.is
    (choice_form c.args.objects.now c.chosen_cell-in-Choice.new.maker c.args.x c.args.pairs.now c.args.k c.in-Choice.enumeration c.in_ok-y-in-Choice.y c.variable_choice.result
    (c.in_ok-y-in-Choice.ensures.cell _ refl) c.variable_choice.ensures.choice c.variable_choice.ensures.value)

pub returns-in_ok-y-in-Ref-clause-form : goal.returns-in_ok-y-in-Ref-clause-form
returns-in_ok-y-in-Ref-clause-form c =
    at_shape c.args.objects.now c.chosen_cell-in-Ref.new.maker c.args.x c.args.pairs.now c.args.k _ c.args.shape _ c.in-Ref.is
    (ref_form c.args.objects.now c.chosen_cell-in-Ref.new.maker c.args.x c.args.pairs.now c.args.k c.in-Ref.class c.in_ok-y-in-Ref.y c.variable_choice-in-Ref.result
    (some_shape c.args.objects.now c.args.maker.now c.args.x c.args.pairs.now c.args.k (shape.Ref c.in-Ref.class) c.count-count.ensures.sound c.domains-before.ensures.well_made c.domains-before.ensures.some c.requires.there
    (subst (λ (z : Resolved). IsMap c.args.maker.now.domains (HaveShape c.args.objects.now c.args.k z) c.args.x c.args.pairs.now) c.in-Ref.is c.requires.map))
    c.domains-after-in-Ref.ensures.well_made c.domains-after-in-Ref.ensures.some (c.in_ok-y-in-Ref.ensures.cell _ refl) c.variable_choice-in-Ref.ensures.choice c.variable_choice-in-Ref.ensures.value)

pub returns-in_ok-parts-in-One-clause-form : goal.returns-in_ok-parts-in-One-clause-form
returns-in_ok-parts-in-One-clause-form c =
    at_shape c.args.objects.now c.args.maker.now c.args.x c.args.pairs.now c.args.k _ c.args.shape _ c.in-One.is
    (one_form c.args.objects.now c.args.maker.now c.args.x c.args.pairs.now c.args.k c.count-count.ensures.sound c.requires.there c.in-One.class c.mapped_choice.result
    (subst (λ (z : Resolved). IsMap c.args.maker.now.domains (HaveShape c.args.objects.now c.args.k z) c.args.x c.args.pairs.now) c.in-One.is c.requires.map)
    (subst (λ (z : List (ℤ × ℕ)). IsMappedChoice c.args.x z c.mapped_choice.result) c.in_ok-parts-in-One.ensures c.mapped_choice.ensures))

pub returns-in_ok-parts-in-One-clause-adds : goal.returns-in_ok-parts-in-One-clause-adds
returns-in_ok-parts-in-One-clause-adds c = nothing_made c.args.maker.now

pub returns-in_ok-members-in-Many-clause-form : goal.returns-in_ok-members-in-Many-clause-form
returns-in_ok-members-in-Many-clause-form c =
    at_shape c.args.objects.now c.args.maker.now c.args.x c.args.pairs.now c.args.k _ c.args.shape _ c.in-Many.is
    (many_form c.args.objects.now c.args.maker.now c.args.x c.args.pairs.now c.args.k c.count-count.ensures.sound c.requires.there c.in-Many.field-0 c.in-Many.field-1 c.in_ok-members-in-Many.members
    (subst (λ (z : Resolved). IsMap c.args.maker.now.domains (HaveShape c.args.objects.now c.args.k z) c.args.x c.args.pairs.now) c.in-Many.is c.requires.map) c.in_ok-members-in-Many.ensures)

pub returns-in_ok-members-in-Many-clause-adds : goal.returns-in_ok-members-in-Many-clause-adds
returns-in_ok-members-in-Many-clause-adds c = nothing_made c.args.maker.now

pub returns-in_ok-map-in-RefSet-clause-form : goal.returns-in_ok-map-in-RefSet-clause-form
returns-in_ok-map-in-RefSet-clause-form c =
    at_shape c.args.objects.now c.args.maker.now c.args.x c.args.pairs.now c.args.k _ c.args.shape _ c.in-RefSet.is
    (set_form c.args.objects.now c.args.maker.now c.args.k c.requires.cells c.count-count.ensures.sound c.in-RefSet.class c.in-RefSet.field-1 c.args.x c.args.pairs.now c.in_ok-map-in-RefSet.map c.in_ok-slots-in-RefSet.slots c.requires.there
    c.in_ok-map-in-RefSet.ensures.items
    (subst (λ (z : Resolved). IsMap c.args.maker.now.domains (HaveShape c.args.objects.now c.args.k z) c.args.x c.args.pairs.now) c.in-RefSet.is c.requires.map)
    (c.in_ok-slots-in-RefSet.ensures ∙ ap (slots_from c.args.objects.now c.args.k c.args.pairs.now 0) (c.items.ensures.items ∙ c.in_ok-members-in-RefSet.ensures.extent)))

pub returns-in_ok-map-in-RefSet-clause-adds : goal.returns-in_ok-map-in-RefSet-clause-adds
returns-in_ok-map-in-RefSet-clause-adds c = nothing_made c.args.maker.now
