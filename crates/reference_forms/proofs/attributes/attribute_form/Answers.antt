use Rattle.std.proofs.Common.{◌∙◌, ap, refl, sym, subst, take}
use Rattle.class_table.specs.declared.table.Resolved.{Resolved}
use Rattle.std.specs.Prelude.{filter_map}
use Rattle.object_alloc.specs.Cells.{domain_of, cells}
use Rattle.object_alloc.specs.Members.{member_at}
use Rattle.conf_eval.specs.Fitting.{HasShape}
use Rattle.conf_eval.specs.Meaning.{first_object}
use Rattle.conf_limits.specs.Measures.{shape_interval, is_narrow}
use Rattle.reference_forms.specs.Attributes.{element_at}
use Rattle.reference_forms.proofs.CellLaws.{shape_there}
use Rattle.reference_forms.proofs.Shapes.{at_shape, span_form, truth_form, choice_form, ref_form, one_form, many_form, set_form}
use Rattle.reference_forms.proofs.attributes.attribute_form.Goals as goal

pub variable-requires : goal.variable-requires
variable-requires c = record { exists = (c.cell_of-x.ensures.cell _ (ap (domain_of c.args.objects.now) c.in-Span.is)).exists }

pub variable_truth-requires : goal.variable_truth-requires
variable_truth-requires c = record { exists = (c.cell_of-x-in-Truth.ensures.cell _ (ap (domain_of c.args.objects.now) c.in-Truth.is)).exists }

pub variable_choice-requires : goal.variable_choice-requires
variable_choice-requires c = record { exists = (c.cell_of-x-in-Choice.ensures.cell _ refl).exists }

pub variable_choice-requires-in-Ref : goal.variable_choice-requires-in-Ref
variable_choice-requires-in-Ref c = record { exists = (c.cell_of-x-in-Ref.ensures.cell _ refl).exists }

pub returns-in_ok-number-in-Span-clause-form : goal.returns-in_ok-number-in-Span-clause-form
returns-in_ok-number-in-Span-clause-form c =
    at_shape c.args.objects.now c.args.maker.now c.args.owner c.args.k _ c.args.shape _ c.in-Span.is
    (span_form c.args.objects.now c.args.maker.now c.args.owner c.args.k c.in-Span.field-0 c.in-Span.field-1 c.cell_of-x.result c.in_ok-number-in-Span.number
    (sym (ap (λ (z : Resolved). is_narrow (shape_interval z)) c.in-Span.is) ∙ c.requires.narrow) c.domains-domains.ensures.some
    (c.cell_of-x.ensures.cell _ (ap (domain_of c.args.objects.now) c.in-Span.is)) c.in_ok-number-in-Span.ensures.value c.in_ok-number-in-Span.ensures.linear c.in_ok-number-in-Span.ensures.lies)

pub returns-in-Truth-clause-form : goal.returns-in-Truth-clause-form
returns-in-Truth-clause-form c =
    at_shape c.args.objects.now c.args.maker.now c.args.owner c.args.k _ c.args.shape _ c.in-Truth.is
    (truth_form c.args.objects.now c.args.maker.now c.args.owner c.args.k c.cell_of-x-in-Truth.result c.variable_truth.result
    (c.cell_of-x-in-Truth.ensures.cell _ (ap (domain_of c.args.objects.now) c.in-Truth.is)) c.variable_truth.ensures.variable c.variable_truth.ensures.value)

pub returns-in-Choice-clause-form : goal.returns-in-Choice-clause-form
returns-in-Choice-clause-form c =
    at_shape c.args.objects.now c.args.maker.now c.args.owner c.args.k _ c.args.shape _ c.in-Choice.is
    (choice_form c.args.objects.now c.args.maker.now c.args.owner c.args.k c.in-Choice.enumeration c.cell_of-x-in-Choice.result c.variable_choice.result
    (c.cell_of-x-in-Choice.ensures.cell _ refl) c.variable_choice.ensures.choice c.variable_choice.ensures.value)

pub returns-in-Ref-clause-form : goal.returns-in-Ref-clause-form
returns-in-Ref-clause-form c =
    at_shape c.args.objects.now c.args.maker.now c.args.owner c.args.k _ c.args.shape _ c.in-Ref.is
    (ref_form c.args.objects.now c.args.maker.now c.args.owner c.args.k c.in-Ref.class c.cell_of-x-in-Ref.result c.variable_choice-in-Ref.result
    (shape_there c.args.objects.now c.args.owner c.args.k _ c.count-count.ensures.sound (subst (λ (z : Resolved). HasShape c.args.objects.now c.args.owner c.args.k z) c.in-Ref.is c.requires.shape))
    c.domains-domains.ensures.well_made c.domains-domains.ensures.some (c.cell_of-x-in-Ref.ensures.cell _ refl) c.variable_choice-in-Ref.ensures.choice c.variable_choice-in-Ref.ensures.value)

pub returns-in-One-clause-form : goal.returns-in-One-clause-form
returns-in-One-clause-form c =
    at_shape c.args.objects.now c.args.maker.now c.args.owner c.args.k _ c.args.shape _ c.in-One.is
    (one_form c.args.objects.now c.args.maker.now c.args.owner c.args.k c.in-One.class c.first-object.result c.count-count.ensures.sound
    (subst (λ (z : Resolved). HasShape c.args.objects.now c.args.owner c.args.k z) c.in-One.is c.requires.shape) (c.first-object.ensures ∙ ap first_object c.parts.ensures.parts))

pub returns-in_ok-parts-in-Many-clause-form : goal.returns-in_ok-parts-in-Many-clause-form
returns-in_ok-parts-in-Many-clause-form c =
    at_shape c.args.objects.now c.args.maker.now c.args.owner c.args.k _ c.args.shape _ c.in-Many.is
    (many_form c.args.objects.now c.args.maker.now c.args.owner c.args.k c.in-Many.field-0 c.in-Many.field-1 c.in_ok-parts-in-Many.parts c.count-count.ensures.sound
    (subst (λ (z : Resolved). HasShape c.args.objects.now c.args.owner c.args.k z) c.in-Many.is c.requires.shape) (c.in_ok-parts-in-Many.ensures ∙ c.parts-in-Many.ensures.parts))

pub returns-in_ok-members-in-RefSet-clause-form : goal.returns-in_ok-members-in-RefSet-clause-form
returns-in_ok-members-in-RefSet-clause-form c =
    let ms = c.in_ok-members-in-RefSet.ensures in
    let own = c.own_cells.ensures.cells in
    at_shape c.args.objects.now c.args.maker.now c.args.owner c.args.k _ c.args.shape _ c.in-RefSet.is
    (set_form c.args.objects.now c.args.maker.now c.args.owner c.args.k c.in-RefSet.field-0 c.in-RefSet.field-1 c.in_ok-members-in-RefSet.members c.count-count.ensures.sound
    (subst (λ (z : Resolved). HasShape c.args.objects.now c.args.owner c.args.k z) c.in-RefSet.is c.requires.shape)
    (λ a w. ms.members a w ∙ ap (filter_map (member_at (cells c.args.objects.now) (take c.args.maker.now.search a))) own)
    (ms.objects ∙ ap (filter_map (element_at (cells c.args.objects.now))) own) ms.variables)
