use Rattle.std.proofs.Common.{◌∙◌, sym, take}
use Rattle.object_alloc.specs.Cells.{cells}
use Rattle.reference_forms.proofs.CellLaws.{cell_there, cell_searched}
use Rattle.reference_forms.proofs.MemberLists.{element_low, member_pushed, object_pushed, truth_front}
use Rattle.reference_forms.proofs.sets.push_member.Goals as goal

pub variable_truth-is-requires : goal.variable_truth-is-requires
variable_truth-is-requires c =
    record { exists = cell_there c.args.objects.now c.args.maker.now c.args.cell c.requires.cells (element_low (cells c.args.objects.now) c.args.cell c.in-Some.object (sym c.element_of.ensures ∙ c.in-Some.is)) }

pub returns-clause-members : goal.returns-clause-members
returns-clause-members c a w =
    let low = cell_searched c.args.objects.now c.args.maker.now c.args.cell c.requires.cells (element_low (cells c.args.objects.now) c.args.cell c.in-Some.object (sym c.element_of.ensures ∙ c.in-Some.is)) in
    member_pushed (cells c.args.objects.now) (take c.args.maker.now.search a) a c.args.cell _ _ _ c.in_ok-push.ensures.items (sym c.element_of.ensures ∙ c.in-Some.is)
    (truth_front _ c.args.maker.now.search c.args.cell a low (c.variable_truth-is.ensures.value a w.within))

pub returns-clause-objects : goal.returns-clause-objects
returns-clause-objects c = object_pushed (cells c.args.objects.now) c.args.cell _ _ _ c.in_ok-push.ensures.items (sym c.element_of.ensures ∙ c.in-Some.is)
