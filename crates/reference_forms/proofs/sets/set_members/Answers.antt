use Rattle.std.proofs.Common.{take}
use Rattle.object_alloc.specs.Cells.{cells}
use Rattle.object_alloc.specs.Members.{member_at}
use Rattle.reference_forms.specs.Attributes.{element_at}
use Rattle.reference_forms.proofs.MemberLists.{filter_step}
use Rattle.reference_forms.proofs.sets.set_members.Goals as goal

pub loop-cell-preserved : goal.loop-cell-preserved
loop-cell-preserved c = record {
  members = λ a w. filter_step (member_at (cells c.args.objects.now) (take c.args.maker.now.search a)) c.args.owned.now c.loop-cell.cell-index 0 _ _ _ c.loop-cell-test.true (c.in_ok-push_member.ensures.members a w) (c.loop-cell.invariant.members a w);
  objects = filter_step (element_at (cells c.args.objects.now)) c.args.owned.now c.loop-cell.cell-index 0 _ _ _ c.loop-cell-test.true c.in_ok-push_member.ensures.objects c.loop-cell.invariant.objects;
  variables = c.in_ok-push_member.ensures.variables;
}
