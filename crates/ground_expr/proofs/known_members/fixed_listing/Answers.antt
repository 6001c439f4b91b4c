use Rattle.ground_expr.proofs.MemberLaws.{fixed_objects}
use Rattle.ground_expr.proofs.known_members.fixed_listing.Goals as goal

pub returns-then-are_sure : goal.returns-then-are_sure
returns-then-are_sure c =
    fixed_objects c.args.members c.in_ok-objects.objects c.deref.result.now c.deref-then-are_sure.result.now c.deref.ensures.value c.deref-then-are_sure.ensures.value c.in_ok-objects.ensures
    (c.are_sure.ensures c.if-are_sure.true)
