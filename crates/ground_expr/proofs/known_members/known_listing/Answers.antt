use Rattle.ground_expr.proofs.MemberLaws.{listing_left}
use Rattle.ground_expr.proofs.known_members.known_listing.Goals as goal

pub returns-in_ok-left-in-Some : goal.returns-in_ok-left-in-Some
returns-in_ok-left-in-Some c =
    listing_left c.args.known.now c.args.list c.in-Some.members c.in_ok-kept-in-Some.kept c.deref.result.now c.in_ok-left-in-Some.left c.in-Some.is c.deref.ensures.value c.in_ok-kept-in-Some.ensures
    c.in_ok-left-in-Some.ensures
