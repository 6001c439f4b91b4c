use Rattle.std.proofs.Common.{All}
use Rattle.stated_rows.specs.Following.{FollowsIn}
use Rattle.stated_rows.proofs.packings.following.Given as goal

abbrev pub invariant-loop-p : goal.invariant-loop-p
invariant-loop-p l = All (FollowsIn l.maker) l.out.items
