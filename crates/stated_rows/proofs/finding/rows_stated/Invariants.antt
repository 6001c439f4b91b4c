use Rattle.std.proofs.Common.{All}
use Rattle.stated_rows.specs.Following.{FollowsIn}
use Rattle.stated_rows.proofs.finding.rows_stated.Given as goal

abbrev pub invariant-loop-k : goal.invariant-loop-k
invariant-loop-k l = All (FollowsIn l.maker) l.rows.items
