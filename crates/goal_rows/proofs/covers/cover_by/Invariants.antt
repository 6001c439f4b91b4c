use Rattle.goal_rows.specs.Covers.{IsCover}
use Rattle.goal_rows.proofs.covers.cover_by.Given as goal

abbrev pub invariant-loop-f : goal.invariant-loop-f
invariant-loop-f l = IsCover l.maker l.x l.cover
