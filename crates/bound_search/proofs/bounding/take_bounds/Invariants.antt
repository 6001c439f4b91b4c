use Rattle.std.proofs.Common.{◌≡◌, ◌++◌, drop, length}
use Rattle.run_law.specs.Replay.{first_false}
use Rattle.bound_search.specs.BoundLists.{numbered_from, first_or}
use Rattle.bound_search.proofs.bounding.take_bounds.Given as goal

abbrev pub invariant-loop-c : goal.invariant-loop-c
invariant-loop-c l = record {
  clauses : l.clauses ++ drop l.c-index l.list ≡ l.initial.clauses ++ l.list;
  asked : l.asked.items ++ numbered_from (length l.clauses) (drop l.c-index l.list)
      ≡ numbered_from (length l.initial.clauses) l.list;
  first : first_or l.first (first_false l.boxes (length l.clauses) (drop l.c-index l.list))
      ≡ first_false l.boxes (length l.initial.clauses) l.list;
}
