use Rattle.std.proofs.Common.{◌≡◌, ◌<◌, ℕ, false}
use Rattle.clause_watches.specs.Watching.{acts, clause_of}
use Rattle.bound_search.proofs.awaited.first_acting.Given as goal

abbrev pub invariant-loop-k : goal.invariant-loop-k
invariant-loop-k l = (i : ℕ) → i < l.k → acts l.boxes (clause_of l.asked i) ≡ false
