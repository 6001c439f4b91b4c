-- What is learnt from a conflict, and that prunings came from clauses.
use Rattle.std.specs.Prelude.{◌≡◌, ◌↔◌, ℕ, ◌<◌, ◌≤◌, ◌-◌, true, false, List, ◌∷◌, Option, Some, None, length, slice_set, []}
use Rattle.signed_clause.specs.Ranges.{Ranges, IsSubset}
use Rattle.signed_clause.specs.Clauses.{Boxes, Literals, box_of, set_of, false_in, unit_of, IsClause}
pub use Rattle.numbered_clauses.specs.Numbered.{clause_at}
use Rattle.fd_store.specs.Levels.{Entry, Level, Stack}
use Rattle.fd_store.specs.Undo.{dropped}
use Rattle.learn_clauses.specs.Walk.{back_to, trail_of, walk_from}

-- the first boxes of the lowest level
abbrev pub domains_from : Level → List Level → Boxes
domains_from top [] = top.first
domains_from top (l ∷ ls) = domains_from l ls

-- the domains: the boxes with which level 0 began
abbrev pub domains_of : Stack → Boxes
domains_of s = domains_from s.top s.below

-- the clause that pruned x was made, and in the boxes before it was unit, with the new box of x as
-- what it leaves; a decision comes from no clause
abbrev pub IsFrom : Option ℕ → List Literals → Boxes → ℕ → Ranges → Type 0
IsFrom None clauses before x now = Unit {0}
IsFrom (Some j) clauses before x now =
    (j < length clauses) × (unit_of before (clause_at clauses j) ≡ Some (x, now))

-- each entry is from its clause; the boxes are those behind the first of the list
abbrev pub AreFrom : List Literals → Boxes → List Entry → Type 0
AreFrom clauses boxes [] = Unit {0}
AreFrom clauses boxes (e ∷ es) =
    IsFrom e.from clauses (slice_set boxes e.var e.before) e.var (box_of boxes e.var)
    × AreFrom clauses (slice_set boxes e.var e.before) es

-- the prunings came from the clauses
abbrev pub CameFrom : List Literals → Stack → Type 0
CameFrom clauses s = AreFrom clauses s.top.now (trail_of s)

-- each value that the clause names is one of its variable's domain
abbrev pub IsWithinDomains : Boxes → Literals → Type 0
IsWithinDomains domains c = (x : ℕ) → IsSubset (set_of c x) (box_of domains x)

-- the level stands; the clause is false in its first boxes and not in the present boxes of the
-- level below; and it is the highest such level
pub record IsDroppedBy (c : Literals) (s : Stack) (level : ℕ) : Type 0 where
  pub exists : level ≤ length s.below
  pub is_false : false_in (dropped level s).top.first c ≡ true
  pub not_below : false_in (dropped (level - 1) s).top.now c ≡ false
  pub highest : back_to c s ≡ Some (dropped (level - 1) s)

-- what is learnt from the conflict of clause n: steps and clause are the walk's; the clause lies
-- within the domains; the level is 0 exactly where it is the empty one, and else the one that it
-- drops
pub record IsLearnt (clauses : List Literals) (s : Stack) (n : ℕ) (c : Literals)
    (steps : List (ℕ × ℕ)) (level : ℕ) : Type 0 where
  pub walk_is : walk_from s clauses n ≡ Some (record { steps = steps; clause = c })
  pub form : IsClause c
  pub within : IsWithinDomains (domains_of s) c
  pub closes : (level ≡ 0) ↔ (c ≡ [])
  pub drops : 0 < level → IsDroppedBy c s level
