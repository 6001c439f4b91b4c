-- The clauses that a run has to wait for. What a reader believes after this file: where they are
-- kept, and how a learnt clause and a Bound line change that.
use Rattle.std.specs.Prelude.{ℕ, Bool, true, false, cond, ◌&&◌, ◌||◌, ◌==◌, List, [], ◌∷◌, ◌++◌, length}
use Rattle.signed_clause.specs.SetAlgebra.{is_within}
use Rattle.signed_clause.specs.Clauses.{Boxes, Literals, box_of}
use Rattle.fd_store.specs.Levels.{Level, Stack}
use Rattle.bound_search.specs.BoundLists.{numbered_from}

-- learnt clauses that are watched, with their numbers; the clauses of the last Bound line, with
-- theirs; and learnt clauses that are true at level 0
pub record Awaited : Type 0 where
  pub watched : List (ℕ × Literals)
  pub asked : List (ℕ × Literals)
  pub sure : List Literals

abbrev pub awaited : List (ℕ × Literals) → List (ℕ × Literals) → List Literals → Awaited
awaited watched asked sure = record { watched = watched; asked = asked; sure = sure }

-- the clauses of a Bound line, numbered from n on, take the place of those of the last one
abbrev pub asking : ℕ → List Literals → Awaited → Awaited
asking n cs w = awaited w.watched (numbered_from n cs) w.sure

-- a learnt clause of number n is watched, or kept as one that is true at level 0
abbrev pub keeping : Bool → ℕ → Literals → Awaited → Awaited
keeping sure n c w =
    awaited (cond sure w.watched (w.watched ++ (n, c) ∷ [])) w.asked
    (cond sure (w.sure ++ c ∷ []) w.sure)

-- ---- clauses that are true at level 0

-- what the clause says of a variable is true whatever value of its box that takes
abbrev pub holds_in : Boxes → Literals → Bool
holds_in boxes [] = false
holds_in boxes (l ∷ c) = is_within (box_of boxes l.0) l.1 || holds_in boxes c

-- it is so in the last level, which is level 0
abbrev pub is_sure : Stack → Literals → Bool
is_sure levels c = length levels.below == 0 && holds_in levels.top.now c

-- the present boxes of the lowest level
abbrev pub lowest : Level → List Level → Boxes
lowest l [] = l.now
lowest l (m ∷ ms) = lowest m ms

-- those of level 0
abbrev pub ground_boxes : Stack → Boxes
ground_boxes levels = lowest levels.top levels.below
