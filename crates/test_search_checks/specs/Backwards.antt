-- The way back along a trail. What a reader believes after this file: nothing that a public
-- contract needs.
use Rattle.std.specs.Prelude.{◌≡◌, ℕ, ◌≤◌, List, length, slice_set, reverse, take}
use Rattle.signed_clause.specs.Clauses.{Boxes, Literals, box_of}
use Rattle.fd_store.specs.declared.trail.Moved.{Moved}
use Rattle.fd_store.specs.Levels.{Stack}
use Rattle.fd_store.specs.Trails.{entries_of, stack_of}
use Rattle.learn_clauses.specs.Learnt.{domains_of, IsFrom, AreFrom, CameFrom}

-- the boxes before the entry are those behind it with its box put back, and it is from its clause
pub record IsStepBack (clauses : List Literals) (m : Moved) (behind before : Boxes) : Type 0 where
  pub before_is : before ≡ slice_set behind m.var m.before
  pub from : IsFrom m.from clauses before m.var (box_of behind m.var)

-- with so many entries left, in these boxes: where the entries left came from the clauses all did
pub record IsBack (clauses : List Literals) (s : Stack) (trail : List Moved) (left : ℕ)
    (boxes : Boxes) : Type 0 where
  pub some_left : left ≤ length trail
  pub came : AreFrom clauses boxes (entries_of (reverse (take left trail))) → CameFrom clauses s
  pub same_domains : domains_of (stack_of boxes (reverse (take left trail))) ≡ domains_of s
