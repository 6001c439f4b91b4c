-- Hints: for each cell the value that it had before, if it had one. The cells of a leaf have all a
-- hint, or none of them has one; each hint lies in its cell's domain; and a reference set that has
-- hints has as many members in them as its shape says.
use Rattle.std.specs.Prelude.{◌≡◌, ◌++◌, ◌⊎◌, ℕ, suc, cond, List, [], ◌∷◌, Option, None, Some, ℤ, length, map, replicate}
use Rattle.class_table.specs.declared.table.Resolved.{Resolved}
use Rattle.class_table.specs.declared.table.Resolved.TheVariants.{Span, Truth, Choice, One, Many, Ref, RefSet}
use Rattle.class_table.specs.Outline.{Outline}
use Rattle.object_alloc.specs.declared.object.Cell.{Cell}
use Rattle.object_alloc.specs.declared.object.Domain.{Domain}
use Rattle.object_alloc.specs.declared.object.Leaf.{Leaf}
use Rattle.object_alloc.specs.Cells.{leaf_cells}
use Rattle.object_alloc.specs.Configurations.{AreValues, IsInDomain}
use Rattle.object_alloc.specs.Members.{is_one}
use Rattle.object_alloc.specs.Walk.{walk, leaves_in}

-- how many of these values are 1: of a reference set's cells, so many objects are in
abbrev pub ones : List ℤ → ℕ
ones [] = 0
ones (v ∷ vs) = cond (is_one v) (suc (ones vs)) (ones vs)

-- the values of the cells of a leaf of this shape: a set's are as many members as the shape says
abbrev pub IsSized : Resolved → List ℤ → Type 0
IsSized (RefSet c n) vs = ones vs ≡ n
IsSized (Span low high) vs = Unit {0}
IsSized Truth vs = Unit {0}
IsSized (Choice e) vs = Unit {0}
IsSized (Ref c) vs = Unit {0}
IsSized (One c) vs = Unit {0}
IsSized (Many c n) vs = Unit {0}

-- each cell of the leaf has a hint
pub record IsLeafGiven (o : Outline) (l : Leaf) (hs : List (Option ℤ)) : Type 0 where
  pub values : List ℤ
  pub all : hs ≡ map Some values
  pub within : AreValues o (leaf_cells o l) values
  pub size : IsSized l.shape values

-- no cell of the leaf has a hint, or each has one
abbrev pub IsLeafHinted : Outline → Leaf → List (Option ℤ) → Type 0
IsLeafHinted o l hs = (hs ≡ replicate (length (leaf_cells o l)) None) ⊎ IsLeafGiven o l hs

-- the hints for the cells of these leaves, leaf by leaf
abbrev pub AreLeavesHinted : Outline → List Leaf → List (Option ℤ) → Type 0
AreLeavesHinted o [] hs = hs ≡ []
AreLeavesHinted o (l ∷ ls) hs =
    (here : List (Option ℤ)) × (behind : List (Option ℤ)) × (hs ≡ here ++ behind)
    × IsLeafHinted o l here × AreLeavesHinted o ls behind

-- the hints for the cells of a model
abbrev pub AreHints : Outline → List (Option ℤ) → Type 0
AreHints o hs = AreLeavesHinted o (leaves_in (walk o)) hs

-- Cell by cell: there are as many hints as cells, and each lies in its cell's domain

-- the hint, if there is one, lies in the domain
abbrev pub IsHintOf : Outline → Domain → Option ℤ → Type 0
IsHintOf o d None = Unit {0}
IsHintOf o d (Some v) = IsInDomain o d v

-- one hint, or none, for each of these cells, in order
abbrev pub AreCellHints : Outline → List Cell → List (Option ℤ) → Type 0
AreCellHints o [] [] = Unit {0}
AreCellHints o [] (h ∷ hs) = ⊥
AreCellHints o (c ∷ cs) [] = ⊥
AreCellHints o (c ∷ cs) (h ∷ hs) = IsHintOf o c.domain h × AreCellHints o cs hs
