-- Paths from the whole of a configuration to its parts, and their order.
use Rattle.std.specs.Prelude.{ℕ, List}
use Rattle.std.specs.declared.cmp.Ordering.{Ordering}
use Rattle.std.specs.declared.cmp.Ordering.TheVariants.{Less, Greater}
use Rattle.std.specs.Ordering.{nat_cmp}
use Rattle.std.specs.Cmp.Lexicographic.{slice_cmp}

-- a step to an element of a row, by its number from 0, or to what stands under a key
pub data PathStep : Type 0 where
  index : ℕ → PathStep
  key : List ℕ → PathStep

abbrev pub Path : Type 0
Path = List PathStep

-- elements by their numbers, before keys by their bytes
abbrev pub step_cmp : PathStep → PathStep → Ordering
step_cmp (index m) (index n) = nat_cmp m n
step_cmp (index m) (key l) = Less
step_cmp (key k) (index n) = Greater
step_cmp (key k) (key l) = slice_cmp nat_cmp k l

-- by the first steps that differ; a path stands before those that go on from it
abbrev pub path_cmp : Path → Path → Ordering
path_cmp p q = slice_cmp step_cmp p q
