-- In which order a run decides. What a reader believes after this file: each Decide line of an
-- ordered run is the split that the order picks for the boxes before it; of the order Own nothing
-- is said.
use Rattle.std.specs.Prelude.{◌≡◌, ℕ, List, [], ◌∷◌}
use Rattle.signed_clause.specs.Ranges.{Ranges}
use Rattle.signed_clause.specs.SetAlgebra.{meet}
use Rattle.signed_clause.specs.Clauses.{Boxes, box_of}
use Rattle.ground_form.specs.declared.ground.Ground.{Ground}
use Rattle.branch_choice.specs.declared.split.Split.{Split}
use Rattle.branch_choice.specs.declared.split.Order.{Order}
use Rattle.branch_choice.specs.declared.split.Order.TheVariants.{First, Small, Former, Own}
use Rattle.branch_choice.specs.Picks.{Hints, half_of, IsFirstSplit, IsSmallSplit, IsFormerSplit}
use Rattle.log_form.specs.declared.line.Line.{Line}
use Rattle.log_form.specs.declared.line.Line.TheVariants.{Axiom, Chain, Bound, Use, Found, Decide, Empty}
use Rattle.log_form.specs.Acceptance.{Made, after}
use Rattle.log_form.specs.Acceptance as acceptance
use Rattle.run_law.specs.Replay.{State, start, top_boxes, next}

-- x is narrowed to the half of a split of which P holds: what the split takes of its box
pub record IsHalfOf (P : Split → Type 0) (boxes : Boxes) (x : ℕ) (half : Ranges) : Type 0 where
  pub split : Split
  pub picked : P split
  pub var : split.var ≡ x
  pub taken : half ≡ meet (half_of split) (box_of boxes x)

-- the decision is the one that the order picks in the boxes
abbrev pub IsDecidedBy : Order → Boxes → Hints → ℕ → ℕ → Ranges → Type 0
IsDecidedBy First boxes hints search x half =
    IsHalfOf (λ s. IsFirstSplit boxes search s) boxes x half
IsDecidedBy Small boxes hints search x half =
    IsHalfOf (λ s. IsSmallSplit boxes search s) boxes x half
IsDecidedBy Former boxes hints search x half =
    IsHalfOf (λ s. IsFormerSplit boxes hints search s) boxes x half
IsDecidedBy Own boxes hints search x half = Unit {0}

-- the line, if it decides, does so by the order
abbrev pub IsLineBy : Ground → Order → Hints → State → Line → Type 0
IsLineBy g order hints s (Decide x half) =
    IsDecidedBy order (top_boxes s) hints g.search x half
IsLineBy g order hints s other = Unit {0}

-- each line is by the order when its turn comes
abbrev pub AreBy : Ground → Order → Hints → Made → State → List Line → Type 0
AreBy g order hints m s [] = Unit {0}
AreBy g order hints m s (l ∷ ls) =
    IsLineBy g order hints s l × AreBy g order hints (after g m l) (next g m s l) ls

-- the lines decide by the order, where these are the hints
abbrev pub IsOrdered : Ground → Order → Hints → List Line → Type 0
IsOrdered g order hints ls = AreBy g order hints acceptance.start (start g) ls
