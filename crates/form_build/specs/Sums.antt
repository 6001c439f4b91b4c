-- Sums within their bounds. What a reader believes after this file: a sum in good order names each
-- variable once, none that is fixed, and its numbers are bounded.
use Rattle.std.specs.Prelude.{◌≡◌, ◌≢◌, ℕ, suc, ◌+◌, ◌*◌, ◌^◌, ◌<◌, ◌≤◌, List, [], ◌∷◌, ℤ, pos, ◌+ℤ◌, ◌<ℤ◌, ◌≤ℤ◌, length, unsigned_abs}
use Rattle.std.specs.List.{All}
use Rattle.signed_clause.specs.Ranges.{Ranges}
use Rattle.signed_clause.specs.Clauses.{Boxes, box_of}
use Rattle.ground_form.specs.Bounds.{low_of, high_of, weight_of, least_sum, greatest_sum}
use Rattle.form_build.specs.declared.form.Linear.{Linear}

-- the box has two values or more
abbrev pub IsOpen : Ranges → Type 0
IsOpen box = low_of box <ℤ high_of box

-- the variables ascend from n on and have open boxes, and no coefficient is 0
abbrev pub AreTerms : Boxes → ℕ → List (ℤ × ℕ) → Type 0
AreTerms boxes n [] = Unit {0}
AreTerms boxes n (t ∷ ts) =
    (n ≤ t.1) × (t.1 < length boxes) × (t.0 ≢ pos 0) × IsOpen (box_of boxes t.1)
    × AreTerms boxes (suc t.1) ts

-- the greatest absolute value of a sum over the boxes
abbrev pub linear_weight : Linear → Boxes → ℕ
linear_weight f boxes = weight_of f.terms boxes + unsigned_abs f.offset

-- the least and the greatest value of a sum over the boxes
abbrev pub least_linear : Linear → Boxes → ℤ
least_linear f boxes = least_sum f.terms boxes +ℤ f.offset

abbrev pub greatest_linear : Linear → Boxes → ℤ
greatest_linear f boxes = greatest_sum f.terms boxes +ℤ f.offset

-- a sum in good order, whose numbers add up to at most n
pub record IsLinear (n : ℕ) (boxes : Boxes) (f : Linear) : Type 0 where
  pub terms : AreTerms boxes 0 f.terms
  pub bounded : linear_weight f boxes ≤ n

-- a sum's values over the boxes lie from low to high
pub record LiesFrom (low high : ℤ) (boxes : Boxes) (f : Linear) : Type 0 where
  pub low_is : low ≤ℤ least_linear f boxes
  pub high_is : greatest_linear f boxes ≤ℤ high

-- a sum in good order, whose numbers fit, and whose values over the boxes lie from low to high
pub record IsSum (boxes : Boxes) (low high : ℤ) (f : Linear) : Type 0 where
  pub linear : IsLinear (2 ^ 58) boxes f
  pub lies : LiesFrom low high boxes f

-- each number of the sum, times m, is at most n
pub record AreNumbersWithin (m n : ℕ) (f : Linear) : Type 0 where
  pub terms : All (λ t. m * unsigned_abs t.0 ≤ n) f.terms
  pub offset : m * unsigned_abs f.offset ≤ n

-- the sum is this variable and nothing else
pub record IsVariable (x : ℕ) (f : Linear) : Type 0 where
  pub terms : f.terms ≡ (pos 1, x) ∷ []
  pub offset : f.offset ≡ pos 0
