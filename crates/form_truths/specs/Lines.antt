-- Lines. What a reader believes after this file: what a line is at a value, and how large its
-- numbers are over a span of values.
use Rattle.std.specs.Prelude.{◌≡◌, [], ◌∷◌, Option, Some, None, Bool, false, ℕ, ◌*◌, ◌<◌, ◌≤◌, ℤ, ◌+ℤ◌, ◌*ℤ◌, ◌≤ℤ◌, unsigned_abs}
use Rattle.signed_clause.specs.Ranges.{in_range}
use Rattle.signed_clause.specs.Clauses.{Boxes, box_of}
use Rattle.ground_form.specs.Bounds.{low_of, high_of, most_sum}
use Rattle.form_build.specs.declared.form.Linear.{Linear}
use Rattle.form_truths.specs.declared.lines.Line.{Line}
use Rattle.form_truths.specs.declared.lines.Span.{Span}

-- the line at a value
abbrev pub line_at : Line → ℤ → ℤ
line_at l v = (l.factor *ℤ v) +ℤ l.offset

-- the span has a value
abbrev pub IsSpan : Span → Type 0
IsSpan s = s.low ≤ℤ s.high

-- the value lies in the span
abbrev pub LiesIn : Span → ℤ → Type 0
LiesIn s v = (s.low ≤ℤ v) × (v ≤ℤ s.high)

-- the factor isn't 0, and the line's numbers over the span fit
pub record IsLine (s : Span) (l : Line) : Type 0 where
  pub factor : 0 < unsigned_abs l.factor
  pub size : unsigned_abs l.factor ≤ most_sum
  pub offset : unsigned_abs l.offset ≤ most_sum
  pub low : unsigned_abs s.low ≤ most_sum
  pub high : unsigned_abs s.high ≤ most_sum
  pub at_low : unsigned_abs l.factor * unsigned_abs s.low ≤ most_sum
  pub at_high : unsigned_abs l.factor * unsigned_abs s.high ≤ most_sum

-- of the span's values exactly those of r pass the test; none where there is no r
abbrev pub AreThose : Span → Option Span → (ℤ → Bool) → Type 0
AreThose s None test = (v : ℤ) → LiesIn s v → test v ≡ false
AreThose s (Some r) test = IsSpan r × ((v : ℤ) → LiesIn s v → in_range (r.low, r.high) v ≡ test v)

-- the sum is this line over the values of the variable
pub record IsLineOf (l : Line) (x : ℕ) (f : Linear) : Type 0 where
  pub terms : f.terms ≡ (l.factor, x) ∷ []
  pub offset : f.offset ≡ l.offset

-- the line is one over the span of the variable's box
abbrev pub IsLineOver : Boxes → ℕ → Line → Type 0
IsLineOver boxes x l =
    (s : Span) → s.low ≡ low_of (box_of boxes x) → s.high ≡ high_of (box_of boxes x) → IsLine s l
