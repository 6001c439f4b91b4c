-- Clauses as bytes. What a reader believes after this file: which bytes a clause is written as, and
-- which clause bytes begin with.
use Rattle.std.specs.Prelude.{ℕ, zero, suc, ◌%◌, ◌^◌, ◌<◌, List, [], ◌∷◌, ◌++◌, ℤ, length}
use Rattle.std.specs.List.{AllByRecursion}
use Rattle.signed_clause.specs.Ranges.{Ranges}
use Rattle.signed_clause.specs.Clauses.{Literals}
use Rattle.numbered_clauses.specs.Numbers.{number_bytes, number_of, behind_number, unsigned_of, signed_of}

-- ---- writing

-- a range: both its ends
abbrev pub range_bytes : ℤ × ℤ → List ℕ
range_bytes r = number_bytes (unsigned_of r.0) ++ number_bytes (unsigned_of r.1)

abbrev pub ranges_bytes : Ranges → List ℕ
ranges_bytes [] = []
ranges_bytes (r ∷ rs) = range_bytes r ++ ranges_bytes rs

-- a set: how many ranges it has, and they
abbrev pub set_bytes : Ranges → List ℕ
set_bytes rs = number_bytes (length rs) ++ ranges_bytes rs

-- a literal: its variable and its set
abbrev pub literal_bytes : ℕ × List (ℤ × ℤ) → List ℕ
literal_bytes l = number_bytes l.0 ++ set_bytes l.1

abbrev pub literals_bytes : Literals → List ℕ
literals_bytes [] = []
literals_bytes (l ∷ ls) = literal_bytes l ++ literals_bytes ls

-- a clause: how many literals it has, and they
abbrev pub clause_bytes : Literals → List ℕ
clause_bytes c = number_bytes (length c) ++ literals_bytes c

-- ---- what can be written

abbrev pub FitsRange : ℤ × ℤ → Type 0
FitsRange r = (unsigned_of r.0 < 2 ^ 64) × (unsigned_of r.1 < 2 ^ 64)

abbrev pub FitsSet : Ranges → Type 0
FitsSet rs = (length rs < 2 ^ 64) × AllByRecursion FitsRange rs

abbrev pub FitsLiteral : ℕ × List (ℤ × ℤ) → Type 0
FitsLiteral l = (l.0 < 2 ^ 32) × FitsSet l.1

abbrev pub FitsClause : Literals → Type 0
FitsClause c = (length c < 2 ^ 64) × AllByRecursion FitsLiteral c

-- ---- reading

-- the range that bytes begin with, and what stands behind it
abbrev pub range_at : List ℕ → ℤ × ℤ
range_at bs = (signed_of (number_of bs), signed_of (number_of (behind_number bs)))

abbrev pub behind_range : List ℕ → List ℕ
behind_range bs = behind_number (behind_number bs)

-- n ranges, and what stands behind them
abbrev pub ranges_at : ℕ → List ℕ → Ranges
ranges_at zero bs = []
ranges_at (suc n) bs = range_at bs ∷ ranges_at n (behind_range bs)

abbrev pub behind_ranges : ℕ → List ℕ → List ℕ
behind_ranges zero bs = bs
behind_ranges (suc n) bs = behind_ranges n (behind_range bs)

-- a set, and what stands behind it
abbrev pub set_at : List ℕ → Ranges
set_at bs = ranges_at (number_of bs) (behind_number bs)

abbrev pub behind_set : List ℕ → List ℕ
behind_set bs = behind_ranges (number_of bs) (behind_number bs)

-- a literal, and what stands behind it
abbrev pub literal_at : List ℕ → ℕ × List (ℤ × ℤ)
literal_at bs = (number_of bs % 2 ^ 32, set_at (behind_number bs))

abbrev pub behind_literal : List ℕ → List ℕ
behind_literal bs = behind_set (behind_number bs)

-- n literals
abbrev pub literals_at : ℕ → List ℕ → Literals
literals_at zero bs = []
literals_at (suc n) bs = literal_at bs ∷ literals_at n (behind_literal bs)

-- the clause that bytes begin with
abbrev pub clause_in : List ℕ → Literals
clause_in bs = literals_at (number_of bs) (behind_number bs)
