-- How large the numbers of a constraint can be. What a reader believes after this file: within
-- these bounds every sum that a constraint speaks of lies between -2^60 and 2^60.
use Rattle.std.specs.Prelude.{ℕ, ◌+◌, ◌*◌, ◌^◌, ◌≤◌, max, List, [], ◌∷◌, ℤ, pos, ◌+ℤ◌, ◌*ℤ◌, ◌≤ℤ◌, unsigned_abs}
use Rattle.std.specs.Int.{int_max, int_min}
use Rattle.std.specs.List.{All}
use Rattle.signed_clause.specs.Ranges.{Ranges, high_from}
use Rattle.signed_clause.specs.Clauses.{Boxes, box_of}
use Rattle.ground_form.specs.declared.con.Con.{Con}
use Rattle.ground_form.specs.declared.con.Con.TheVariants.{LinLe, LinDef, ReifLe, AndDef, MemberDef, EqDef, ElementDef, CondDef, ClauseCon, AllDiff, Pack}

-- how great a sum that a constraint speaks of may be
abbrev pub most_sum : ℕ
most_sum = 2 ^ 60

-- the greatest value that the bin of an item of a packing may have
abbrev pub last_bin : ℕ
last_bin = 9999

-- the least and the greatest value of a set, 0 of the empty one
abbrev pub low_of : Ranges → ℤ
low_of [] = pos 0
low_of (r ∷ rs) = r.0

abbrev pub high_of : Ranges → ℤ
high_of rs = high_from (pos 0) rs

-- the greatest absolute value of a set, 0 of the empty one
abbrev pub reach_of : Ranges → ℕ
reach_of rs = max (unsigned_abs (low_of rs)) (unsigned_abs (high_of rs))

-- the greatest absolute value of a term over the boxes
unfoldable pub term_weight : ℤ × ℕ → Boxes → ℕ
term_weight t boxes = unsigned_abs t.0 * reach_of (box_of boxes t.1)

-- those of the terms, added up
abbrev pub weight_of : List (ℤ × ℕ) → Boxes → ℕ
weight_of [] boxes = 0
weight_of (t ∷ ts) boxes = term_weight t boxes + weight_of ts boxes

-- the least and the greatest that a term is over the boxes
unfoldable pub least_term : ℤ × ℕ → Boxes → ℤ
least_term t boxes = int_min (t.0 *ℤ low_of (box_of boxes t.1)) (t.0 *ℤ high_of (box_of boxes t.1))

unfoldable pub greatest_term : ℤ × ℕ → Boxes → ℤ
greatest_term t boxes =
    int_max (t.0 *ℤ low_of (box_of boxes t.1)) (t.0 *ℤ high_of (box_of boxes t.1))

-- the least and the greatest sum
abbrev pub least_sum : List (ℤ × ℕ) → Boxes → ℤ
least_sum [] boxes = pos 0
least_sum (t ∷ ts) boxes = least_term t boxes +ℤ least_sum ts boxes

abbrev pub greatest_sum : List (ℤ × ℕ) → Boxes → ℤ
greatest_sum [] boxes = pos 0
greatest_sum (t ∷ ts) boxes = greatest_term t boxes +ℤ greatest_sum ts boxes

-- the set's values lie from low to high; of the empty set 0 does
abbrev pub LiesWithin : ℤ → ℤ → Ranges → Type 0
LiesWithin low high box = (low ≤ℤ low_of box) × (high_of box ≤ℤ high)

-- the greatest sizes, added up
abbrev pub size_sum : List (ℕ × ℕ × ℕ) → Boxes → ℤ
size_sum [] boxes = pos 0
size_sum (i ∷ rest) boxes = high_of (box_of boxes i.1) +ℤ size_sum rest boxes

-- bins lie within 0 and the last one, no size is below 0, and the greatest sizes add up to at most
-- `most_sum`; rooms may be what they are
pub record IsPackBounded (items : List (ℕ × ℕ × ℕ)) (boxes : Boxes) : Type 0 where
  pub places : All (λ i. LiesWithin (pos 0) (pos last_bin) (box_of boxes i.0)) items
  pub sizes : All (λ i. pos 0 ≤ℤ low_of (box_of boxes i.1)) items
  pub total : size_sum items boxes ≤ℤ pos most_sum

-- the constraint's numbers are bounded over the boxes
abbrev pub IsBounded : Con → Boxes → Type 0
IsBounded (LinLe terms bound) boxes = weight_of terms boxes ≤ most_sum
IsBounded (LinDef out terms offset) boxes = weight_of terms boxes + unsigned_abs offset ≤ most_sum
IsBounded (ReifLe flag terms bound) boxes = weight_of terms boxes ≤ most_sum
IsBounded (Pack items) boxes = IsPackBounded items boxes
IsBounded other boxes = Unit {0}

-- the boxes of single values
abbrev pub singles : List ℤ → Boxes
singles [] = []
singles (v ∷ vs) = ((v, v) ∷ []) ∷ singles vs
