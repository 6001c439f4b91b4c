-- Which constraints are refuted in boxes, kind by kind. What a reader believes after this file: a
-- refuted constraint is one whose kind's rule, which looks at the ends of boxes and at their values
-- one by one, leaves it no chance.
use Rattle.std.specs.Prelude.{ℕ, zero, suc, Bool, true, false, not, ◌&&◌, ◌||◌, cond, List, [], ◌∷◌, ℤ, pos, ◌+ℤ◌, ◌-ℤ◌, int_le, int_lt, unsigned_abs}
use Rattle.std.specs.Int.{int_max, int_min}
use Rattle.std.specs.Ordering.{int_eq}
use Rattle.signed_clause.specs.Ranges.{Ranges, has, is_nil}
use Rattle.signed_clause.specs.SetAlgebra.{is_disjoint, is_within}
use Rattle.signed_clause.specs.Clauses.{Boxes, box_of, false_in}
use Rattle.ground_form.specs.declared.con.Con.{Con}
use Rattle.ground_form.specs.declared.con.Con.TheVariants.{LinLe, LinDef, ReifLe, AndDef, MemberDef, EqDef, ElementDef, CondDef, ClauseCon, AllDiff, Pack}
use Rattle.ground_form.specs.Meaning.{bit, vars_of}
use Rattle.ground_form.specs.Bounds.{low_of, high_of, least_sum, greatest_sum}

-- some variable has an empty box
abbrev pub some_empty : List ℕ → Boxes → Bool
some_empty [] boxes = false
some_empty (x ∷ xs) boxes = is_nil (box_of boxes x) || some_empty xs boxes

-- the set is the value v alone
abbrev pub fixed_at : Ranges → ℤ → Bool
fixed_at s v = not (is_nil s) && (int_eq (low_of s) v && int_eq (high_of s) v)

-- a flag can't have the truth: its box lacks the value that stands for it
abbrev pub barred : Boxes → ℕ → Bool → Bool
barred boxes flag truth = not (has (box_of boxes flag) (bit truth))

-- ---- conjunctions

-- some part can't have the truth that it wants
abbrev pub some_barred : List (ℕ × Bool) → Boxes → Bool
some_barred [] boxes = false
some_barred (p ∷ ps) boxes = barred boxes p.0 p.1 || some_barred ps boxes

-- each part is fixed at what it wants
abbrev pub all_fixed : List (ℕ × Bool) → Boxes → Bool
all_fixed [] boxes = true
all_fixed (p ∷ ps) boxes = fixed_at (box_of boxes p.0) (bit p.1) && all_fixed ps boxes

-- ---- equality and elements

-- both sets are the same single value
abbrev pub same_single : Ranges → Ranges → Bool
same_single a b = fixed_at a (low_of a) && fixed_at b (low_of a)

-- no item has its value in the index's box, and its variable's box meeting that of out
abbrev pub none_picked : Ranges → Ranges → List (ℤ × ℕ) → Boxes → Bool
none_picked out index [] boxes = true
none_picked out index (t ∷ ts) boxes =
    (not (has index t.0) || is_disjoint (box_of boxes t.1) out) && none_picked out index ts boxes

-- ---- values that differ

-- the set lies within a..b
abbrev pub lies_in : ℤ → ℤ → Ranges → Bool
lies_in a b s = int_le a (low_of s) && int_le (high_of s) b

-- how many variables of the list have a box within a..b
abbrev pub count_in : ℤ → ℤ → List ℕ → Boxes → ℕ
count_in a b [] boxes = 0
count_in a b (x ∷ xs) boxes =
    cond (lies_in a b (box_of boxes x)) (suc (count_in a b xs boxes)) (count_in a b xs boxes)

-- more variables than a..b has numbers have a box within it
abbrev pub crowded : ℤ → ℤ → List ℕ → Boxes → Bool
crowded a b xs boxes = int_le a b && int_lt ((b -ℤ a) +ℤ pos 1) (pos (count_in a b xs boxes))

-- a..b is crowded, for some end b of the boxes of the first list
abbrev pub crowded_from : ℤ → List ℕ → List ℕ → Boxes → Bool
crowded_from a [] xs boxes = false
crowded_from a (y ∷ ys) xs boxes =
    crowded a (high_of (box_of boxes y)) xs boxes || crowded_from a ys xs boxes

-- and for some start a of the boxes of the first list
abbrev pub some_crowded : List ℕ → List ℕ → Boxes → Bool
some_crowded [] xs boxes = false
some_crowded (y ∷ ys) xs boxes =
    crowded_from (low_of (box_of boxes y)) xs xs boxes || some_crowded ys xs boxes

-- ---- items to be packed

-- the least sizes of the items whose bin is fixed at v, added up
abbrev pub fixed_load : ℤ → List (ℕ × ℕ × ℕ) → Boxes → ℤ
fixed_load v [] boxes = pos 0
fixed_load v (i ∷ is) boxes =
    cond (fixed_at (box_of boxes i.0) v) (low_of (box_of boxes i.1) +ℤ fixed_load v is boxes)
    (fixed_load v is boxes)

-- the item's bin is fixed, and the load there is more than its greatest room
abbrev pub overfull : ℕ × ℕ × ℕ → List (ℕ × ℕ × ℕ) → Boxes → Bool
overfull i items boxes =
    fixed_at (box_of boxes i.0) (low_of (box_of boxes i.0))
    && int_lt (high_of (box_of boxes i.2)) (fixed_load (low_of (box_of boxes i.0)) items boxes)

-- some item of the first list is so
abbrev pub some_overfull : List (ℕ × ℕ × ℕ) → List (ℕ × ℕ × ℕ) → Boxes → Bool
some_overfull [] items boxes = false
some_overfull (i ∷ is) items boxes = overfull i items boxes || some_overfull is items boxes

-- all least sizes, added up
abbrev pub least_sizes : List (ℕ × ℕ × ℕ) → Boxes → ℤ
least_sizes [] boxes = pos 0
least_sizes (i ∷ is) boxes = low_of (box_of boxes i.1) +ℤ least_sizes is boxes

-- the greater of 0 and the greatest room among the items whose bin's box holds v
abbrev pub best_room : ℤ → List (ℕ × ℕ × ℕ) → Boxes → ℤ
best_room v [] boxes = pos 0
best_room v (i ∷ is) boxes =
    cond (has (box_of boxes i.0) v) (int_max (high_of (box_of boxes i.2)) (best_room v is boxes))
    (best_room v is boxes)

-- that of n values from v on, added up; a value that no bin's box holds adds nothing
abbrev pub rooms_from : ℕ → ℤ → List (ℕ × ℕ × ℕ) → Boxes → ℤ
rooms_from zero v items boxes = pos 0
rooms_from (suc n) v items boxes = best_room v items boxes +ℤ rooms_from n (v +ℤ pos 1) items boxes

-- the least of v and what the bins' boxes begin with, and the greatest of v and what they end
-- with
abbrev pub first_bin : ℤ → List (ℕ × ℕ × ℕ) → Boxes → ℤ
first_bin v [] boxes = v
first_bin v (i ∷ is) boxes = first_bin (int_min v (low_of (box_of boxes i.0))) is boxes

abbrev pub last_bin : ℤ → List (ℕ × ℕ × ℕ) → Boxes → ℤ
last_bin v [] boxes = v
last_bin v (i ∷ is) boxes = last_bin (int_max v (high_of (box_of boxes i.0))) is boxes

-- how many numbers a..b has, for a up to b
abbrev pub width : ℤ → ℤ → ℕ
width a b = suc (unsigned_abs (b -ℤ a))

-- that of all values that some bin's box holds: they lie from the first bin to the last
abbrev pub all_room : List (ℕ × ℕ × ℕ) → Boxes → ℤ
all_room [] boxes = pos 0
all_room (i ∷ is) boxes =
    let first = first_bin (low_of (box_of boxes i.0)) is boxes in
    let last = last_bin (high_of (box_of boxes i.0)) is boxes in
    rooms_from (width first last) first (i ∷ is) boxes

-- ---- the rule of each kind, for boxes of which none is empty

abbrev pub excluded : Con → Boxes → Bool
-- the least sum is above the bound
excluded (LinLe terms bound) boxes = int_lt bound (least_sum terms boxes)
-- all values of out are above the greatest sum, or below the least
excluded (LinDef out terms offset) boxes =
    int_lt (greatest_sum terms boxes +ℤ offset) (low_of (box_of boxes out))
    || int_lt (high_of (box_of boxes out)) (least_sum terms boxes +ℤ offset)
-- the flag can't be 1 or the least sum is above the bound, and it can't be 0 or the greatest sum
-- isn't
excluded (ReifLe flag terms bound) boxes =
    (barred boxes flag true || int_lt bound (least_sum terms boxes))
    && (barred boxes flag false || int_le (greatest_sum terms boxes) bound)
-- the flag can't be 1 or some part can't be as wanted, and it can't be 0 or each part is as wanted
excluded (AndDef flag parts) boxes =
    (barred boxes flag true || some_barred parts boxes)
    && (barred boxes flag false || all_fixed parts boxes)
-- the flag can't be 1 or no value is in the set, and it can't be 0 or all are
excluded (MemberDef flag var set) boxes =
    (barred boxes flag true || is_disjoint (box_of boxes var) set)
    && (barred boxes flag false || is_within (box_of boxes var) set)
-- the flag can't be 1 or no value is common, and it can't be 0 or both are one value
excluded (EqDef flag left right) boxes =
    (barred boxes flag true || is_disjoint (box_of boxes left) (box_of boxes right))
    && (barred boxes flag false || same_single (box_of boxes left) (box_of boxes right))
-- no item can be the one
excluded (ElementDef out index items) boxes =
    none_picked (box_of boxes out) (box_of boxes index) items boxes
-- the flag can't be 1 or no value is common, and it can't be 0 or out can't be 0
excluded (CondDef out flag item) boxes =
    (barred boxes flag true || is_disjoint (box_of boxes out) (box_of boxes item))
    && (barred boxes flag false || not (has (box_of boxes out) (pos 0)))
-- every literal's set misses its box
excluded (ClauseCon clause) boxes = false_in boxes clause
-- too many variables have to share too few values
excluded (AllDiff vars) boxes = some_crowded vars vars boxes
-- a bin is overfull, or all sizes are more than all room
excluded (Pack items) boxes =
    some_overfull items items boxes || int_lt (all_room items boxes) (least_sizes items boxes)

-- the constraint is refuted: a variable of it has an empty box, or its rule excludes the boxes
abbrev pub refuted : Con → Boxes → Bool
refuted con boxes = some_empty (vars_of con) boxes || excluded con boxes
