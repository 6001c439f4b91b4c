-- Boxes that are one value, and boxes that hold their variables' values, of which none is empty.
use Rattle.std.proofs.Common.{◌≡◌, ℕ, true, false, not, ◌&&◌, List, [], ◌∷◌, ℤ, refl, arith}
use Rattle.std.specs.Ordering.{int_eq}
use Rattle.std.proofs.lemmas.Int.{ints}
use Rattle.std.proofs.lemmas.Bool.{and_parts}
use Rattle.std.proofs.lemmas.Bool.Decides.{Decides-int_eq}
use Rattle.signed_clause.specs.Ranges.{Ranges, has, is_nil, IsValid}
use Rattle.signed_clause.specs.Clauses.{Boxes, box_of}
use Rattle.ground_form.specs.Meaning.{value_of}
use Rattle.ground_form.specs.Bounds.{low_of, high_of}
use Rattle.box_view.proofs.EndLaws.{above_low, below_high, values_in}
use Rattle.box_rules.specs.Refuted.{some_empty, fixed_at}

-- a set that is one value has no other
pub fixed_value : (rs : Ranges) (v w : ℤ) → IsValid rs → fixed_at rs v ≡ true → has rs w ≡ true → w ≡ v
fixed_value rs v w s h k =
    let low = above_low rs w s k in let high = below_high rs w s k in
    let parts = and_parts (not (is_nil rs)) (int_eq (low_of rs) v && int_eq (high_of rs) v) h in
    let more = and_parts (int_eq (low_of rs) v) (int_eq (high_of rs) v) parts.1 in
    let a = (Decides-int_eq (low_of rs) v).0 more.0 in let b = (Decides-int_eq (high_of rs) v).0 more.1 in
    omega (arith, ints)

-- ---- boxes that hold values

has-not_nil : (rs : Ranges) (v : ℤ) → has rs v ≡ true → is_nil rs ≡ false
has-not_nil [] v h = absurd (grind arith)
has-not_nil (r ∷ rs) v h = refl

pub some_empty-false : (xs : List ℕ) (boxes : Boxes) (a : List ℤ) → values_in xs boxes a ≡ true → some_empty xs boxes ≡ false
some_empty-false [] boxes a h = refl
some_empty-false (x ∷ xs) boxes a h =
    let parts = and_parts (has (box_of boxes x) (value_of a x)) (values_in xs boxes a) h in
    let more = some_empty-false xs boxes a parts.1 in
    let this = has-not_nil (box_of boxes x) (value_of a x) parts.0 in
    grind arith

-- ---- a single value

pub single_fixed : (v w : ℤ) → fixed_at ((v, v) ∷ []) w ≡ int_eq v w
single_fixed v w = grind arith
