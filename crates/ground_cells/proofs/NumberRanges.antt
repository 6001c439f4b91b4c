-- Ascending numbers as ranges.
use Rattle.std.proofs.Common.{◌≡◌, ℕ, zero, suc, ◌+◌, ◌<◌, ◌≤◌, ◌^◌, Bool, true, false, ◌||◌, cond, List, [], ◌∷◌, ℤ, pos, negsuc, ◌+ℤ◌, ◌≤ℤ◌, ◌<ℤ◌, int_lt, map, length, Option, None, Some, Fits, w32, ◌↔◌, refl, sym, ap, ◌∙◌, subst, arith}
use Rattle.std.specs.Prelude.{All, Contains, IsSome, slice_index_or}
use Rattle.std.specs.Int.{int_max}
use Rattle.std.proofs.lemmas.Int.{ints, clamps}
use Rattle.std.proofs.lemmas.List.Elements.{All-head, All-tail}
use Rattle.std.proofs.lemmas.List.{get_or_default}
use Rattle.class_table.specs.declared.table.Class.{Class}
use Rattle.class_table.specs.Outline.{is_a}
use Rattle.object_alloc.specs.declared.object.Object.{Object}
use Rattle.object_alloc.specs.Cells.{extent_from}
use Rattle.signed_clause.specs.Ranges.{Ranges, in_range, has, Ascends, IsValid}
use Rattle.signed_clause.specs.Union.{fuse}
use Rattle.ground_cells.specs.CellBoxes.{single, AscendFrom, number_ranges}

ascend_less : (m n : ℕ) (xs : List ℕ) → m ≤ n → AscendFrom n xs → AscendFrom m xs
ascend_less m n [] h s = tt
ascend_less m n (x ∷ xs) h s = (omega (arith, h, s.0), s.1)

-- the numbers of an extent ascend
pub extent_ascends : (cs : List Class) (c n : ℕ) (xs : List Object) → AscendFrom n (extent_from cs c n xs)
extent_ascends cs c n [] = tt
extent_ascends cs c n (x ∷ xs) = by (is_a cs x.class c) (extent_ascends cs c (n + 1) xs)
  where
    by : (b : Bool) → AscendFrom (n + 1) (extent_from cs c (n + 1) xs) → AscendFrom n (cond b (n ∷ extent_from cs c (n + 1) xs) (extent_from cs c (n + 1) xs))
    by true h = (omega arith, subst (λ m. AscendFrom m (extent_from cs c (n + 1) xs)) (omega arith) h)
    by false h = ascend_less n (n + 1) (extent_from cs c (n + 1) xs) (omega arith) h

or_assoc : (a b c : Bool) → ((a || b) || c) ≡ (a || (b || c))
or_assoc true b c = refl
or_assoc false b c = refl

-- a range and the next number
joined_range : (low high : ℤ) (x : ℕ) (v : ℤ) → low ≤ℤ high → high <ℤ pos x → int_lt (high +ℤ pos 1) (pos x) ≡ false → in_range (low, int_max high (pos x)) v ≡ (in_range (low, high) v || in_range (pos x, pos x) v)
joined_range low high x v h k e = grind (arith, ints, clamps)

has_fuse : (low high : ℤ) (n : ℕ) (xs : List ℕ) (v : ℤ) → low ≤ℤ high → high <ℤ pos n → AscendFrom n xs → has (fuse low high (map single xs)) v ≡ (in_range (low, high) v || has (map single xs) v)
has_fuse low high n [] v h k s = refl
has_fuse low high n (x ∷ xs) v h k s =
    let first = s.0 in
    by (int_lt (high +ℤ pos 1) (pos x)) refl
    (has_fuse (pos x) (pos x) (suc x) xs v (omega (arith, ints)) (omega (arith, ints)) s.1)
    (has_fuse low (int_max high (pos x)) (suc x) xs v (omega (arith, ints, clamps)) (omega (arith, ints, clamps)) s.1)
  where
    by : (b : Bool) → int_lt (high +ℤ pos 1) (pos x) ≡ b → has (fuse (pos x) (pos x) (map single xs)) v ≡ (in_range (pos x, pos x) v || has (map single xs) v) → has (fuse low (int_max high (pos x)) (map single xs)) v ≡ (in_range (low, int_max high (pos x)) v || has (map single xs) v) →
        has (cond b ((low, high) ∷ fuse (pos x) (pos x) (map single xs)) (fuse low (int_max high (pos x)) (map single xs))) v ≡ (in_range (low, high) v || (in_range (pos x, pos x) v || has (map single xs) v))
    by true e apart joined = ap (λ (c : Bool). in_range (low, high) v || c) apart
    by false e apart joined =
        joined ∙ ap (λ (c : Bool). c || has (map single xs) v) (joined_range low high x v h (let f = s.0 in omega (arith, ints, f, k)) e)
        ∙ or_assoc (in_range (low, high) v) (in_range (pos x, pos x) v) (has (map single xs) v)

-- the ranges have the values of the numbers
has_numbers : (n : ℕ) (xs : List ℕ) (v : ℤ) → AscendFrom n xs → has (number_ranges xs) v ≡ has (map single xs) v
has_numbers n [] v s = refl
has_numbers n (x ∷ xs) v s = has_fuse (pos x) (pos x) (suc x) xs v (omega (arith, ints)) (omega (arith, ints)) s.1

ascends_fuse : (least low high top : ℤ) (xs : List ℕ) → least ≤ℤ low → low ≤ℤ high → high ≤ℤ top → All (λ x. pos x ≤ℤ top) xs → Ascends least top (fuse low high (map single xs))
ascends_fuse least low high top [] k h t all = (k, h, omega (arith, ints, t))
ascends_fuse least low high top (x ∷ xs) k h t all =
    let here = All-head (λ y. pos y ≤ℤ top) x xs all in
    let rest = All-tail (λ y. pos y ≤ℤ top) x xs all in
    elim (int_lt (high +ℤ pos 1) (pos x)) as (λ b. int_lt (high +ℤ pos 1) (pos x) ≡ b → Ascends least top (cond b ((low, high) ∷ fuse (pos x) (pos x) (map single xs)) (fuse low (int_max high (pos x)) (map single xs)))) [
      | true ↦ λ e. (k, h, ascends_fuse (high +ℤ pos 2) (pos x) (pos x) top xs (grind (arith, ints)) (omega (arith, ints)) here rest)
      | false ↦ λ e. ascends_fuse least low (int_max high (pos x)) top xs k (omega (arith, ints, clamps)) (omega (arith, ints, clamps, here, t)) rest
    ] refl

-- the ranges are those of a set
pub numbers_valid : (xs : List ℕ) → All (λ x. x < 2 ^ 32) xs → IsValid (number_ranges xs)
numbers_valid [] all = omega (arith, ints)
numbers_valid (x ∷ xs) all =
    let top = pos 9223372036854775807 in
    let within : All (λ y. pos y ≤ℤ pos 9223372036854775807) (x ∷ xs) = λ k d lt. let small = all k d lt in omega (arith, ints, small) in
    ascends_fuse (negsuc 9223372036854775807) (pos x) (pos x) (pos 9223372036854775807) xs (omega (arith, ints)) (omega (arith, ints)) (All-head (λ y. pos y ≤ℤ pos 9223372036854775807) x xs within) (All-tail (λ y. pos y ≤ℤ pos 9223372036854775807) x xs within)

-- the value is the number of one of these
pub record IsNumberOf (xs : List ℕ) (v : ℤ) : Type 0 where
  pub number : ℕ
  pub has : Contains xs number
  pub is : v ≡ pos number

later : (x : ℕ) (xs : List ℕ) (v : ℤ) → IsNumberOf xs v → IsNumberOf (x ∷ xs) v
later x xs v h = record { number = h.number; has = (suc h.has.0, omega (arith, h.has.1), h.has.2); is = h.is }

of_singles : (xs : List ℕ) (v : ℤ) → has (map single xs) v ≡ true → IsNumberOf xs v
of_singles [] v h = cc
of_singles (x ∷ xs) v h = by (in_range (pos x, pos x) v) refl (λ g. of_singles xs v g) h
  where
    by : (b : Bool) → in_range (pos x, pos x) v ≡ b → (has (map single xs) v ≡ true → IsNumberOf xs v) → (b || has (map single xs) v) ≡ true → IsNumberOf (x ∷ xs) v
    by true e more g = record { number = x; has = (0, omega arith, refl); is = grind (arith, ints) }
    by false e more g = later x xs v (more g)

has_single : (xs : List ℕ) (n : ℕ) → Contains xs n → has (map single xs) (pos n) ≡ true
has_single [] n h = absurd (omega (arith, h.1))
has_single (x ∷ xs) n (zero, lt, e) = grind (arith, ints)
has_single (x ∷ xs) n (suc k, lt, e) = let more = has_single xs n (k, omega (arith, lt), e) in grind (arith, ints)

-- what the ranges have are the numbers
pub numbers_have : (n : ℕ) (xs : List ℕ) (v : ℤ) → AscendFrom n xs → IsNumberOf xs v → has (number_ranges xs) v ≡ true
numbers_have n xs v s h = has_numbers n xs v s ∙ ap (has (map single xs)) h.is ∙ has_single xs h.number h.has

pub numbers_of : (n : ℕ) (xs : List ℕ) (v : ℤ) → AscendFrom n xs → has (number_ranges xs) v ≡ true → IsNumberOf xs v
numbers_of n xs v s h = of_singles xs v (sym (has_numbers n xs v s) ∙ h)

-- the ranges of numbers of 32 bits are taken for a set
pub none_valid : (xs : List ℕ) (ranges : Ranges) (made : Option (List (ℤ × ℤ))) → ranges ≡ number_ranges xs → ((i : ℕ) → Fits w32 (slice_index_or xs i 0)) → made ≡ None → IsSome made ↔ IsValid ranges → ⊥
none_valid xs ranges made e small none h = some_none made none (h.1 (subst IsValid (sym e) (numbers_valid xs (λ k d lt. fits_below k d lt))))
  where
    some_none : {X : Type 0} (o : Option X) → o ≡ None → IsSome o → ⊥
    some_none None e s = cc
    some_none (Some x) e s = cc

    fits_below : (k d : ℕ) → k < length xs → slice_index_or xs k d < 2 ^ 32
    fits_below k d lt =
        let same = get_or_default xs k d 0 lt in
        let fit = small k in
        omega (arith, same, fit)
