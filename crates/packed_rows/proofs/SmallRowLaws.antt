-- Items of bounded numbers, one after the other.
use Rattle.std.proofs.Common.{◌≡◌, ℕ, zero, suc, ◌+◌, ◌^◌, ◌<◌, List, [], ◌∷◌, ◌++◌, take, drop, get_or, pos, ◌+ℤ◌, ◌-ℤ◌, ◌≤ℤ◌, nat_abs, length, sym, ap, ◌∙◌, subst, arith}
use Rattle.std.specs.List.{All}
use Rattle.std.proofs.lemmas.Int.{ints}
use Rattle.std.proofs.lemmas.List.{take_more, drop_more, take-append-drop}
use Rattle.std.proofs.lemmas.List.Elements.{All-push, All-head, All-tail, All-drop}
use Rattle.signed_clause.specs.Ranges.{IsValid}
use Rattle.signed_clause.specs.Clauses.{Boxes, box_of}
use Rattle.ground_form.specs.Bounds.{low_of, high_of, LiesWithin, size_sum, IsPackBounded}
use Rattle.form_build.proofs.Singles.{ends_ordered}
use Rattle.packed_rows.specs.SmallRows.{IsSmallRow}

size_more : (boxes : Boxes) (rows : List (ℕ × ℕ × ℕ)) (r : ℕ × ℕ × ℕ) → size_sum (rows ++ r ∷ []) boxes ≡ (size_sum rows boxes +ℤ high_of (box_of boxes r.1))
size_more boxes [] r = omega (arith, ints)
size_more boxes (q ∷ rows) r = let rest = size_more boxes rows r in omega (arith, ints, rest)

-- rows that are small, without whose sizes so much is left
pub record AreSmallRows (boxes : Boxes) (rows : List (ℕ × ℕ × ℕ)) (all left : ℕ) : Type 0 where
  pub places : All (λ (r : ℕ × ℕ × ℕ). LiesWithin (pos 0) (pos 9999) (box_of boxes r.0)) rows
  pub sizes : All (λ (r : ℕ × ℕ × ℕ). pos 0 ≤ℤ low_of (box_of boxes r.1)) rows
  pub left_is : (size_sum rows boxes +ℤ pos left) ≡ pos all

pub small_rows_more : (boxes : Boxes) (rows : List (ℕ × ℕ × ℕ)) (k all left rest : ℕ) (r d : ℕ × ℕ × ℕ) → k < length rows → r ≡ get_or rows k d → IsSmallRow boxes r left rest → AreSmallRows boxes (take k rows) all left → AreSmallRows boxes (take (k + 1) rows) all rest
small_rows_more boxes rows k all left rest r d lt is row h =
    let next : take (k + 1) rows ≡ take k rows ++ r ∷ [] = take_more rows k d lt ∙ ap (λ (q : ℕ × ℕ × ℕ). take k rows ++ q ∷ []) (sym is) in
    subst (λ (z : List (ℕ × ℕ × ℕ)). AreSmallRows boxes z all rest) (sym next) (record {
      places = All-push (λ (q : ℕ × ℕ × ℕ). LiesWithin (pos 0) (pos 9999) (box_of boxes q.0)) (take k rows) r h.places row.place;
      sizes = All-push (λ (q : ℕ × ℕ × ℕ). pos 0 ≤ℤ low_of (box_of boxes q.1)) (take k rows) r h.sizes row.size;
      left_is = let sum = size_more boxes (take k rows) r in omega (arith, ints, sum, row.left_is, h.left_is);
    })

-- ---- that each row is small where the rows' numbers are bounded

-- a box's ends are in order, also of a variable that doesn't exist
pub box_ordered : (boxes : Boxes) (x : ℕ) → All (λ d. IsValid d) boxes → low_of (box_of boxes x) ≤ℤ high_of (box_of boxes x)
box_ordered [] x valid = omega (arith, ints)
box_ordered (d ∷ boxes) zero valid = ends_ordered d (valid 0 d (omega arith))
box_ordered (d ∷ boxes) (suc x) valid = box_ordered boxes x (λ k e lt. valid (suc k) e (omega (arith, lt)))

size_parts : (boxes : Boxes) (xs ys : List (ℕ × ℕ × ℕ)) → size_sum (xs ++ ys) boxes ≡ (size_sum xs boxes +ℤ size_sum ys boxes)
size_parts boxes [] ys = omega (arith, ints)
size_parts boxes (r ∷ xs) ys = let rest = size_parts boxes xs ys in omega (arith, ints, rest)

-- where no size is below 0, neither is their sum
sizes_above : (boxes : Boxes) (rows : List (ℕ × ℕ × ℕ)) → All (λ d. IsValid d) boxes → All (λ (r : ℕ × ℕ × ℕ). pos 0 ≤ℤ low_of (box_of boxes r.1)) rows → pos 0 ≤ℤ size_sum rows boxes
sizes_above boxes [] valid h = omega (arith, ints)
sizes_above boxes (r ∷ rows) valid h =
    let first = All-head (λ (q : ℕ × ℕ × ℕ). pos 0 ≤ℤ low_of (box_of boxes q.1)) r rows h in
    let rest = sizes_above boxes rows valid (All-tail (λ (q : ℕ × ℕ × ℕ). pos 0 ≤ℤ low_of (box_of boxes q.1)) r rows h) in
    let order = box_ordered boxes r.1 valid in
    omega (arith, ints, first, rest, order)

pub next_is_small : (boxes : Boxes) (rows : List (ℕ × ℕ × ℕ)) (k left : ℕ) (r d : ℕ × ℕ × ℕ) → k < length rows → r ≡ get_or rows k d → All (λ d. IsValid d) boxes → IsPackBounded rows boxes → AreSmallRows boxes (take k rows) (2 ^ 60) left → (rest : ℕ) × IsSmallRow boxes r left rest
next_is_small boxes rows k left r d lt is valid bounded h =
    let behind = drop (k + 1) rows in
    let split : take k rows ++ r ∷ behind ≡ rows =
    ap (λ (q : ℕ × ℕ × ℕ). take k rows ++ q ∷ behind) is ∙ ap (λ (qs : List (ℕ × ℕ × ℕ)). take k rows ++ qs) (sym (drop_more rows k d lt)) ∙ take-append-drop k rows in
    let sum = size_parts boxes (take k rows) (r ∷ behind) in
    let same = ap (λ (qs : List (ℕ × ℕ × ℕ)). size_sum qs boxes) split in
    let more = sizes_above boxes behind valid (All-drop (λ (q : ℕ × ℕ × ℕ). pos 0 ≤ℤ low_of (box_of boxes q.1)) (k + 1) rows bounded.sizes) in
    let size : pos 0 ≤ℤ low_of (box_of boxes r.1) = subst (λ (q : ℕ × ℕ × ℕ). pos 0 ≤ℤ low_of (box_of boxes q.1)) (sym is) (bounded.sizes k d lt) in
    let place : LiesWithin (pos 0) (pos 9999) (box_of boxes r.0) = subst (λ (q : ℕ × ℕ × ℕ). LiesWithin (pos 0) (pos 9999) (box_of boxes q.0)) (sym is) (bounded.places k d lt) in
    let order = box_ordered boxes r.1 valid in (
      nat_abs (pos left -ℤ high_of (box_of boxes r.1)),
      record {
        place = place;
        size = size;
        left_is = omega (arith, ints, sum, same, more, size, order, bounded.total, h.left_is);
      },
    )
