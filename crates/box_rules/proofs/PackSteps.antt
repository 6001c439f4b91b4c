-- What a loop over items does in one step.
use Rattle.std.proofs.Common.{◌≡◌, ◌<◌, ◌≤◌, ℕ, zero, suc, ◌+◌, Bool, true, false, cond, ℤ, pos, ◌+ℤ◌, ◌-ℤ◌, ◌≤ℤ◌, ◌<ℤ◌, unsigned_abs, sym, List, ◌∷◌, length, get_or, drop, arith, ap, ◌∙◌}
use Rattle.std.specs.Prelude.{int_lt}
use Rattle.std.specs.Int.{int_max}
use Rattle.std.proofs.lemmas.Int.{ints}
use Rattle.signed_clause.specs.Ranges.{has}
use Rattle.signed_clause.specs.Clauses.{Boxes, box_of}
use Rattle.signed_clause.proofs.RangeSteps.{left_at, left_none}
use Rattle.ground_form.specs.Bounds.{low_of, high_of}
use Rattle.box_rules.specs.Refuted.{fixed_at, fixed_load, best_room, rooms_from, width}

added : (f : Bool) (low load sum next total : ℤ) → next ≡ cond f (sum +ℤ low) sum →
    sum +ℤ cond f (low +ℤ load) load ≡ total → next +ℤ load ≡ total
added true low load sum next total e h = omega (arith, ints)
added false low load sum next total e h = omega (arith, ints)

pub load_step : (v : ℤ) (is : List (ℕ × ℕ × ℕ)) (boxes : Boxes) (k : ℕ) (i : ℕ × ℕ × ℕ) (sum next total : ℤ) →
    k < length is → i ≡ get_or is k (0, 0, 0) →
    next ≡ cond (fixed_at (box_of boxes i.0) v) (sum +ℤ low_of (box_of boxes i.1)) sum → sum +ℤ fixed_load v (drop k is) boxes ≡ total → next +ℤ fixed_load v (drop (k + 1) is) boxes ≡ total
load_step v is boxes k i sum next total h d e t =
    let left : fixed_load v (drop k is) boxes ≡ fixed_load v (i ∷ drop (k + 1) is) boxes = ap (λ (z : List (ℕ × ℕ × ℕ)). fixed_load v z boxes) (left_at is k i (0, 0, 0) h d) in
    added (fixed_at (box_of boxes i.0) v) (low_of (box_of boxes i.1)) (fixed_load v (drop (k + 1) is) boxes) sum next total e (rw left at t)

taken : (f : Bool) (room rest best next total : ℤ) → next ≡ cond f (int_max best room) best →
    int_max best (cond f (int_max room rest) rest) ≡ total → int_max next rest ≡ total
taken true room rest best next total e h = grind (arith, ints)
taken false room rest best next total e h = grind (arith, ints)

pub room_step : (v : ℤ) (is : List (ℕ × ℕ × ℕ)) (boxes : Boxes) (k : ℕ) (i : ℕ × ℕ × ℕ) (best next total : ℤ) →
    k < length is → i ≡ get_or is k (0, 0, 0) →
    next ≡ cond (has (box_of boxes i.0) v) (int_max best (high_of (box_of boxes i.2))) best → int_max best (best_room v (drop k is) boxes) ≡ total → int_max next (best_room v (drop (k + 1) is) boxes) ≡ total
room_step v is boxes k i best next total h d e t =
    let left : best_room v (drop k is) boxes ≡ best_room v (i ∷ drop (k + 1) is) boxes = ap (λ (z : List (ℕ × ℕ × ℕ)). best_room v z boxes) (left_at is k i (0, 0, 0) h d) in
    taken (has (box_of boxes i.0) v) (high_of (box_of boxes i.2)) (best_room v (drop (k + 1) is) boxes) best next total e (rw left at t)

pub room_low : (f : Bool) (room best next : ℤ) → next ≡ cond f (int_max best room) best →
    pos 0 ≤ℤ best → pos 0 ≤ℤ next
room_low true room best next e h = grind (arith, ints)
room_low false room best next e h = omega (arith, ints)

-- ---- values from one to another

nothing : (z : ℤ) → pos 0 +ℤ z ≡ z
nothing z = omega (arith, ints)

-- values without room add nothing
rooms_past : (n m : ℕ) (v : ℤ) (items : List (ℕ × ℕ × ℕ)) (boxes : Boxes) → ((u : ℤ) → v ≤ℤ u → u <ℤ (v +ℤ pos n) → best_room u items boxes ≡ pos 0) →
    rooms_from (n + m) v items boxes ≡ rooms_from m (v +ℤ pos n) items boxes
rooms_past zero m v items boxes h =
    let none : zero + m ≡ m = omega arith in let same : v +ℤ pos 0 ≡ v = omega (arith, ints) in
    ap (λ (k : ℕ). rooms_from k v items boxes) none ∙ ap (λ (z : ℤ). rooms_from m z items boxes) (sym same)
rooms_past (suc n) m v items boxes h =
    let one : suc n + m ≡ suc (n + m) = omega arith in
    let here = h v (omega (arith, ints)) (omega (arith, ints)) in
    let more = rooms_past n m (v +ℤ pos 1) items boxes (λ u l k. h u (omega (arith, ints)) (omega (arith, ints))) in
    let next : ((v +ℤ pos 1) +ℤ pos n) ≡ (v +ℤ pos (suc n)) = omega (arith, ints) in
    ap (λ (k : ℕ). rooms_from k v items boxes) one
    ∙ ap (λ (z : ℤ). z +ℤ rooms_from (n + m) (v +ℤ pos 1) items boxes) here
    ∙ nothing (rooms_from (n + m) (v +ℤ pos 1) items boxes)
    ∙ more
    ∙ ap (λ (z : ℤ). rooms_from m z items boxes) next

pub rooms_step : (last at next : ℤ) (items : List (ℕ × ℕ × ℕ)) (boxes : Boxes) → at <ℤ next →
    next ≤ℤ last → ((u : ℤ) → at <ℤ u → u <ℤ next → best_room u items boxes ≡ pos 0) →
    rooms_from (unsigned_abs (last -ℤ at)) (at +ℤ pos 1) items boxes ≡ best_room next items boxes +ℤ rooms_from (unsigned_abs (last -ℤ next)) (next +ℤ pos 1) items boxes
rooms_step last at next items boxes e h none =
    let n = unsigned_abs (next -ℤ (at +ℤ pos 1)) in
    let m = unsigned_abs (last -ℤ next) in
    let d : unsigned_abs (last -ℤ at) ≡ n + suc m = omega (arith, ints) in
    let to : ((at +ℤ pos 1) +ℤ pos n) ≡ next = omega (arith, ints) in
    ap (λ (k : ℕ). rooms_from k (at +ℤ pos 1) items boxes) d
    ∙ rooms_past n (suc m) (at +ℤ pos 1) items boxes (λ u l k. none u (omega (arith, ints)) (omega (arith, ints)))
    ∙ ap (λ (z : ℤ). rooms_from (suc m) z items boxes) to

pub rooms_done : (last at : ℤ) (items : List (ℕ × ℕ × ℕ)) (boxes : Boxes) → at ≤ℤ last →
    int_lt at last ≡ false →
    rooms_from (unsigned_abs (last -ℤ at)) (at +ℤ pos 1) items boxes ≡ pos 0
rooms_done last at items boxes h k =
    let d : unsigned_abs (last -ℤ at) ≡ 0 = grind (arith, ints) in ap (λ (n : ℕ). rooms_from n (at +ℤ pos 1) items boxes) d

pub width_step : (first at next : ℤ) → at <ℤ next → first ≤ℤ at →
    suc (width first at) ≤ width first next
width_step first at next e h = omega (arith, ints)

-- ---- the next value that some box has

pub past_item : (u : ℤ) (is : List (ℕ × ℕ × ℕ)) (boxes : Boxes) (k : ℕ) (i : ℕ × ℕ × ℕ) →
    k < length is → i ≡ get_or is k (0, 0, 0) →
    has (box_of boxes i.0) u ≡ false → best_room u (drop (k + 1) is) boxes ≡ pos 0 → best_room u (drop k is) boxes ≡ pos 0
past_item u is boxes k i h d none rest =
    let left : best_room u (drop k is) boxes ≡ best_room u (i ∷ drop (k + 1) is) boxes = ap (λ (z : List (ℕ × ℕ × ℕ)). best_room u z boxes) (left_at is k i (0, 0, 0) h d) in
    left ∙ rw none rest

pub no_item : (u : ℤ) (is : List (ℕ × ℕ × ℕ)) (boxes : Boxes) (k : ℕ) → length is ≤ k →
    best_room u (drop k is) boxes ≡ pos 0
no_item u is boxes k h = ap (λ (z : List (ℕ × ℕ × ℕ)). best_room u z boxes) (left_none is k h)
