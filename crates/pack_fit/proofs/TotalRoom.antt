-- All room, where a box is narrowed: at each value at least the second greatest room stays.
use Rattle.std.proofs.Common.{◌≡◌, ℕ, zero, suc, Bool, true, false, ◌&&◌, cond, List, [], ◌∷◌, ◌++◌, ℤ, pos, ◌+ℤ◌, ◌≤ℤ◌, ◌<ℤ◌, refl, arith, subst}
use Rattle.std.specs.Prelude.{int_le, int_lt}
use Rattle.std.specs.Int.{int_max, int_min}
use Rattle.std.proofs.lemmas.Int.{ints}
use Rattle.std.proofs.lemmas.Bool.{false_from_ne_true}
use Rattle.signed_clause.specs.Ranges.{has}
use Rattle.signed_clause.specs.Clauses.{Boxes, box_of}
use Rattle.ground_form.specs.Bounds.{low_of, high_of}
use Rattle.box_rules.specs.Refuted.{best_room, rooms_from, first_bin, last_bin, width, all_room}
use Rattle.box_view.proofs.EndLaws.{AreSets, ends_in_order, above_low, below_high}
use Rattle.box_rules.proofs.PackLaws.{best_room-ge, first_bin-le, last_bin-ge}
use Rattle.rule_law.specs.Repeats.{is_one}
use Rattle.pack_fit.specs.Packing.{put, two_rooms, seconds_from}

-- ---- the greatest and the second greatest room

pub first_is : (w : ℤ) (is : List (ℕ × ℕ × ℕ)) (boxes : Boxes) → (two_rooms w is boxes).0 ≡ best_room w is boxes
first_is w [] boxes = refl
first_is w (i ∷ is) boxes =
    let more = first_is w is boxes in
    elim (has (box_of boxes i.0) w) as (λ t. (cond t (put (high_of (box_of boxes i.2)) (is_one (box_of boxes i.0) && is_one (box_of boxes i.2)) (two_rooms w is boxes)) (two_rooms w is boxes)).0 ≡ cond t (int_max (high_of (box_of boxes i.2)) (best_room w is boxes)) (best_room w is boxes)) [
      | true ↦ grind (arith, ints)
      | false ↦ more
    ]

second_upto : (frozen : Bool) (room first second best : ℤ) → first ≡ best → second ≤ℤ best → int_max second (cond frozen room (int_min first room)) ≤ℤ int_max room best
second_upto true room first second best e h = grind (arith, ints)
second_upto false room first second best e h = grind (arith, ints)

pub second_le : (w : ℤ) (is : List (ℕ × ℕ × ℕ)) (boxes : Boxes) → (two_rooms w is boxes).1 ≤ℤ best_room w is boxes
second_le w [] boxes = omega (arith, ints)
second_le w (i ∷ is) boxes =
    let more = second_le w is boxes in let first = first_is w is boxes in
    elim (has (box_of boxes i.0) w) as (λ t. (cond t (put (high_of (box_of boxes i.2)) (is_one (box_of boxes i.0) && is_one (box_of boxes i.2)) (two_rooms w is boxes)) (two_rooms w is boxes)).1 ≤ℤ cond t (int_max (high_of (box_of boxes i.2)) (best_room w is boxes)) (best_room w is boxes)) [
      | true ↦ second_upto (is_one (box_of boxes i.0) && is_one (box_of boxes i.2)) (high_of (box_of boxes i.2)) (two_rooms w is boxes).0 (two_rooms w is boxes).1 (best_room w is boxes) first more
      | false ↦ more
    ]

-- without an item that isn't frozen
second_here : (frozen : Bool) (room first second best : ℤ) → frozen ≡ false → first ≡ best → second ≤ℤ best → int_max second (cond frozen room (int_min first room)) ≤ℤ best
second_here true room first second best f e h = absurd cc
second_here false room first second best f e h = grind (arith, ints)

-- the first is that of all, so a frozen one or one beside it may count in full
second_any : (frozen : Bool) (room first second best : ℤ) → second ≤ℤ best → int_max second (cond frozen room (int_min first room)) ≤ℤ int_max room best
second_any true room first second best h = grind (arith, ints)
second_any false room first second best h = grind (arith, ints)

pub second_without : (w : ℤ) (front : List (ℕ × ℕ × ℕ)) (i : ℕ × ℕ × ℕ) (back : List (ℕ × ℕ × ℕ)) (boxes : Boxes) → (is_one (box_of boxes i.0) && is_one (box_of boxes i.2)) ≡ false →
    (two_rooms w (front ++ i ∷ back) boxes).1 ≤ℤ best_room w (front ++ back) boxes
second_without w [] i back boxes f =
    let more = second_le w back boxes in let first = first_is w back boxes in
    elim (has (box_of boxes i.0) w) as (λ t. (cond t (put (high_of (box_of boxes i.2)) (is_one (box_of boxes i.0) && is_one (box_of boxes i.2)) (two_rooms w back boxes)) (two_rooms w back boxes)).1 ≤ℤ best_room w back boxes) [
      | true ↦ second_here (is_one (box_of boxes i.0) && is_one (box_of boxes i.2)) (high_of (box_of boxes i.2)) (two_rooms w back boxes).0 (two_rooms w back boxes).1 (best_room w back boxes) f first more
      | false ↦ more
    ]
second_without w (j ∷ front) i back boxes f =
    let is = front ++ i ∷ back in
    let more = second_without w front i back boxes f in
    elim (has (box_of boxes j.0) w) as (λ t. (cond t (put (high_of (box_of boxes j.2)) (is_one (box_of boxes j.0) && is_one (box_of boxes j.2)) (two_rooms w is boxes)) (two_rooms w is boxes)).1 ≤ℤ cond t (int_max (high_of (box_of boxes j.2)) (best_room w (front ++ back) boxes)) (best_room w (front ++ back) boxes)) [
      | true ↦ second_any (is_one (box_of boxes j.0) && is_one (box_of boxes j.2)) (high_of (box_of boxes j.2)) (two_rooms w is boxes).0 (two_rooms w is boxes).1 (best_room w (front ++ back) boxes) more
      | false ↦ more
    ]

-- ---- sums over values

sum_le : (n : ℕ) (v : ℤ) (items js : List (ℕ × ℕ × ℕ)) (boxes later : Boxes) → ((w : ℤ) → (two_rooms w items boxes).1 ≤ℤ best_room w js later) → seconds_from n v items boxes ≤ℤ rooms_from n v js later
sum_le zero v items js boxes later h = omega (arith, ints)
sum_le (suc n) v items js boxes later h = let one = h v in let more = sum_le n (v +ℤ pos 1) items js boxes later h in omega (arith, ints)

-- what is summed of n values from v on lies among m values from u on, or is nothing
rooms_ge : (n : ℕ) (v : ℤ) (is : List (ℕ × ℕ × ℕ)) (boxes : Boxes) → pos 0 ≤ℤ rooms_from n v is boxes
rooms_ge zero v is boxes = omega (arith, ints)
rooms_ge (suc n) v is boxes = let one = best_room-ge v is boxes in let more = rooms_ge n (v +ℤ pos 1) is boxes in omega (arith, ints)

-- no bin's box holds a value from `top` on
abbrev NoneFrom : ℤ → List (ℕ × ℕ × ℕ) → Boxes → Type 0
NoneFrom top is boxes = (w : ℤ) → top ≤ℤ w → best_room w is boxes ≡ pos 0

abbrev NoneBelow : ℤ → List (ℕ × ℕ × ℕ) → Boxes → Type 0
NoneBelow u is boxes = (w : ℤ) → w <ℤ u → best_room w is boxes ≡ pos 0

rooms_none : (n : ℕ) (v top : ℤ) (is : List (ℕ × ℕ × ℕ)) (boxes : Boxes) → top ≤ℤ v → NoneFrom top is boxes → rooms_from n v is boxes ≡ pos 0
rooms_none zero v top is boxes l h = refl
rooms_none (suc n) v top is boxes l h = let one = h v l in let more = rooms_none n (v +ℤ pos 1) top is boxes (omega (arith, ints)) h in omega (arith, ints)

-- from the same value on
rooms_upto : (n m : ℕ) (v : ℤ) (is : List (ℕ × ℕ × ℕ)) (boxes : Boxes) → NoneFrom (v +ℤ pos m) is boxes → rooms_from n v is boxes ≤ℤ rooms_from m v is boxes
rooms_upto zero m v is boxes h = rooms_ge m v is boxes
rooms_upto (suc n) zero v is boxes h = let none = rooms_none (suc n) v (v +ℤ pos 0) is boxes (omega (arith, ints)) h in omega (arith, ints)
rooms_upto (suc n) (suc m) v is boxes h =
    let more = rooms_upto n m (v +ℤ pos 1) is boxes (λ w l. h w (omega (arith, ints))) in omega (arith, ints)

-- from an earlier value on
rooms_early : (n m : ℕ) (v u : ℤ) (is : List (ℕ × ℕ × ℕ)) (boxes : Boxes) → v ≤ℤ u → NoneBelow u is boxes → NoneFrom (u +ℤ pos m) is boxes → rooms_from n v is boxes ≤ℤ rooms_from m u is boxes
rooms_early zero m v u is boxes l b h = rooms_ge m u is boxes
rooms_early (suc n) m v u is boxes l b h =
    (elim (int_lt v u) as (λ t. int_lt v u ≡ t → rooms_from (suc n) v is boxes ≤ℤ rooms_from m u is boxes) [
      | true ↦ λ e.
          let less : v <ℤ u = grind (arith, ints) in
          let one = b v less in let more = rooms_early n m (v +ℤ pos 1) u is boxes (omega (arith, ints)) b h in omega (arith, ints)
      | false ↦ λ e.
          let same : u ≡ v = grind (arith, ints) in
          subst (λ (z : ℤ). rooms_from (suc n) z is boxes ≤ℤ rooms_from m u is boxes) same (rooms_upto (suc n) m u is boxes h)
    ]) refl

-- from a later value on
rooms_late : (n m : ℕ) (v u : ℤ) (is : List (ℕ × ℕ × ℕ)) (boxes : Boxes) → u ≤ℤ v → NoneFrom (u +ℤ pos m) is boxes → rooms_from n v is boxes ≤ℤ rooms_from m u is boxes
rooms_late n zero v u is boxes l h = let none = rooms_none n v (u +ℤ pos 0) is boxes (omega (arith, ints)) h in omega (arith, ints)
rooms_late n (suc m) v u is boxes l h =
    (elim (int_lt u v) as (λ t. int_lt u v ≡ t → rooms_from n v is boxes ≤ℤ rooms_from (suc m) u is boxes) [
      | true ↦ λ e.
          let less : u <ℤ v = grind (arith, ints) in
          let one = best_room-ge u is boxes in let more = rooms_late n m v (u +ℤ pos 1) is boxes (omega (arith, ints)) (λ w k. h w (omega (arith, ints))) in omega (arith, ints)
      | false ↦ λ e.
          let same : u ≡ v = grind (arith, ints) in
          subst (λ (z : ℤ). rooms_from n z is boxes ≤ℤ rooms_from (suc m) u is boxes) same (rooms_upto n (suc m) u is boxes h)
    ]) refl

rooms_any : (n m : ℕ) (v u : ℤ) (is : List (ℕ × ℕ × ℕ)) (boxes : Boxes) → NoneBelow u is boxes → NoneFrom (u +ℤ pos m) is boxes → rooms_from n v is boxes ≤ℤ rooms_from m u is boxes
rooms_any n m v u is boxes b h =
    (elim (int_le v u) as (λ t. int_le v u ≡ t → rooms_from n v is boxes ≤ℤ rooms_from m u is boxes) [
      | true ↦ λ e. rooms_early n m v u is boxes (grind (arith, ints)) b h
      | false ↦ λ e. rooms_late n m v u is boxes (grind (arith, ints)) h
    ]) refl

-- ---- bins before the first and behind the last hold nothing

none_below : (w v : ℤ) (is : List (ℕ × ℕ × ℕ)) (boxes : Boxes) → AreSets boxes → w <ℤ first_bin v is boxes → best_room w is boxes ≡ pos 0
none_below w v [] boxes s h = refl
none_below w v (i ∷ is) boxes s h =
    let first = first_bin-le (int_min v (low_of (box_of boxes i.0))) is boxes in
    let out : has (box_of boxes i.0) w ≡ false = false_from_ne_true (has (box_of boxes i.0) w) (λ q. let low = above_low (box_of boxes i.0) w (s i.0) q in grind (arith, ints)) in
    let more = none_below w (int_min v (low_of (box_of boxes i.0))) is boxes s h in rw out more

none_above : (w v : ℤ) (is : List (ℕ × ℕ × ℕ)) (boxes : Boxes) → AreSets boxes → last_bin v is boxes <ℤ w → best_room w is boxes ≡ pos 0
none_above w v [] boxes s h = refl
none_above w v (i ∷ is) boxes s h =
    let last = last_bin-ge (int_max v (high_of (box_of boxes i.0))) is boxes in
    let out : has (box_of boxes i.0) w ≡ false = false_from_ne_true (has (box_of boxes i.0) w) (λ q. let high = below_high (box_of boxes i.0) w (s i.0) q in grind (arith, ints)) in
    let more = none_above w (int_max v (high_of (box_of boxes i.0))) is boxes s h in rw out more

width_end : (u t : ℤ) → u ≤ℤ t → u +ℤ pos (width u t) ≡ t +ℤ pos 1
width_end u t h = omega (arith, ints)

pub in_all : (n : ℕ) (v : ℤ) (items : List (ℕ × ℕ × ℕ)) (boxes : Boxes) → AreSets boxes → rooms_from n v items boxes ≤ℤ all_room items boxes
in_all n v [] boxes s = let none = rooms_none n v v [] boxes (omega (arith, ints)) (λ w l. refl) in omega (arith, ints)
in_all n v (i ∷ is) boxes s =
    let box = box_of boxes i.0 in
    let u = first_bin (low_of box) is boxes in let t = last_bin (high_of box) is boxes in
    let first = first_bin-le (low_of box) is boxes in let last = last_bin-ge (high_of box) is boxes in
    let order = ends_in_order box (s i.0) in
    let end = width_end u t (omega (arith, ints)) in
    rooms_any n (width u t) v u (i ∷ is) boxes
    (λ w l. let out : has box w ≡ false = false_from_ne_true (has box w) (λ q. let low = above_low box w (s i.0) q in omega (arith, ints)) in rw out (none_below w (low_of box) is boxes s l))
    (λ w l. let out : has box w ≡ false = false_from_ne_true (has box w) (λ q. let high = below_high box w (s i.0) q in omega (arith, ints)) in rw out (none_above w (high_of box) is boxes s (omega (arith, ints))))

pub seconds_le : (n : ℕ) (v : ℤ) (items : List (ℕ × ℕ × ℕ)) (boxes later : Boxes) → AreSets later → ((w : ℤ) → (two_rooms w items boxes).1 ≤ℤ best_room w items later) → seconds_from n v items boxes ≤ℤ all_room items later
seconds_le n v items boxes later s h =
    let one = sum_le n v items items boxes later h in let more = in_all n v items later s in omega (arith, ints)
