-- Rows of rooms: all room is at most a row's rooms, where the row has at least the best room of
-- each value.
use Rattle.std.proofs.Common.{◌≡◌, ℕ, zero, suc, ◌+◌, ◌<◌, Bool, true, false, ◌&&◌, cond, List, [], ◌∷◌, ℤ, pos, ◌+ℤ◌, ◌≤ℤ◌, ◌<ℤ◌, All, length, ◌++◌, refl, arith, subst, sym, ap, ◌∙◌, inl, inr}
use Rattle.std.specs.Prelude.{int_lt, int_le, slice_index_or}
use Rattle.std.specs.Int.{int_max}
use Rattle.std.specs.Ordering.{int_eq}
use Rattle.std.proofs.lemmas.Int.{ints}
use Rattle.std.proofs.lemmas.Bool.{or_cases, and_parts}
use Rattle.std.proofs.lemmas.Bool.Decides.{Decides-int_eq}
use Rattle.std.proofs.lemmas.List.Elements.{All-cons, All-nil}
use Rattle.signed_clause.specs.Ranges.{Ranges, has}
use Rattle.signed_clause.specs.Clauses.{Boxes, box_of}
use Rattle.ground_form.specs.Bounds.{low_of, high_of}
use Rattle.box_rules.specs.Refuted.{best_room, rooms_from, first_bin, last_bin, width, all_room}
use Rattle.box_rules.proofs.PackLaws.{best_room-ge}
use Rattle.pack_prop.specs.RoomRows.{best_rooms, IsRow, row_sum, raised, is_short}

-- the row has at least the best room of each of its values
abbrev pub AreBest : List (ℤ × ℤ) → List (ℕ × ℕ × ℕ) → Boxes → Type 0
AreBest row items boxes = All (λ p. best_room p.0 items boxes ≤ℤ p.1) row

-- ---- the row of best rooms

pub best_row : (n : ℕ) (first last : ℤ) (items : List (ℕ × ℕ × ℕ)) (boxes : Boxes) → first +ℤ pos n ≡ last +ℤ pos 1 → IsRow first last (best_rooms n first items boxes)
best_row zero first last items boxes h = omega (arith, ints)
best_row (suc n) first last items boxes h = (refl, best_row n (first +ℤ pos 1) last items boxes (omega (arith, ints)))

pub best_best : (n : ℕ) (v : ℤ) (items : List (ℕ × ℕ × ℕ)) (boxes : Boxes) → AreBest (best_rooms n v items boxes) items boxes
best_best zero v items boxes = All-nil (λ (p : ℤ × ℤ). best_room p.0 items boxes ≤ℤ p.1)
best_best (suc n) v items boxes = All-cons (λ (p : ℤ × ℤ). best_room p.0 items boxes ≤ℤ p.1) (v, best_room v items boxes) (best_rooms n (v +ℤ pos 1) items boxes) (omega (arith, ints)) (best_best n (v +ℤ pos 1) items boxes)

best_next : (n : ℕ) (v : ℤ) (items : List (ℕ × ℕ × ℕ)) (boxes : Boxes) → best_rooms (suc n) v items boxes ≡ best_rooms n v items boxes ++ (v +ℤ pos n, best_room (v +ℤ pos n) items boxes) ∷ []
best_next zero v items boxes = let e : v +ℤ pos 0 ≡ v = omega (arith, ints) in rw e refl
best_next (suc n) v items boxes =
    let more = best_next n (v +ℤ pos 1) items boxes in
    let e : (v +ℤ pos 1) +ℤ pos n ≡ v +ℤ pos (suc n) = omega (arith, ints) in
    ap (λ (z : List (ℤ × ℤ)). (v, best_room v items boxes) ∷ z) (more ∙ ap (λ (z : ℤ). best_rooms n (v +ℤ pos 1) items boxes ++ (z, best_room z items boxes) ∷ []) e)

pub best_step : (k : ℕ) (v at : ℤ) (p : ℤ × ℤ) (items : List (ℕ × ℕ × ℕ)) (boxes : Boxes) (row next : List (ℤ × ℤ)) → at ≡ v +ℤ pos k → p ≡ (at, best_room at items boxes) → next ≡ row ++ p ∷ [] →
    row ≡ best_rooms k v items boxes → next ≡ best_rooms (k + 1) v items boxes
best_step k v at p items boxes row next e r n h =
    let is : suc k ≡ k + 1 = omega arith in
    n ∙ ap (λ (z : List (ℤ × ℤ)). z ++ p ∷ []) h ∙ ap (λ (z : ℤ × ℤ). best_rooms k v items boxes ++ z ∷ []) r
    ∙ ap (λ (z : ℤ). best_rooms k v items boxes ++ (z, best_room z items boxes) ∷ []) e ∙ sym (best_next k v items boxes) ∙ ap (λ (m : ℕ). best_rooms m v items boxes) is

-- ---- a row that is raised

pub raised_row : (s : Ranges) (h first last : ℤ) (row : List (ℤ × ℤ)) → IsRow first last row → IsRow first last (raised s h row)
raised_row s h first last [] r = r
raised_row s h first last (p ∷ ps) r = (r.0, raised_row s h (first +ℤ pos 1) last ps r.1)

pub raised_ge : (b : Bool) (h r : ℤ) → r ≤ℤ cond b (int_max h r) r
raised_ge true h r = grind (arith, ints)
raised_ge false h r = omega (arith, ints)

pub raised_to : (b : Bool) (h r : ℤ) → b ≡ true → h ≤ℤ cond b (int_max h r) r
raised_to true h r e = grind (arith, ints)
raised_to false h r e = absurd cc

pub raised_all : (P : ℤ × ℤ → Type 0) (s : Ranges) (h : ℤ) (row : List (ℤ × ℤ)) → ((p : ℤ × ℤ) → P p → P (p.0, cond (has s p.0) (int_max h p.1) p.1)) → All P row → All P (raised s h row)
raised_all P s h [] f a = All-nil P
raised_all P s h (p ∷ ps) f a =
    All-cons P (p.0, cond (has s p.0) (int_max h p.1) p.1) (raised s h ps) (f p (a 0 p (omega arith))) (raised_all P s h ps f (λ k d lt. a (suc k) d (omega arith)))

pub raised_any : (P : ℤ × ℤ → Type 0) (s : Ranges) (h : ℤ) (row : List (ℤ × ℤ)) → ((p : ℤ × ℤ) → P (p.0, cond (has s p.0) (int_max h p.1) p.1)) → All P (raised s h row)
raised_any P s h [] f = All-nil P
raised_any P s h (p ∷ ps) f = All-cons P (p.0, cond (has s p.0) (int_max h p.1) p.1) (raised s h ps) (f p) (raised_any P s h ps f)

-- ---- values whose room is less

pub short_less : (v h : ℤ) (row : List (ℤ × ℤ)) (items : List (ℕ × ℕ × ℕ)) (boxes : Boxes) → AreBest row items boxes → is_short v h row ≡ true → best_room v items boxes <ℤ h
short_less v h [] items boxes a s = absurd cc
short_less v h (p ∷ ps) items boxes a s =
    elim (or_cases (int_eq p.0 v && int_lt p.1 h) (is_short v h ps) s) [
      | inl e ↦
          let parts = and_parts (int_eq p.0 v) (int_lt p.1 h) e in
          let same = (Decides-int_eq p.0 v).0 parts.0 in
          let here = a 0 p (omega arith) in
          let best : best_room v items boxes ≤ℤ p.1 = subst (λ (z : ℤ). best_room z items boxes ≤ℤ p.1) same here in
          let less = parts.1 in grind (arith, ints)
      | inr e ↦ short_less v h ps items boxes (λ k d lt. a (suc k) d (omega arith)) e
    ]

pub long_all : (Q : ℤ → Bool) (h : ℤ) (row : List (ℤ × ℤ)) → ((v : ℤ) → Q v ≡ true → is_short v h row ≡ false) → All (λ p. Q p.0 ≡ true → h ≤ℤ p.1) row
long_all Q h [] f = All-nil (λ (p : ℤ × ℤ). Q p.0 ≡ true → h ≤ℤ p.1)
long_all Q h (p ∷ ps) f =
    All-cons (λ (p : ℤ × ℤ). Q p.0 ≡ true → h ≤ℤ p.1) p ps
    (λ q. let none = f p.0 q in let same : int_eq p.0 p.0 ≡ true = (Decides-int_eq p.0 p.0).1 refl in let long : int_lt p.1 h ≡ false = grind arith in grind (arith, ints))
    (long_all Q h ps (λ v q. let none = f v q in grind arith))

-- ---- the best room

pub best_in : (v : ℤ) (j : ℕ) (items : List (ℕ × ℕ × ℕ)) (boxes : Boxes) → j < length items → has (box_of boxes (slice_index_or items j (0, 0, 0)).0) v ≡ true → high_of (box_of boxes (slice_index_or items j (0, 0, 0)).2) ≤ℤ best_room v items boxes
best_in v j [] boxes lt h = absurd (omega arith)
best_in v zero (i ∷ is) boxes lt h = rw h (grind (arith, ints))
best_in v (suc j) (i ∷ is) boxes lt h =
    let more = best_in v j is boxes (omega arith) h in
    elim (has (box_of boxes i.0) v) as (λ t. high_of (box_of boxes (slice_index_or is j (0, 0, 0)).2) ≤ℤ cond t (int_max (high_of (box_of boxes i.2)) (best_room v is boxes)) (best_room v is boxes)) [
      | true ↦ grind (arith, ints)
      | false ↦ more
    ]

pub best_upto : (v r : ℤ) (items : List (ℕ × ℕ × ℕ)) (boxes : Boxes) → pos 0 ≤ℤ r → All (λ i. has (box_of boxes i.0) v ≡ true → high_of (box_of boxes i.2) ≤ℤ r) items → best_room v items boxes ≤ℤ r
best_upto v r [] boxes h a = h
best_upto v r (i ∷ is) boxes h a =
    let here : has (box_of boxes i.0) v ≡ true → high_of (box_of boxes i.2) ≤ℤ r = a 0 i (omega arith) in
    let more = best_upto v r is boxes h (λ k d lt. a (suc k) d (omega arith)) in
    (elim (has (box_of boxes i.0) v) as (λ t. has (box_of boxes i.0) v ≡ t → cond t (int_max (high_of (box_of boxes i.2)) (best_room v is boxes)) (best_room v is boxes) ≤ℤ r) [
      | true ↦ λ e. let one = here e in grind (arith, ints)
      | false ↦ λ e. more
    ]) refl

pub best_none : (v : ℤ) (items : List (ℕ × ℕ × ℕ)) (boxes : Boxes) → All (λ i. has (box_of boxes i.0) v ≡ false) items → best_room v items boxes ≡ pos 0
best_none v [] boxes a = refl
best_none v (i ∷ is) boxes a =
    let here = a 0 i (omega arith) in rw here (best_none v is boxes (λ k d lt. a (suc k) d (omega arith)))

-- ---- all room is at most the row's

row_ge : (row : List (ℤ × ℤ)) (items : List (ℕ × ℕ × ℕ)) (boxes : Boxes) → AreBest row items boxes → pos 0 ≤ℤ row_sum row
row_ge [] items boxes a = omega (arith, ints)
row_ge (p ∷ ps) items boxes a =
    let here = a 0 p (omega arith) in let low = best_room-ge p.0 items boxes in
    let more = row_ge ps items boxes (λ k d lt. a (suc k) d (omega arith)) in omega (arith, ints)

rooms_zero : (n : ℕ) (v : ℤ) (items : List (ℕ × ℕ × ℕ)) (boxes : Boxes) → ((w : ℤ) → v ≤ℤ w → best_room w items boxes ≡ pos 0) → rooms_from n v items boxes ≡ pos 0
rooms_zero zero v items boxes h = refl
rooms_zero (suc n) v items boxes h = let one = h v (omega (arith, ints)) in let more = rooms_zero n (v +ℤ pos 1) items boxes (λ w l. h w (omega (arith, ints))) in omega (arith, ints)

rooms_same : (n : ℕ) (v last : ℤ) (row : List (ℤ × ℤ)) (items : List (ℕ × ℕ × ℕ)) (boxes : Boxes) → IsRow v last row → AreBest row items boxes → ((w : ℤ) → last <ℤ w → best_room w items boxes ≡ pos 0) → rooms_from n v items boxes ≤ℤ row_sum row
rooms_same zero v last row items boxes r a h = row_ge row items boxes a
rooms_same (suc n) v last [] items boxes r a h = let none = rooms_zero (suc n) v items boxes (λ w l. h w (omega (arith, ints))) in omega (arith, ints)
rooms_same (suc n) v last (p ∷ ps) items boxes r a h =
    let here : best_room v items boxes ≤ℤ p.1 = subst (λ (z : ℤ). best_room z items boxes ≤ℤ p.1) r.0 (a 0 p (omega arith)) in
    let more = rooms_same n (v +ℤ pos 1) last ps items boxes r.1 (λ k d lt. a (suc k) d (omega arith)) h in omega (arith, ints)

rooms_early : (n : ℕ) (v first last : ℤ) (row : List (ℤ × ℤ)) (items : List (ℕ × ℕ × ℕ)) (boxes : Boxes) → v ≤ℤ first → IsRow first last row → AreBest row items boxes →
    ((w : ℤ) → w <ℤ first → best_room w items boxes ≡ pos 0) → ((w : ℤ) → last <ℤ w → best_room w items boxes ≡ pos 0) → rooms_from n v items boxes ≤ℤ row_sum row
rooms_early zero v first last row items boxes l r a b h = row_ge row items boxes a
rooms_early (suc n) v first last row items boxes l r a b h =
    (elim (int_lt v first) as (λ t. int_lt v first ≡ t → rooms_from (suc n) v items boxes ≤ℤ row_sum row) [
      | true ↦ λ e.
          let less : v <ℤ first = grind (arith, ints) in
          let one = b v less in let more = rooms_early n (v +ℤ pos 1) first last row items boxes (omega (arith, ints)) r a b h in omega (arith, ints)
      | false ↦ λ e.
          let same : first ≡ v = grind (arith, ints) in
          subst (λ (z : ℤ). rooms_from (suc n) z items boxes ≤ℤ row_sum row) same (rooms_same (suc n) first last row items boxes r a h)
    ]) refl

rooms_late : (n : ℕ) (v first last : ℤ) (row : List (ℤ × ℤ)) (items : List (ℕ × ℕ × ℕ)) (boxes : Boxes) → first ≤ℤ v → IsRow first last row → AreBest row items boxes →
    ((w : ℤ) → last <ℤ w → best_room w items boxes ≡ pos 0) → rooms_from n v items boxes ≤ℤ row_sum row
rooms_late n v first last [] items boxes l r a h = let none = rooms_zero n v items boxes (λ w k. h w (omega (arith, ints))) in omega (arith, ints)
rooms_late n v first last (p ∷ ps) items boxes l r a h =
    (elim (int_lt first v) as (λ t. int_lt first v ≡ t → rooms_from n v items boxes ≤ℤ row_sum (p ∷ ps)) [
      | true ↦ λ e.
          let less : first <ℤ v = grind (arith, ints) in
          let low = best_room-ge p.0 items boxes in let here = a 0 p (omega arith) in
          let more = rooms_late n v (first +ℤ pos 1) last ps items boxes (omega (arith, ints)) r.1 (λ k d lt. a (suc k) d (omega arith)) h in omega (arith, ints)
      | false ↦ λ e.
          let same : first ≡ v = grind (arith, ints) in
          subst (λ (z : ℤ). rooms_from n z items boxes ≤ℤ row_sum (p ∷ ps)) same (rooms_same n first last (p ∷ ps) items boxes r a h)
    ]) refl

rooms_row : (n : ℕ) (v first last : ℤ) (row : List (ℤ × ℤ)) (items : List (ℕ × ℕ × ℕ)) (boxes : Boxes) → IsRow first last row → AreBest row items boxes →
    ((w : ℤ) → w <ℤ first → best_room w items boxes ≡ pos 0) → ((w : ℤ) → last <ℤ w → best_room w items boxes ≡ pos 0) → rooms_from n v items boxes ≤ℤ row_sum row
rooms_row n v first last row items boxes r a b h =
    (elim (int_le v first) as (λ t. int_le v first ≡ t → rooms_from n v items boxes ≤ℤ row_sum row) [
      | true ↦ λ e. rooms_early n v first last row items boxes (grind (arith, ints)) r a b h
      | false ↦ λ e. rooms_late n v first last row items boxes (grind (arith, ints)) r a h
    ]) refl

pub all_room_row : (first last : ℤ) (row : List (ℤ × ℤ)) (items : List (ℕ × ℕ × ℕ)) (boxes : Boxes) → IsRow first last row → AreBest row items boxes →
    ((w : ℤ) → w <ℤ first → best_room w items boxes ≡ pos 0) → ((w : ℤ) → last <ℤ w → best_room w items boxes ≡ pos 0) → all_room items boxes ≤ℤ row_sum row
all_room_row first last row [] boxes r a b h = row_ge row [] boxes a
all_room_row first last row (i ∷ is) boxes r a b h =
    let u = first_bin (low_of (box_of boxes i.0)) is boxes in let t = last_bin (high_of (box_of boxes i.0)) is boxes in
    rooms_row (width u t) u first last row (i ∷ is) boxes r a b h
