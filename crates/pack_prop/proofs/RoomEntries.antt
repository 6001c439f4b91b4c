-- Rows of rooms entry by entry: what a further item does to an entry, and which row has the
-- entries.
use Rattle.std.proofs.Common.{take, ◌++◌, append-nil, ◌≡◌, ℕ, zero, suc, ◌-◌, ◌<◌, ◌≤◌, Bool, true, false, ◌&&◌, ◌||◌, List, [], ◌∷◌, ℤ, pos, ◌+ℤ◌, length, drop, get_or, slice_set, slice_index_or, inl, inr, refl, arith, subst, sym, ap, ◌∙◌, nat_lt, drop-cons}
use Rattle.std.specs.Int.{int_max}
use Rattle.std.proofs.lemmas.Int.{ints}
use Rattle.std.proofs.lemmas.List.{get_or-set_same, get_or-set_other, take_all, drop_all}
use Rattle.std.proofs.lemmas.Bool.{cases_eq}
use Rattle.signed_clause.specs.Ranges.{Ranges, in_range, has}
use Rattle.signed_clause.specs.Clauses.{Boxes, box_of}
use Rattle.ground_form.specs.Bounds.{high_of}
use Rattle.box_rules.specs.Refuted.{best_room}
use Rattle.pack_prop.specs.declared.spans.Span.{Span}
use Rattle.pack_prop.specs.Spans.{is_in}
use Rattle.pack_prop.specs.RoomRows.{best_rooms, HasRooms, lifted}
use Rattle.pack_prop.proofs.SpanLaws.{in_here, in_now, in_others}
use Rattle.pack_fit.proofs.SurveyCounts.{left}

-- ---- one entry

pub not_lifted : (there : Bool) (h : ℤ) (p : ℤ × ℤ) → there ≡ false → p ≡ lifted there h p
not_lifted there h (v, r) e = ap (λ (t : Bool). lifted t h (v, r)) (sym e)

max_twice : (h r : ℤ) → int_max h (int_max h r) ≡ int_max h r
max_twice h r = grind (arith, ints)

lifted_by_either : (one two : Bool) (h : ℤ) (p : ℤ × ℤ) → lifted one h (lifted two h p) ≡ lifted (one || two) h p
lifted_by_either true true h p = ap (λ (r : ℤ). (p.0, r)) (max_twice h p.1)
lifted_by_either true false h p = refl
lifted_by_either false two h p = refl

-- ---- the entries of a span

pub lift_step : (old row : List (ℤ × ℤ)) (s : Span) (h : ℤ) (n : ℕ) (new : ℤ × ℤ) (e : ℕ) → s.begin ≤ n → n < s.end → n < length row → new ≡ lifted true h (slice_index_or row n (pos 0, pos 0)) →
    slice_index_or row e (pos 0, pos 0) ≡ lifted (is_in s e && nat_lt e n) h (slice_index_or old e (pos 0, pos 0)) →
    slice_index_or (slice_set row n new) e (pos 0, pos 0) ≡ lifted (is_in s e && nat_lt e (suc n)) h (slice_index_or old e (pos 0, pos 0))
lift_step old row s h n new e low high lt is was =
    (elim (cases_eq e n) [
      | inl q ↦
          let at : slice_index_or (slice_set row n new) e (pos 0, pos 0) ≡ new = ap (λ (j : ℕ). slice_index_or (slice_set row n new) j (pos 0, pos 0)) q ∙ get_or-set_same row n new (pos 0, pos 0) lt in
          let same : slice_index_or row n (pos 0, pos 0) ≡ slice_index_or row e (pos 0, pos 0) = ap (λ (j : ℕ). slice_index_or row j (pos 0, pos 0)) (sym q) in
          let before : (is_in s e && nat_lt e n) ≡ false = ap (λ (j : ℕ). is_in s j && nat_lt j n) q ∙ in_here s n low high in
          let now : (is_in s e && nat_lt e (suc n)) ≡ true = ap (λ (j : ℕ). is_in s j && nat_lt j (suc n)) q ∙ in_now s n low high in
          at ∙ is ∙ ap (λ (p : ℤ × ℤ). lifted true h p) (same ∙ was) ∙ ap (λ (t : Bool). lifted true h (lifted t h (slice_index_or old e (pos 0, pos 0)))) before
          ∙ ap (λ (t : Bool). lifted t h (slice_index_or old e (pos 0, pos 0))) (sym now)
      | inr q ↦
          get_or-set_other row n e new (pos 0, pos 0) q ∙ was ∙ ap (λ (t : Bool). lifted t h (slice_index_or old e (pos 0, pos 0))) (sym (in_others s e n q))
    ])

-- ---- the entries of a set's ranges

pub lift_more : (rs : Ranges) (j : ℕ) (v h : ℤ) (p q r : ℤ × ℤ) → 0 < j → j ≤ length rs → q ≡ lifted (has (drop j rs) v) h p → r ≡ lifted (in_range (get_or rs (j - 1) (pos 0, pos 0)) v) h q → r ≡ lifted (has (drop (j - 1) rs) v) h p
lift_more rs j v h p q r low high e f =
    let one = in_range (get_or rs (j - 1) (pos 0, pos 0)) v in
    f ∙ ap (λ (z : ℤ × ℤ). lifted one h z) e ∙ lifted_by_either one (has (drop j rs) v) h p ∙ ap (λ (z : Ranges). lifted (has z v) h p) (sym (left rs j low high))

-- ---- the rooms of the values

pub room_step : (v : ℤ) (p q : ℤ × ℤ) (items : List (ℕ × ℕ × ℕ)) (boxes : Boxes) (k : ℕ) (i : ℕ × ℕ × ℕ) (rs : Ranges) (h : ℤ) → k < length items → i ≡ get_or items k (0, 0, 0) → rs ≡ box_of boxes i.0 → h ≡ high_of (box_of boxes i.2) →
    p ≡ (v, best_room v (drop (suc k) items) boxes) → q ≡ lifted (has rs v) h p → q ≡ (v, best_room v (drop k items) boxes)
room_step v p q items boxes k i rs h lt is set high was now =
    now ∙ ap (λ (z : ℤ × ℤ). lifted (has rs v) h z) was ∙ ap (λ (z : Ranges). lifted (has z v) h (v, best_room v (drop (suc k) items) boxes)) set
    ∙ ap (λ (z : ℤ). lifted (has (box_of boxes i.0) v) z (v, best_room v (drop (suc k) items) boxes)) high
    ∙ ap (λ (z : List (ℕ × ℕ × ℕ)). (v, best_room v z boxes)) (sym (drop-cons items k (0, 0, 0) lt ∙ ap (λ (j : ℕ × ℕ × ℕ). j ∷ drop (suc k) items) (sym is)))

rooms_length : (n : ℕ) (v : ℤ) (items : List (ℕ × ℕ × ℕ)) (boxes : Boxes) → length (best_rooms n v items boxes) ≡ n
rooms_length zero v items boxes = refl
rooms_length (suc n) v items boxes = ap (λ (m : ℕ). suc m) (rooms_length n (v +ℤ pos 1) items boxes)

has_best : (n : ℕ) (v : ℤ) (items : List (ℕ × ℕ × ℕ)) (boxes : Boxes) → HasRooms (best_rooms n v items boxes) v items boxes
has_best zero v items boxes e lt = absurd (omega arith)
has_best (suc n) v items boxes zero lt = let same : v ≡ v +ℤ pos 0 = omega (arith, ints) in ap (λ (z : ℤ). (z, best_room z items boxes)) same
has_best (suc n) v items boxes (suc e) lt =
    let same : (v +ℤ pos 1) +ℤ pos e ≡ v +ℤ pos (suc e) = omega (arith, ints) in
    has_best n (v +ℤ pos 1) items boxes e (omega arith) ∙ ap (λ (z : ℤ). (z, best_room z items boxes)) same

pub begins : (n : ℕ) (v : ℤ) (items : List (ℕ × ℕ × ℕ)) (boxes : Boxes) (row same : List (ℤ × ℤ)) → same ≡ row → row ≡ best_rooms n v items boxes → HasRooms same v items boxes
begins n v items boxes row same e h = subst (λ (z : List (ℤ × ℤ)). HasRooms z v items boxes) (sym (e ∙ h)) (has_best n v items boxes)

all_best : (n : ℕ) (v : ℤ) (items : List (ℕ × ℕ × ℕ)) (boxes : Boxes) (row : List (ℤ × ℤ)) → length row ≡ n → HasRooms row v items boxes → row ≡ best_rooms n v items boxes
all_best zero v items boxes [] e h = refl
all_best zero v items boxes (p ∷ ps) e h = absurd (omega arith)
all_best (suc n) v items boxes [] e h = absurd (omega arith)
all_best (suc n) v items boxes (p ∷ ps) e h =
    let same : v +ℤ pos 0 ≡ v = omega (arith, ints) in
    let here : p ≡ (v, best_room v items boxes) = h zero (omega arith) ∙ ap (λ (z : ℤ). (z, best_room z items boxes)) same in
    let more : ps ≡ best_rooms n (v +ℤ pos 1) items boxes = all_best n (v +ℤ pos 1) items boxes ps (omega arith) (λ e lt.
    let next : v +ℤ pos (suc e) ≡ (v +ℤ pos 1) +ℤ pos e = omega (arith, ints) in h (suc e) (omega arith) ∙ ap (λ (z : ℤ). (z, best_room z items boxes)) next) in
    ap (λ (z : ℤ × ℤ). z ∷ ps) here ∙ ap (λ (z : List (ℤ × ℤ)). (v, best_room v items boxes) ∷ z) more

-- what a call wrote through a reference to the vector's elements
pub filled : (n m : ℕ) (v : ℤ) (items : List (ℕ × ℕ × ℕ)) (boxes : Boxes) (new was row : List (ℤ × ℤ)) → was ≡ row → length row ≡ m → row ≡ best_rooms n v [] boxes → length new ≡ length was → HasRooms new v items boxes →
    take m (new ++ drop (length new) row) ≡ best_rooms n v items boxes
filled n m v items boxes new was row same size bare len h =
    let many : length row ≡ n = ap length bare ∙ rooms_length n v [] boxes in
    let as_many : length new ≡ length row = len ∙ ap length same in
    ap (λ (rest : List (ℤ × ℤ)). take m (new ++ rest)) (drop_all (length new) row (omega (arith, as_many)))
    ∙ ap (take m) (append-nil new) ∙ take_all m new (omega (arith, size, as_many)) ∙ all_best n v items boxes new (omega (arith, many, as_many)) h
