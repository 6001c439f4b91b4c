-- Rows of the two greatest rooms: what one more room does to their entries, and that entry by entry
-- they are the rooms of the values.
use Rattle.std.proofs.Common.{take, ◌++◌, append-nil, ◌≡◌, ℕ, zero, suc, ◌-◌, ◌<◌, ◌≤◌, Bool, true, false, ◌&&◌, ◌||◌, cond, List, [], ◌∷◌, ℤ, pos, ◌+ℤ◌, ◌<ℤ◌, length, drop, get_or, slice_set, slice_index_or, inl, inr, refl, arith, subst, sym, ap, ◌∙◌, nat_lt, drop-cons}
use Rattle.std.proofs.lemmas.Int.{ints}
use Rattle.std.proofs.lemmas.List.{get_or-set_same, get_or-set_other, take_all, drop_all}
use Rattle.std.proofs.lemmas.Bool.{cases_eq}
use Rattle.signed_clause.specs.Ranges.{Ranges, in_range, has, IsValid}
use Rattle.signed_clause.specs.Clauses.{Boxes, box_of}
use Rattle.signed_clause.proofs.RangeLaws.{has-below}
use Rattle.ground_form.specs.Bounds.{high_of}
use Rattle.rule_law.specs.Repeats.{is_one}
use Rattle.pack_prop.specs.declared.best_rooms.ValueRooms.{ValueRooms}
use Rattle.pack_prop.specs.declared.spans.Span.{Span}
use Rattle.pack_fit.specs.Packing.{put, two_rooms}
use Rattle.pack_prop.specs.Spans.{is_in}
use Rattle.pack_prop.specs.Tight.{AreValueRooms, AreBestRooms, HaveBestRooms, IsRaised}
use Rattle.pack_prop.proofs.SpanLaws.{in_here, in_now, in_others}
use Rattle.pack_fit.proofs.SurveyCounts.{left, left_valid}

-- ---- one entry

pub not_raised : (there : Bool) (room : ℤ) (stays : Bool) (b : ValueRooms) → there ≡ false → IsRaised there room stays b b
not_raised there room stays b h = subst (λ (t : Bool). IsRaised t room stays b b) (sym h) (record { at = refl; rooms = refl })

-- raised by one of two, and not by both
raised_by_either : (one two : Bool) (room : ℤ) (stays : Bool) (a b c : ValueRooms) → (one ≡ true → two ≡ false) → IsRaised two room stays a b → IsRaised one room stays b c → IsRaised (one || two) room stays a c
raised_by_either true true room stays a b c n h k = absurd cc (n refl)
raised_by_either true false room stays a b c n h k = record { at = k.at ∙ h.at; rooms = k.rooms ∙ ap (λ (p : ℤ × ℤ). put room stays p) h.rooms }
raised_by_either false two room stays a b c n h k = record { at = k.at ∙ h.at; rooms = k.rooms ∙ h.rooms }

same_at : (xs : List ValueRooms) (n : ℕ) (a b : ValueRooms) → n < length xs → slice_index_or xs n a ≡ slice_index_or xs n b
same_at [] n a b h = absurd (omega arith)
same_at (x ∷ xs) zero a b h = refl
same_at (x ∷ xs) (suc n) a b h = same_at xs n a b (omega arith)

-- ---- the entries of a span

pub span_step : (old rows : List ValueRooms) (s : Span) (room : ℤ) (stays : Bool) (n : ℕ) (bare new d : ValueRooms) (e : ℕ) → s.begin ≤ n → n < s.end → n < length rows → e < length rows →
    IsRaised true room stays (slice_index_or rows n bare) new →
    IsRaised (is_in s e && nat_lt e n) room stays (slice_index_or old e d) (slice_index_or rows e d) →
    IsRaised (is_in s e && nat_lt e (suc n)) room stays (slice_index_or old e d) (slice_index_or (slice_set rows n new) e d)
span_step old rows s room stays n bare new d e low high lt le more h =
    (elim (cases_eq e n) [
      | inl q ↦
          let set : slice_index_or (slice_set rows n new) e d ≡ new = ap (λ (j : ℕ). slice_index_or (slice_set rows n new) j d) q ∙ get_or-set_same rows n new d lt in
          let was : slice_index_or rows e d ≡ slice_index_or rows n bare = same_at rows e d bare le ∙ ap (λ (j : ℕ). slice_index_or rows j bare) q in
          let before : (is_in s e && nat_lt e n) ≡ false = ap (λ (j : ℕ). is_in s j && nat_lt j n) q ∙ in_here s n low high in
          let now : (is_in s e && nat_lt e (suc n)) ≡ true = ap (λ (j : ℕ). is_in s j && nat_lt j (suc n)) q ∙ in_now s n low high in
          let kept : IsRaised false room stays (slice_index_or old e d) (slice_index_or rows n bare) =
          subst (λ (b : ValueRooms). IsRaised false room stays (slice_index_or old e d) b) was (subst (λ (t : Bool). IsRaised t room stays (slice_index_or old e d) (slice_index_or rows e d)) before h) in
          let both : IsRaised true room stays (slice_index_or old e d) new = raised_by_either true false room stays _ _ new (λ r. refl) kept more in
          subst (λ (t : Bool). IsRaised t room stays (slice_index_or old e d) (slice_index_or (slice_set rows n new) e d)) (sym now) (subst (λ (b : ValueRooms). IsRaised true room stays (slice_index_or old e d) b) (sym set) both)
      | inr q ↦
          let other = get_or-set_other rows n e new d q in
          subst (λ (t : Bool). IsRaised t room stays (slice_index_or old e d) (slice_index_or (slice_set rows n new) e d)) (sym (in_others s e n q))
          (subst (λ (b : ValueRooms). IsRaised (is_in s e && nat_lt e n) room stays (slice_index_or old e d) b) (sym other) h)
    ])

-- ---- the entries of a set's ranges

-- no range behind has a value of the range
apart : (rs : Ranges) (j : ℕ) (v : ℤ) → IsValid rs → 0 < j → j ≤ length rs → in_range (get_or rs (j - 1) (pos 0, pos 0)) v ≡ true → has (drop j rs) v ≡ false
apart rs j v s h k e =
    let r = get_or rs (j - 1) (pos 0, pos 0) in let valid = left_valid rs j s h k in
    let upto : v <ℤ (r.1 +ℤ pos 2) = grind (arith, ints, e) in has-below (r.1 +ℤ pos 2) _ (drop j rs) v valid.2 upto

pub ranges_step : (rs : Ranges) (j : ℕ) (v : ℤ) (room : ℤ) (stays : Bool) (a b c : ValueRooms) → IsValid rs → 0 < j → j ≤ length rs →
    IsRaised (has (drop j rs) v) room stays a b → IsRaised (in_range (get_or rs (j - 1) (pos 0, pos 0)) v) room stays b c → IsRaised (has (drop (j - 1) rs) v) room stays a c
ranges_step rs j v room stays a b c s h k old new =
    subst (λ (z : Ranges). IsRaised (has z v) room stays a c) (sym (left rs j h k))
    (raised_by_either (in_range (get_or rs (j - 1) (pos 0, pos 0)) v) (has (drop j rs) v) room stays a b c (apart rs j v s h k) old new)

-- ---- the rooms of the values

pair_is : (p : ℤ × ℤ) (a b : ℤ) → a ≡ p.0 → b ≡ p.1 → (a, b) ≡ p
pair_is (c, d) a b e f = ap (λ (z : ℤ). (z, b)) e ∙ ap (λ (z : ℤ). (c, z)) f

pub item_step : (v : ℤ) (b c : ValueRooms) (items : List (ℕ × ℕ × ℕ)) (boxes : Boxes) (k : ℕ) (i : ℕ × ℕ × ℕ) (rs : Ranges) (room : ℤ) (stays : Bool) → k < length items → i ≡ get_or items k (0, 0, 0) →
    rs ≡ box_of boxes i.0 → room ≡ high_of (box_of boxes i.2) → stays ≡ (is_one (box_of boxes i.0) && is_one (box_of boxes i.2)) →
    AreValueRooms v b (drop (suc k) items) boxes → IsRaised (has rs v) room stays b c → AreValueRooms v c (drop k items) boxes
item_step v b c items boxes k i rs room stays lt is set high one h r =
    let rest = drop (suc k) items in
    let was : (b.first.value, b.second.value) ≡ two_rooms v rest boxes = pair_is (two_rooms v rest boxes) _ _ h.first_is h.second_is in
    let now : (c.first.value, c.second.value) ≡ two_rooms v (i ∷ rest) boxes =
    r.rooms ∙ ap (λ (z : Ranges). cond (has z v) (put room stays (b.first.value, b.second.value)) (b.first.value, b.second.value)) set
    ∙ ap (λ (p : ℤ × ℤ). cond (has (box_of boxes i.0) v) (put room stays p) p) was
    ∙ ap (λ (z : ℤ). cond (has (box_of boxes i.0) v) (put z stays (two_rooms v rest boxes)) (two_rooms v rest boxes)) high
    ∙ ap (λ (t : Bool). cond (has (box_of boxes i.0) v) (put (high_of (box_of boxes i.2)) t (two_rooms v rest boxes)) (two_rooms v rest boxes)) one in
    subst (λ (z : List (ℕ × ℕ × ℕ)). AreValueRooms v c z boxes) (sym (drop-cons items k (0, 0, 0) lt ∙ ap (λ (j : ℕ × ℕ × ℕ). j ∷ drop (suc k) items) (sym is)))
    (record { value_is = r.at ∙ h.value_is; first_is = ap (λ (p : ℤ × ℤ). p.0) now; second_is = ap (λ (p : ℤ × ℤ). p.1) now })

pub best_rooms_have : (v : ℤ) (rows : List ValueRooms) (items : List (ℕ × ℕ × ℕ)) (boxes : Boxes) → AreBestRooms v rows items boxes → HaveBestRooms rows v items boxes
best_rooms_have v [] items boxes h d e lt = absurd (omega arith)
best_rooms_have v (b ∷ bs) items boxes h d zero lt = let same : v ≡ v +ℤ pos 0 = omega (arith, ints) in subst (λ (z : ℤ). AreValueRooms z b items boxes) same h.0
best_rooms_have v (b ∷ bs) items boxes h d (suc e) lt =
    let same : (v +ℤ pos 1) +ℤ pos e ≡ v +ℤ pos (suc e) = omega (arith, ints) in
    subst (λ (z : ℤ). AreValueRooms z (slice_index_or bs e d) items boxes) same (best_rooms_have (v +ℤ pos 1) bs items boxes h.1 d e (omega arith))

pub best_rooms_are : (v : ℤ) (rows : List ValueRooms) (items : List (ℕ × ℕ × ℕ)) (boxes : Boxes) → HaveBestRooms rows v items boxes → AreBestRooms v rows items boxes
best_rooms_are v [] items boxes h = tt
best_rooms_are v (b ∷ bs) items boxes h =
    let same : v +ℤ pos 0 ≡ v = omega (arith, ints) in (
      subst (λ (z : ℤ). AreValueRooms z b items boxes) same (h b zero (omega arith)),
      best_rooms_are (v +ℤ pos 1) bs items boxes (λ d e lt.
          let next : v +ℤ pos (suc e) ≡ (v +ℤ pos 1) +ℤ pos e = omega (arith, ints) in
          subst (λ (z : ℤ). AreValueRooms z (slice_index_or bs e d) items boxes) next (h d (suc e) (omega arith))),
    )

pub as_slice : (a b : List ValueRooms) (first : ℤ) (items : List (ℕ × ℕ × ℕ)) (boxes : Boxes) → a ≡ b → HaveBestRooms b first items boxes → HaveBestRooms a first items boxes
as_slice a b first items boxes e h = subst (λ (z : List ValueRooms). HaveBestRooms z first items boxes) (sym e) h

-- the entries that a call wrote through a reference to a vector's elements
pub written : (n : ℕ) (xs ys zs now : List ValueRooms) → zs ≡ ys → length ys ≡ n → length xs ≡ length zs → now ≡ take n (xs ++ drop (length xs) ys) → now ≡ xs
written n xs ys zs now same size len is =
    let as_many : length xs ≡ length ys = len ∙ ap length same in
    is ∙ ap (λ rest. take n (xs ++ rest)) (drop_all (length xs) ys (omega (arith, as_many)))
    ∙ ap (take n) (append-nil xs)
    ∙ take_all n xs (omega (arith, size, as_many))
