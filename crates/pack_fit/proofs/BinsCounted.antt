-- Bins: that nothing is counted in new ones, and what one more item does.
use Rattle.std.proofs.Common.{◌≡◌, ℕ, zero, suc, ◌<◌, ◌≤◌, ◌==◌, Bool, true, false, ◌||◌, cond, List, [], ◌∷◌, ◌++◌, ℤ, pos, ◌+ℤ◌, ◌-ℤ◌, ◌≤ℤ◌, length, drop, take, replicate, get_or, slice_set, slice_index_or, inl, inr, refl, arith, subst, sym, ap, ◌∙◌, All, ◌*◌, drop-cons, length-drop, length-set}
use Rattle.std.specs.Int.{int_max, int_min}
use Rattle.std.proofs.lemmas.Int.{ints}
use Rattle.std.proofs.lemmas.List.{get_or-replicate, get_or-set_same, get_or-set_other}
use Rattle.std.proofs.lemmas.Bool.{cases_eq, eq-eqb, ne_eqb}
use Rattle.signed_clause.specs.Ranges.{Ranges, IsValid}
use Rattle.signed_clause.specs.Clauses.{Boxes, box_of}
use Rattle.signed_clause.proofs.RangeLaws.{Ascends-ends}
use Rattle.ground_form.specs.Bounds.{low_of, high_of}
use Rattle.box_rules.specs.Refuted.{fixed_at, fixed_load}
use Rattle.rule_law.specs.Repeats.{is_one}
use Rattle.box_view.proofs.EndLaws.{AreSets, are_sets}
use Rattle.pack_fit.specs.declared.survey.BinCounts.{BinCounts}
use Rattle.pack_fit.specs.Survey.{IsCounted, AreCounted, fixed_count}

-- a list of the same elements behind nothing
behind_none : (n m : ℕ) (bare : BinCounts) → ◌++◌ {A = BinCounts} (take n []) (replicate m bare) ≡ replicate m bare
behind_none zero m bare = refl
behind_none (suc n) m bare = refl

length_same : (m : ℕ) (bare : BinCounts) → length (replicate m bare) ≡ m
length_same zero bare = refl
length_same (suc m) bare = let more = length_same m bare in omega arith

same_bins : (m : ℕ) (bare : BinCounts) (first : ℤ) (boxes : Boxes) → ((v : ℤ) (b : Boxes) → IsCounted bare v [] b) → AreCounted (replicate m bare) first [] boxes
same_bins m bare first boxes h d e lt =
    let size = length_same m bare in
    let is = get_or-replicate m e bare d (omega arith) in
    subst (λ (s : BinCounts). IsCounted s (first +ℤ pos e) [] boxes) (sym is) (h (first +ℤ pos e) boxes)

pub none_counted : (n m : ℕ) (bare : BinCounts) (old new : List BinCounts) → old ≡ [] → new ≡ take n old ++ replicate m bare → ((v : ℤ) (b : Boxes) → IsCounted bare v [] b) → (first : ℤ) (boxes : Boxes) → AreCounted new first [] boxes
none_counted n m bare old new h k s first boxes =
    subst (λ (z : List BinCounts). AreCounted z first [] boxes) (sym (k ∙ ap (λ (z : List BinCounts). take n z ++ replicate m bare) h ∙ behind_none n m bare)) (same_bins m bare first boxes s)

-- ---- how large the numbers are

low_in : (s : Ranges) → IsValid s → (pos 0 ≤ℤ (low_of s +ℤ pos 9223372036854775808)) × (low_of s ≤ℤ pos 9223372036854775807)
low_in [] v = (omega (arith, ints), omega (arith, ints))
low_in (r ∷ rs) v = let ends = Ascends-ends (r.1 +ℤ pos 2) (pos 9223372036854775807) rs v.2 in (omega (arith, ints), omega (arith, ints))

pub load_low : (v : ℤ) (is : List (ℕ × ℕ × ℕ)) (boxes : Boxes) → AreSets boxes → pos 0 ≤ℤ (fixed_load v is boxes +ℤ pos (length is * 9223372036854775808))
load_low v [] boxes s = omega (arith, ints)
load_low v (i ∷ is) boxes s =
    let more = load_low v is boxes s in let low = low_in (box_of boxes i.1) (s i.1) in
    (elim (fixed_at (box_of boxes i.0) v) as (λ t. pos 0 ≤ℤ (cond t (low_of (box_of boxes i.1) +ℤ fixed_load v is boxes) (fixed_load v is boxes) +ℤ pos (suc (length is) * 9223372036854775808))) [
      | true ↦ omega (arith, ints, low.0, more)
      | false ↦ omega (arith, ints, more)
    ])

pub load_high : (v : ℤ) (is : List (ℕ × ℕ × ℕ)) (boxes : Boxes) → AreSets boxes → fixed_load v is boxes ≤ℤ pos (length is * 9223372036854775807)
load_high v [] boxes s = omega (arith, ints)
load_high v (i ∷ is) boxes s =
    let more = load_high v is boxes s in let low = low_in (box_of boxes i.1) (s i.1) in
    (elim (fixed_at (box_of boxes i.0) v) as (λ t. cond t (low_of (box_of boxes i.1) +ℤ fixed_load v is boxes) (fixed_load v is boxes) ≤ℤ pos (suc (length is) * 9223372036854775807)) [
      | true ↦ omega (arith, ints, low.1, more)
      | false ↦ omega (arith, ints, more)
    ])

pub fixed_few : (v : ℤ) (is : List (ℕ × ℕ × ℕ)) (boxes : Boxes) → fixed_count v is boxes ≤ length is
fixed_few v [] boxes = omega arith
fixed_few v (i ∷ is) boxes = let more = fixed_few v is boxes in grind arith

pub record HasSpace (s : BinCounts) : Type 0 where
  pub low : pos 0 ≤ℤ (s.load.value +ℤ pos 170141183460469231722463931679029329920)
  pub high : s.load.value ≤ℤ pos 170141183460469231722463931679029329920
  pub few : s.count < 18446744073709551615

space_for : (s : BinCounts) (v : ℤ) (is : List (ℕ × ℕ × ℕ)) (boxes : Boxes) → AreSets boxes → length is < 18446744073709551615 → IsCounted s v is boxes → HasSpace s
space_for s v is boxes sets n h =
    let low = load_low v is boxes sets in let high = load_high v is boxes sets in let few = fixed_few v is boxes in
    record { low = omega (arith, ints, h.load, low); high = omega (arith, ints, h.load, high); few = omega (arith, h.count, few) }

-- for each bin behind which all are counted
pub space_at : (bins : List BinCounts) (first : ℤ) (items : List (ℕ × ℕ × ℕ)) (boxes : Boxes) (k d : ℕ) (bare : BinCounts) → All (λ s. IsValid s) boxes → k < length items → length items < 18446744073709551616 →
    AreCounted bins first (drop (suc k) items) boxes → d < length bins → HasSpace (slice_index_or bins d bare)
space_at bins first items boxes k d bare sets n few h lt =
    let size : length (drop (suc k) items) < 18446744073709551615 = omega (arith, length-drop (suc k) items) in
    space_for (slice_index_or bins d bare) (first +ℤ pos d) (drop (suc k) items) boxes (are_sets boxes sets) size (h bare d lt)

-- ---- one item more

pub record IsMore (s t : BinCounts) (i : ℕ × ℕ × ℕ) (boxes : Boxes) : Type 0 where
  pub load : t.load.value ≡ s.load.value +ℤ low_of (box_of boxes i.1)
  pub tight : t.tight.value ≡ int_min s.tight.value (high_of (box_of boxes i.2))
  pub room : t.room.value ≡ int_min s.room.value (low_of (box_of boxes i.2))
  pub growth : t.growth.value ≡ int_max s.growth.value (high_of (box_of boxes i.1) -ℤ low_of (box_of boxes i.1))
  pub count : t.count ≡ suc s.count
  pub frozen : t.frozen ≡ (s.frozen || is_one (box_of boxes i.2))

min_turned : (a b c d : ℤ) → a ≡ int_min b c → b ≡ d → a ≡ int_min c d
min_turned a b c d e f = grind (arith, ints)

max_turned : (a b c d : ℤ) → a ≡ int_max b c → b ≡ d → a ≡ int_max c d
max_turned a b c d e f = grind (arith, ints)

bin_more : (s t : BinCounts) (v : ℤ) (i : ℕ × ℕ × ℕ) (is : List (ℕ × ℕ × ℕ)) (boxes : Boxes) → fixed_at (box_of boxes i.0) v ≡ true → IsMore s t i boxes → IsCounted s v is boxes → IsCounted t v (i ∷ is) boxes
bin_more s t v i is boxes f m h = record {
  load = rw f (omega (arith, ints, m.load, h.load));
  tight = rw f (min_turned _ _ _ _ m.tight h.tight);
  room = rw f (min_turned _ _ _ _ m.room h.room);
  growth = rw f (max_turned _ _ _ _ m.growth h.growth);
  count = rw f (omega (arith, m.count, h.count));
  frozen = rw f (m.frozen ∙ ap (λ (b : Bool). b || is_one (box_of boxes i.2)) h.frozen);
}

bin_same : (s : BinCounts) (v : ℤ) (i : ℕ × ℕ × ℕ) (is : List (ℕ × ℕ × ℕ)) (boxes : Boxes) → fixed_at (box_of boxes i.0) v ≡ false → IsCounted s v is boxes → IsCounted s v (i ∷ is) boxes
bin_same s v i is boxes f h = record {
  load = rw f h.load;
  tight = rw f h.tight;
  room = rw f h.room;
  growth = rw f h.growth;
  count = rw f h.count;
  frozen = rw f h.frozen;
}

-- in the item's slot
pub bins_more : (bins : List BinCounts) (first : ℤ) (items : List (ℕ × ℕ × ℕ)) (boxes : Boxes) (k d : ℕ) (i : ℕ × ℕ × ℕ) (bare t : BinCounts) → k < length items → i ≡ get_or items k (0, 0, 0) → d < length bins →
    ((e : ℕ) → e < length bins → fixed_at (box_of boxes i.0) (first +ℤ pos e) ≡ (d == e)) → IsMore (slice_index_or bins d bare) t i boxes →
    AreCounted bins first (drop (suc k) items) boxes → AreCounted (slice_set bins d t) first (drop k items) boxes
bins_more bins first items boxes k d i bare t n is lt slot more h def e le =
    let size : length (slice_set bins d t) ≡ length bins = length-set bins d t in
    let below : e < length bins = omega arith in
    subst (λ (z : List (ℕ × ℕ × ℕ)). IsCounted (slice_index_or (slice_set bins d t) e def) (first +ℤ pos e) z boxes) (sym (drop-cons items k (0, 0, 0) n ∙ ap (λ (j : ℕ × ℕ × ℕ). j ∷ drop (suc k) items) (sym is)))
    (elim (cases_eq e d) [
      | inl q ↦
          let here : fixed_at (box_of boxes i.0) (first +ℤ pos e) ≡ true = slot e below ∙ eq-eqb d e (sym q) in
          let new : slice_index_or (slice_set bins d t) e def ≡ t = ap (λ (j : ℕ). slice_index_or (slice_set bins d t) j def) q ∙ get_or-set_same bins d t def lt in
          let old = subst (λ (j : ℕ). IsCounted (slice_index_or bins d bare) (first +ℤ pos j) (drop (suc k) items) boxes) (sym q) (h bare d lt) in
          subst (λ (z : BinCounts). IsCounted z (first +ℤ pos e) (i ∷ drop (suc k) items) boxes) (sym new) (bin_more (slice_index_or bins d bare) t (first +ℤ pos e) i (drop (suc k) items) boxes here more old)
      | inr q ↦
          let other : fixed_at (box_of boxes i.0) (first +ℤ pos e) ≡ false = slot e below ∙ ne_eqb d e (λ p. q (sym p)) in
          let new = get_or-set_other bins d e t def q in
          subst (λ (z : BinCounts). IsCounted z (first +ℤ pos e) (i ∷ drop (suc k) items) boxes) (sym new) (bin_same (slice_index_or bins e def) (first +ℤ pos e) i (drop (suc k) items) boxes other (h def e below))
    ])

pub bins_same : (bins : List BinCounts) (first : ℤ) (items : List (ℕ × ℕ × ℕ)) (boxes : Boxes) (k : ℕ) (i : ℕ × ℕ × ℕ) → k < length items → i ≡ get_or items k (0, 0, 0) →
    ((e : ℕ) → e < length bins → fixed_at (box_of boxes i.0) (first +ℤ pos e) ≡ false) → AreCounted bins first (drop (suc k) items) boxes → AreCounted bins first (drop k items) boxes
bins_same bins first items boxes k i n is slot h def e lt =
    subst (λ (z : List (ℕ × ℕ × ℕ)). IsCounted (slice_index_or bins e def) (first +ℤ pos e) z boxes) (sym (drop-cons items k (0, 0, 0) n ∙ ap (λ (j : ℕ × ℕ × ℕ). j ∷ drop (suc k) items) (sym is)))
    (bin_same (slice_index_or bins e def) (first +ℤ pos e) i (drop (suc k) items) boxes (slot e lt) (h def e lt))

pub bins_are : (a b : List BinCounts) (first : ℤ) (items : List (ℕ × ℕ × ℕ)) (boxes : Boxes) → a ≡ b → AreCounted b first items boxes → AreCounted a first items boxes
bins_are a b first items boxes e h = subst (λ (z : List BinCounts). AreCounted z first items boxes) (sym e) h
