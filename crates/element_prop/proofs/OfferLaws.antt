-- Which values of out are offered, range by range and item by item; and then all that are probed
-- are.
use Rattle.std.proofs.Common.{◌≡◌, ℕ, zero, suc, ◌<◌, ◌≤◌, ◌+◌, Bool, true, false, ◌&&◌, ◌||◌, List, [], ◌∷◌, ℤ, pos, ◌≤ℤ◌, drop, length, get_or, refl, arith, subst, sym, ap, ◌∙◌, inl, inr}
use Rattle.std.specs.Prelude.{Option, Some, None, IfNone}
use Rattle.std.proofs.lemmas.Int.{ints}
use Rattle.std.proofs.lemmas.Bool.{and_parts, or_cases}
use Rattle.signed_clause.specs.Ranges.{Ranges, has, in_range, is_nil, count_of, IsValid}
use Rattle.signed_clause.specs.SetAlgebra.{is_within}
use Rattle.signed_clause.specs.Clauses.{Boxes, box_of}
use Rattle.signed_clause.proofs.RangeSteps.{left_at}
use Rattle.signed_clause.proofs.SetFacts.{within_law}
use Rattle.ground_form.specs.Bounds.{low_of, high_of}
use Rattle.box_rules.specs.Quiet.{probed}
use Rattle.box_view.proofs.EndLaws.{AreSets}
use Rattle.box_rules.proofs.QuietLaws.{range_values, many_probed}
use Rattle.box_rules.proofs.QuietFrom.{Each, each_probed}
use Rattle.element_prop.specs.Elements.{some_covers, some_offers, all_offered}

-- ---- ranges

-- up to the end of the range that has a number, the set has each
pub reaches : (set : Ranges) (i : ℕ) (r : ℤ × ℤ) (at end v : ℤ) → i < length set → r ≡ get_or set i (pos 0, pos 0) → in_range r at ≡ true → end ≡ r.1 → at ≤ℤ v → v ≤ℤ end → has set v ≡ true
reaches set i r at end v lt e h f low high =
    let within : in_range r v ≡ true = between r.0 r.1 at v h low (subst (λ (z : ℤ). v ≤ℤ z) f high) in range_values set i r v lt e within
  where
    between : (a b at v : ℤ) → in_range (a, b) at ≡ true → at ≤ℤ v → v ≤ℤ b → in_range (a, b) v ≡ true
    between a b at v h low high = grind (arith, ints)

-- the numbers of the range at the index are told of
pub range_told : (set : Ranges) (i : ℕ) (r : ℤ × ℤ) (v : ℤ) (told : Bool) → i < length set → r ≡ get_or set i (pos 0, pos 0) → (has (drop i set) v || told) ≡ true → (in_range r v ≡ true → told ≡ true) →
    (has (drop (i + 1) set) v || told) ≡ true
range_told set i r v told lt e h k =
    let split : has (drop i set) v ≡ (in_range r v || has (drop (i + 1) set) v) = ap (λ (z : Ranges). has z v) (left_at set i r (pos 0, pos 0) lt e) in
    either (in_range r v) (has (drop (i + 1) set) v) told (sym (ap (λ (b : Bool). b || told) split) ∙ h) k
  where
    either : (a b c : Bool) → ((a || b) || c) ≡ true → (a ≡ true → c ≡ true) → (b || c) ≡ true
    either true b c h k = let y = k refl in grind arith
    either false b c h k = h

-- ---- items

pub offered_at : (items : List (ℤ × ℕ)) (k : ℕ) (d : ℤ × ℕ) (v : ℤ) (index : Ranges) (boxes : Boxes) → k < length items →
    (has index (get_or items k d).0 && has (box_of boxes (get_or items k d).1) v) ≡ true → some_offers items v index boxes ≡ true
offered_at [] k d v index boxes lt h = absurd (omega arith)
offered_at (t ∷ ts) zero d v index boxes lt h = rw h refl
offered_at (t ∷ ts) (suc k) d v index boxes lt h = let more = offered_at ts k d v index boxes (omega arith) h in grind arith

covers : (out index : Ranges) (v : ℤ) (items : List (ℤ × ℕ)) (boxes : Boxes) → AreSets boxes → IsValid out → has out v ≡ true → some_covers items out index boxes ≡ true → some_offers items v index boxes ≡ true
covers out index v [] boxes s f h c = absurd cc
covers out index v (t ∷ ts) boxes s f h c =
    elim (or_cases (has index t.0 && is_within out (box_of boxes t.1)) (some_covers ts out index boxes) c) [
      | inl e ↦
          let parts = and_parts (has index t.0) (is_within out (box_of boxes t.1)) e in
          let there = (within_law out (box_of boxes t.1) f (s t.1)).0 parts.1 v h in
          let can = parts.0 in rw (can, there) refl
      | inr e ↦ let more = covers out index v ts boxes s f h e in grind arith
    ]

-- ---- all that are probed

pub each_offered : (vs : List ℤ) (items : List (ℤ × ℕ)) (index : Ranges) (boxes : Boxes) → all_offered vs items index boxes ≡ true → Each (λ v. some_offers items v index boxes ≡ true) vs
each_offered [] items index boxes h = tt
each_offered (v ∷ vs) items index boxes h =
    let parts = and_parts (some_offers items v index boxes) (all_offered vs items index boxes) h in (parts.0, each_offered vs items index boxes parts.1)

offered_each : (vs : List ℤ) (items : List (ℤ × ℕ)) (index : Ranges) (boxes : Boxes) → Each (λ v. some_offers items v index boxes ≡ true) vs → all_offered vs items index boxes ≡ true
offered_each [] items index boxes h = refl
offered_each (v ∷ vs) items index boxes h = let here = h.0 in let more = offered_each vs items index boxes h.1 in rw (here, more) refl

pub all_values_offered : (out : Ranges) (items : List (ℤ × ℕ)) (index : Ranges) (boxes : Boxes) → IsValid out → is_nil out ≡ false → ((v : ℤ) → has out v ≡ true → some_offers items v index boxes ≡ true) →
    all_offered (probed out) items index boxes ≡ true
all_values_offered out items index boxes f n h =
    offered_each (probed out) items index boxes (each_probed (λ v. some_offers items v index boxes ≡ true) out f n h)

pub covered_offered : (out : Ranges) (items : List (ℤ × ℕ)) (index : Ranges) (boxes : Boxes) → IsValid out → is_nil out ≡ false → AreSets boxes → some_covers items out index boxes ≡ true →
    all_offered (probed out) items index boxes ≡ true
covered_offered out items index boxes f n s c = all_values_offered out items index boxes f n (λ v h. covers out index v items boxes s f h c)

pub ends_offered : (out : Ranges) (items : List (ℤ × ℕ)) (index : Ranges) (boxes : Boxes) → (count_of out ≤ 64 → ⊥) → some_offers items (low_of out) index boxes ≡ true → some_offers items (high_of out) index boxes ≡ true →
    all_offered (probed out) items index boxes ≡ true
ends_offered out items index boxes m low high = subst (λ (vs : List ℤ). all_offered vs items index boxes ≡ true) (many_probed out m) (rw (low, high) refl)

-- ---- what is looked for and isn't there

pub none_then : {X P Q : Type 0} (o : Option X) → IfNone o P → (P → Q) → IfNone o Q
none_then None h f = f h
none_then (Some x) h f = tt
