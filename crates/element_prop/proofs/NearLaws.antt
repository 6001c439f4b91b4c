-- What is found of the items that the index may pick is found of all items.
use Rattle.std.proofs.Common.{◌≡◌, ℕ, zero, suc, ◌≤◌, ◌+◌, Bool, true, false, not, ◌&&◌, ◌||◌, cond, List, [], ◌∷◌, ℤ, drop, length, ◌==◌, refl, arith, sym, ◌∙◌}
use Rattle.std.proofs.lemmas.Bool.{and_parts}
use Rattle.signed_clause.specs.Ranges.{Ranges, has, count_of, IsValid}
use Rattle.signed_clause.specs.Clauses.{Boxes, box_of}
use Rattle.signed_clause.proofs.RangeSteps.{IsValid-less}
use Rattle.signed_clause.specs.SetAlgebra.{less, is_disjoint}
use Rattle.signed_clause.proofs.CountLaws.{count-part}
use Rattle.ground_form.specs.WellMade.{distinct_values}
use Rattle.box_rules.specs.Refuted.{none_picked}
use Rattle.box_view.proofs.Leaving.{value_valid, one_within}
use Rattle.element_prop.specs.declared.near.Near.{Near}
use Rattle.element_prop.specs.Near.{IsNear}
use Rattle.element_prop.specs.Elements.{count_possible, all_meet, some_covers, some_other, some_offers, lacks_var}
use Rattle.element_prop.proofs.ItemCount.{one_count, same_count}

-- ---- counts

-- items' values are distinct, so no more of them can be picked than the index has values
pub most_values : (items : List (ℤ × ℕ)) (s : Ranges) → IsValid s → distinct_values items ≡ true → count_possible items s ≤ count_of s
most_values [] s f d = omega arith
most_values (t ∷ ts) s f d =
    let parts = and_parts _ _ d in
    let Q : Bool → Type 0 = λ b. has s t.0 ≡ b → cond b (suc (count_possible ts s)) (count_possible ts s) ≤ count_of s in
    (elim (has s t.0) as Q [
      | true ↦ λ k.
          let one = value_valid s t.0 f k in
          let split = count-part ((t.0, t.0) ∷ []) s one f (one_within s t.0 f one k) in
          let single = one_count t.0 in
          let same = same_count t.0 ts s f one parts.0 in
          let more = most_values ts (less s ((t.0, t.0) ∷ [])) (IsValid-less s ((t.0, t.0) ∷ []) f one) parts.1 in
          omega (arith, split, single, same, more)
      | false ↦ λ k. most_values ts s f parts.1
    ]) refl

-- fewer items, and no more of them
pub fewer_dropped : (n : ℕ) (items : List (ℤ × ℕ)) (s : Ranges) → count_possible (drop n items) s ≤ count_possible items s
fewer_dropped zero items s = omega arith
fewer_dropped (suc n) [] s = omega arith
fewer_dropped (suc n) (t ∷ ts) s =
    let more = fewer_dropped n ts s in
    let P : Bool → Type 0 = λ b. count_possible (drop n ts) s ≤ cond b (suc (count_possible ts s)) (count_possible ts s) in
    elim (has s t.0) as P [ true ↦ omega (arith, more) | false ↦ more ]

none_first : (n : ℕ) (t : ℤ × ℕ) (ts : List (ℤ × ℕ)) (s : Ranges) → count_possible (drop n ts) s ≡ count_possible (t ∷ ts) s → (has s t.0 ≡ false) × (count_possible (drop n ts) s ≡ count_possible ts s)
none_first n t ts s h =
    let few = fewer_dropped n ts s in
    let P : Bool → Type 0 = λ b. count_possible (drop n ts) s ≡ cond b (suc (count_possible ts s)) (count_possible ts s) → (b ≡ false) × (count_possible (drop n ts) s ≡ count_possible ts s) in
    (elim (has s t.0) as P [ true ↦ λ k. absurd (omega (arith, few, k)) | false ↦ λ k. (refl, k) ]) h

none_left : (t : ℤ × ℕ) (ts : List (ℤ × ℕ)) (s : Ranges) → count_possible (t ∷ ts) s ≡ 0 → (has s t.0 ≡ false) × (count_possible ts s ≡ 0)
none_left t ts s h =
    let P : Bool → Type 0 = λ b. cond b (suc (count_possible ts s)) (count_possible ts s) ≡ 0 → (b ≡ false) × (count_possible ts s ≡ 0) in
    (elim (has s t.0) as P [ true ↦ λ k. absurd (omega (arith, k)) | false ↦ λ k. (refl, k) ]) h

-- ---- what one more item that can't be picked doesn't change

-- holds of the items behind, so of all
pub from_behind : (P : List (ℤ × ℕ) → Type 0) (s : Ranges) → ((t : ℤ × ℕ) (ts : List (ℤ × ℕ)) → has s t.0 ≡ false → P ts → P (t ∷ ts)) →
    (n : ℕ) (items : List (ℤ × ℕ)) → count_possible (drop n items) s ≡ count_possible items s → P (drop n items) → P items
from_behind P s step zero items e h = h
from_behind P s step (suc n) [] e h = h
from_behind P s step (suc n) (t ∷ ts) e h =
    let first = none_first n t ts s e in step t ts first.0 (from_behind P s step n ts first.1 h)

-- holds of none, so of items that can't be picked
pub from_none : (P : List (ℤ × ℕ) → Type 0) (s : Ranges) → ((t : ℤ × ℕ) (ts : List (ℤ × ℕ)) → has s t.0 ≡ false → P ts → P (t ∷ ts)) → P [] →
    (items : List (ℤ × ℕ)) → count_possible items s ≡ 0 → P items
from_none P s step h [] e = h
from_none P s step h (t ∷ ts) e = let first = none_left t ts s e in step t ts first.0 (from_none P s step h ts first.1)

-- ---- of each question what it says of the items behind the first place, and behind the last

pub meet_from : (items : List (ℤ × ℕ)) (index : Ranges) (near : Near) (out : Ranges) (boxes : Boxes) → IsNear items index near → all_meet (drop near.from items) out index boxes ≡ all_meet items out index boxes
meet_from items index near out boxes h =
    from_behind (λ ts. all_meet (drop near.from items) out index boxes ≡ all_meet ts out index boxes) index (λ t ts no k. rw no k) near.from items h.before refl

pub meet_to : (items : List (ℤ × ℕ)) (index : Ranges) (near : Near) (out : Ranges) (boxes : Boxes) → IsNear items index near → all_meet (drop near.to items) out index boxes ≡ true
meet_to items index near out boxes h =
    from_none (λ ts. all_meet ts out index boxes ≡ true) index (λ t ts no k. rw no k) refl (drop near.to items) h.behind

pub picked_from : (items : List (ℤ × ℕ)) (index : Ranges) (near : Near) (out : Ranges) (boxes : Boxes) → IsNear items index near → none_picked out index (drop near.from items) boxes ≡ none_picked out index items boxes
picked_from items index near out boxes h =
    from_behind (λ ts. none_picked out index (drop near.from items) boxes ≡ none_picked out index ts boxes) index (λ t ts no k. rw no k) near.from items h.before refl

pub picked_to : (items : List (ℤ × ℕ)) (index : Ranges) (near : Near) (out : Ranges) (boxes : Boxes) → IsNear items index near → none_picked out index (drop near.to items) boxes ≡ true
picked_to items index near out boxes h =
    from_none (λ ts. none_picked out index ts boxes ≡ true) index (λ t ts no k. rw no k) refl (drop near.to items) h.behind

skip : (a b c r : Bool) → b ≡ false → ((a && (b && c)) || r) ≡ r
skip a b c r h = grind arith

pub other_from : (items : List (ℤ × ℕ)) (index : Ranges) (near : Near) (x : ℕ) (out : Ranges) (boxes : Boxes) → IsNear items index near → some_other (drop near.from items) x out index boxes ≡ some_other items x out index boxes
other_from items index near x out boxes h =
    from_behind (λ ts. some_other (drop near.from items) x out index boxes ≡ some_other ts x out index boxes) index
    (λ t ts no k. k ∙ sym (skip (not (t.1 == x)) (has index t.0) (not (is_disjoint (box_of boxes t.1) out)) (some_other ts x out index boxes) no)) near.from items h.before refl

pub other_to : (items : List (ℤ × ℕ)) (index : Ranges) (near : Near) (x : ℕ) (out : Ranges) (boxes : Boxes) → IsNear items index near → some_other (drop near.to items) x out index boxes ≡ false
other_to items index near x out boxes h =
    from_none (λ ts. some_other ts x out index boxes ≡ false) index
    (λ t ts no k. skip (not (t.1 == x)) (has index t.0) (not (is_disjoint (box_of boxes t.1) out)) (some_other ts x out index boxes) no ∙ k) refl (drop near.to items) h.behind

pub covers_from : (items : List (ℤ × ℕ)) (index : Ranges) (near : Near) (out : Ranges) (boxes : Boxes) → IsNear items index near → some_covers (drop near.from items) out index boxes ≡ some_covers items out index boxes
covers_from items index near out boxes h =
    from_behind (λ ts. some_covers (drop near.from items) out index boxes ≡ some_covers ts out index boxes) index (λ t ts no k. rw no k) near.from items h.before refl

pub covers_to : (items : List (ℤ × ℕ)) (index : Ranges) (near : Near) (out : Ranges) (boxes : Boxes) → IsNear items index near → some_covers (drop near.to items) out index boxes ≡ false
covers_to items index near out boxes h =
    from_none (λ ts. some_covers ts out index boxes ≡ false) index (λ t ts no k. rw no k) refl (drop near.to items) h.behind

pub offers_from : (items : List (ℤ × ℕ)) (index : Ranges) (near : Near) (v : ℤ) (boxes : Boxes) → IsNear items index near → some_offers (drop near.from items) v index boxes ≡ some_offers items v index boxes
offers_from items index near v boxes h =
    from_behind (λ ts. some_offers (drop near.from items) v index boxes ≡ some_offers ts v index boxes) index (λ t ts no k. rw no k) near.from items h.before refl

pub offers_to : (items : List (ℤ × ℕ)) (index : Ranges) (near : Near) (v : ℤ) (boxes : Boxes) → IsNear items index near → some_offers (drop near.to items) v index boxes ≡ false
offers_to items index near v boxes h =
    from_none (λ ts. some_offers ts v index boxes ≡ false) index (λ t ts no k. rw no k) refl (drop near.to items) h.behind

pub lacks_from : (items : List (ℤ × ℕ)) (index : Ranges) (near : Near) (x : ℕ) → IsNear items index near → lacks_var x (drop near.from items) index ≡ lacks_var x items index
lacks_from items index near x h =
    from_behind (λ ts. lacks_var x (drop near.from items) index ≡ lacks_var x ts index) index (λ t ts no k. rw no k) near.from items h.before refl

pub lacks_to : (items : List (ℤ × ℕ)) (index : Ranges) (near : Near) (x : ℕ) → IsNear items index near → lacks_var x (drop near.to items) index ≡ true
lacks_to items index near x h =
    from_none (λ ts. lacks_var x ts index ≡ true) index (λ t ts no k. rw no k) refl (drop near.to items) h.behind

-- ---- which items are near

pub near_all : (items : List (ℤ × ℕ)) (index : Ranges) (near : Near) → near.from ≡ 0 → near.to ≡ length items → near.full ≡ false → IsNear items index near
near_all items index near a b n = record {
  order = omega (arith, a);
  within = omega (arith, b);
  before = rw a refl;
  behind = rw b (none_behind items);
  full = λ yes. absurd (let bad : true ≡ false = sym yes ∙ n in cc);
}
  where
    none_behind : (ts : List (ℤ × ℕ)) → count_possible (drop (length ts) ts) index ≡ 0
    none_behind [] = refl
    none_behind (t ∷ ts) = none_behind ts

-- a count of as many items as the index has values
pub near_counted : (items : List (ℤ × ℕ)) (index : Ranges) (near : Near) (count : ℕ) → IsValid index → distinct_values items ≡ true → near.from ≤ near.to → near.to ≤ length items →
    count + count_possible (drop near.to items) index ≡ count_possible (drop near.from items) index → count_of index ≤ count → IsNear items index near
near_counted items index near count f d order within e all =
    let most = most_values items index f d in
    let few = fewer_dropped near.from items index in
    record {
      order = order;
      within = within;
      before = omega (arith, most, few, e, all);
      behind = omega (arith, most, few, e, all);
      full = λ yes. omega (arith, most, few, e, all);
    }
