-- Boxes with a part of one in its place, and which bins are overfull.
use Rattle.std.proofs.Common.{◌≡◌, ℕ, zero, suc, ◌<◌, Bool, true, false, not, ◌&&◌, ◌||◌, cond, List, [], ◌∷◌, ℤ, length, refl, arith, inl, inr, subst, sym, ◌∙◌}
use Rattle.std.specs.Prelude.{◌==◌, slice_index_or}
use Rattle.std.specs.Ordering.{int_eq}
use Rattle.std.proofs.lemmas.Bool.{and_parts, cases_eq, false_from_ne_true}
use Rattle.std.proofs.lemmas.Bool.Decides.{nat_tests, Decides-int_eq}
use Rattle.signed_clause.specs.Ranges.{Ranges, has, is_nil, IsValid}
use Rattle.signed_clause.specs.SetAlgebra.{meet, is_within}
use Rattle.signed_clause.specs.Clauses.{Boxes, box_of}
use Rattle.signed_clause.proofs.SetFacts.{within_law}
use Rattle.signed_clause.proofs.RangeSteps.{has-meet_valid, IsValid-meet}
use Rattle.ground_form.specs.Bounds.{low_of, high_of}
use Rattle.box_rules.specs.Refuted.{fixed_at, overfull, some_overfull}
use Rattle.box_view.proofs.EndLaws.{are_sets}
use Rattle.pack_prop.specs.Sources.{with_part, IsPart}

-- ---- the boxes with a part of one

pub part_same : (boxes : Boxes) (x : ℕ) (s : Ranges) → x < length boxes → box_of (with_part boxes x s) x ≡ s
part_same [] x s h = absurd (omega arith)
part_same (b ∷ boxes) zero s h = refl
part_same (b ∷ boxes) (suc x) s h = part_same boxes x s (omega arith)

pub part_other : (boxes : Boxes) (x y : ℕ) (s : Ranges) → (y ≡ x → ⊥) → box_of (with_part boxes x s) y ≡ box_of boxes y
part_other [] x y s n = refl
part_other (b ∷ boxes) zero zero s n = absurd (n refl)
part_other (b ∷ boxes) zero (suc y) s n = refl
part_other (b ∷ boxes) (suc x) zero s n = refl
part_other (b ∷ boxes) (suc x) (suc y) s n = part_other boxes x y s (λ e. n (omega arith))

pub part_box : (boxes : Boxes) (x y : ℕ) (s : Ranges) → x < length boxes → box_of (with_part boxes x s) y ≡ cond (y == x) s (box_of boxes y)
part_box boxes x y s h =
    elim (cases_eq y x) [
      | inl e ↦ let t : (y == x) ≡ true = grind (arith, nat_tests) in rw t (subst (λ (z : ℕ). box_of (with_part boxes x s) z ≡ s) (sym e) (part_same boxes x s h))
      | inr e ↦ let t : (y == x) ≡ false = false_from_ne_true (y == x) (λ q. e (grind (arith, nat_tests))) in rw t (part_other boxes x y s e)
    ]

-- ---- what the explanation stands on

pub part_valid : (domains boxes : Boxes) (items : List (ℕ × ℕ × ℕ)) (x : ℕ) (s : Ranges) → IsPart domains boxes items x s → (y : ℕ) → IsValid (box_of (with_part boxes x s) y)
part_valid domains boxes items x s p y =
    subst (λ (b : Ranges). IsValid b) (sym (part_box boxes x y s p.var))
    (elim (y == x) as (λ t. IsValid (cond t s (box_of boxes y))) [ true ↦ p.valid | false ↦ are_sets boxes p.boxes_within.sets y ])

within_on : (a b c : Ranges) → IsValid a → IsValid b → IsValid c → is_within a b ≡ true → is_within b c ≡ true → is_within a c ≡ true
within_on a b c f g h i j = (within_law a c f h).1 (λ v m. (within_law b c g h).0 j v ((within_law a b f g).0 i v m))

pub part_within : (domains boxes : Boxes) (items : List (ℕ × ℕ × ℕ)) (x : ℕ) (s : Ranges) → IsPart domains boxes items x s → (y : ℕ) → y < length boxes → is_within (box_of (with_part boxes x s) y) (box_of domains y) ≡ true
part_within domains boxes items x s p y n =
    let w = p.boxes_within in
    subst (λ (b : Ranges). is_within b (box_of domains y) ≡ true) (sym (part_box boxes x y s p.var))
    ((elim (y == x) as (λ t. (y == x) ≡ t → is_within (cond t s (box_of boxes y)) (box_of domains y) ≡ true) [
      | true ↦ λ e. let same : x ≡ y = grind (arith, nat_tests) in
          subst (λ (z : ℕ). is_within s (box_of domains z) ≡ true) same
          (within_on s (box_of boxes x) (box_of domains x) p.valid (are_sets boxes w.sets x) (are_sets domains p.domain_sets x) p.within (w.within x p.var))
      | false ↦ λ e. w.within y n
    ]) refl)

-- ---- overfull bins

pub fixed_low : (s : Ranges) (v : ℤ) → fixed_at s v ≡ true → low_of s ≡ v
fixed_low s v h =
    let a = and_parts (not (is_nil s)) (int_eq (low_of s) v && int_eq (high_of s) v) h in
    let b = and_parts (int_eq (low_of s) v) (int_eq (high_of s) v) a.1 in (Decides-int_eq (low_of s) v).0 b.0

pub some_at : (k : ℕ) (is items : List (ℕ × ℕ × ℕ)) (boxes : Boxes) → k < length is → overfull (slice_index_or is k (0, 0, 0)) items boxes ≡ true → some_overfull is items boxes ≡ true
some_at k [] items boxes h o = absurd (omega arith)
some_at zero (i ∷ is) items boxes h o = rw o refl
some_at (suc k) (i ∷ is) items boxes h o = let more = some_at k is items boxes (omega arith) o in grind arith

-- ---- tests and sets

pub or_right : (x y : Bool) → y ≡ true → (x || y) ≡ true
or_right true y h = refl
or_right false y h = h

pub or_left : (x y : Bool) → x ≡ true → (x || y) ≡ true
or_left x y h = rw h refl

pub meet_within : (a b s : Ranges) → IsValid a → IsValid b → s ≡ meet a b → is_within s a ≡ true
meet_within a b s f g e =
    subst (λ (z : Ranges). is_within z a ≡ true) (sym e)
    ((within_law (meet a b) a (IsValid-meet a b f g) f).1 (λ v m. (and_parts (has a v) (has b v) (sym (has-meet_valid a b f g v) ∙ m)).0))
