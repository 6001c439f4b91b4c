-- Boxes of which one is changed.
use Rattle.std.proofs.Common.{◌≡◌, ℕ, zero, suc, ◌<◌, true, false, [], ◌∷◌, All, length, arith, refl, sym, ap, ◌∙◌, inl, inr, subst, slice_set, rules}
use Rattle.std.proofs.lemmas.Bool.{cases_eq}
use Rattle.std.proofs.lemmas.List.{get_or-set_other}
use Rattle.std.proofs.lemmas.List.Elements.{All-get_or}
use Rattle.signed_clause.specs.Ranges.{Ranges, is_nil, IsValid}
use Rattle.signed_clause.specs.SetAlgebra.{is_within}
use Rattle.signed_clause.specs.Clauses.{Boxes, box_of}
use Rattle.signed_clause.proofs.SetFacts.{within_law}
use Rattle.rule_law.specs.Answers.{AreBoxesWithin}

length_set : (boxes : Boxes) (x : ℕ) (s : Ranges) → length (slice_set boxes x s) ≡ length boxes
length_set boxes x s = search rules

box_same : (boxes : Boxes) (x : ℕ) (s : Ranges) → x < length boxes →
    box_of (slice_set boxes x s) x ≡ s
box_same [] x s h = absurd (omega arith)
box_same (b ∷ boxes) zero s h = refl
box_same (b ∷ boxes) (suc x) s h = box_same boxes x s (omega arith)

box_other : (boxes : Boxes) (x y : ℕ) (s : Ranges) → (y ≡ x → ⊥) →
    box_of (slice_set boxes x s) y ≡ box_of boxes y
box_other boxes x y s h = get_or-set_other boxes x y s [] h

all_set : (boxes : Boxes) (x : ℕ) (s : Ranges) → All (λ s. IsValid s) boxes → IsValid s →
    All (λ s. IsValid s) (slice_set boxes x s)
all_set [] x s h v k d lt = absurd (omega arith)
all_set (b ∷ boxes) zero s h v zero d lt = v
all_set (b ∷ boxes) zero s h v (suc k) d lt = h (suc k) d (omega arith)
all_set (b ∷ boxes) (suc x) s h v zero d lt = h 0 d (omega arith)
all_set (b ∷ boxes) (suc x) s h v (suc k) d lt =
    all_set boxes x s (λ j e l. h (suc j) e (omega arith)) v k d (omega arith)

-- the new box lies within its domain, and has values
pub within_set : (domains boxes news : Boxes) (x : ℕ) (s : Ranges) → news ≡ slice_set boxes x s →
    x < length boxes → IsValid s → is_within s (box_of domains x) ≡ true → is_nil s ≡ false →
    AreBoxesWithin domains boxes → AreBoxesWithin domains news
within_set domains boxes news x s e lt valid within some h =
    subst (λ (n : Boxes). AreBoxesWithin domains n) (sym e) (record {
      size = length_set boxes x s ∙ h.size;
      within = λ y l.
          elim (cases_eq y x) [
            | inl same ↦
                let here : box_of (slice_set boxes x s) y ≡ s =
                subst (λ (z : ℕ). box_of (slice_set boxes x s) z ≡ s) (sym same)
                (box_same boxes x s lt) in
                let is : is_within s (box_of domains y) ≡ true =
                subst (λ (z : ℕ). is_within s (box_of domains z) ≡ true) (sym same) within in
                rw here is
            | inr other ↦
                rw (box_other boxes x y s other) (h.within y (omega (arith, length_set boxes x s)))
          ];
      some = λ y l.
          elim (cases_eq y x) [
            | inl same ↦
                let here : box_of (slice_set boxes x s) y ≡ s =
                subst (λ (z : ℕ). box_of (slice_set boxes x s) z ≡ s) (sym same)
                (box_same boxes x s lt) in
                rw here some
            | inr other ↦
                rw (box_other boxes x y s other) (h.some y (omega (arith, length_set boxes x s)))
          ];
      sets = all_set boxes x s h.sets valid;
    })

pub same_size : (boxes news : Boxes) (x : ℕ) (s : Ranges) → news ≡ slice_set boxes x s →
    length boxes ≡ length news
same_size boxes news x s e = sym (length_set boxes x s) ∙ ap (λ (b : Boxes). length b) (sym e)

-- a part of a box lies within its domain, too
pub part_within : (domains boxes : Boxes) (x : ℕ) (s : Ranges) → All (λ d. IsValid d) domains →
    IsValid s → IsValid (box_of boxes x) → x < length boxes →
    is_within s (box_of boxes x) ≡ true → AreBoxesWithin domains boxes →
    is_within s (box_of domains x) ≡ true
part_within domains boxes x s sets f g lt part h =
    let size = h.size in
    let domain : IsValid (box_of domains x) =
    All-get_or (λ d. IsValid d) domains x [] (omega (arith, lt, size)) sets in
    (within_law s (box_of domains x) f domain).1 (λ v p.
    (within_law (box_of boxes x) (box_of domains x) g domain).0 (h.within x lt) v
    ((within_law s (box_of boxes x) f g).0 part v p))
