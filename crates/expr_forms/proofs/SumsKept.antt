-- A sum keeps its bounds where its variables keep their boxes.
use Rattle.std.proofs.Common.{◌≡◌, ℕ, suc, ◌+◌, ◌*◌, ◌<◌, ◌≤◌, ◌^◌, List, [], ◌∷◌, ℤ, ◌+ℤ◌, ◌*ℤ◌, ◌≤ℤ◌, length, refl, sym, ap, ◌∙◌, subst, arith}
use Rattle.std.specs.Prelude.{unsigned_abs}
use Rattle.std.specs.Int.{int_max, int_min}
use Rattle.signed_clause.specs.Ranges.{Ranges}
use Rattle.signed_clause.specs.Clauses.{Boxes, box_of}
use Rattle.ground_form.specs.Bounds.{low_of, high_of, reach_of, term_weight, weight_of, least_term, greatest_term, least_sum, greatest_sum}
use Rattle.form_build.specs.declared.form.Linear.{Linear}
use Rattle.form_build.specs.Sums.{IsOpen, AreTerms, IsSum}

-- the boxes of the old variables stand first among the new ones
pub record AreKept (old new : Boxes) : Type 0 where
  pub count : length old ≤ length new
  pub same : (x : ℕ) → x < length old → box_of new x ≡ box_of old x

module _ (old new : Boxes) (k : AreKept old new) where
  terms_kept : (n : ℕ) (ts : List (ℤ × ℕ)) → AreTerms old n ts → AreTerms new n ts
  terms_kept n [] h = tt
  terms_kept n (t ∷ ts) h =
      (h.0, omega (arith, h.1, k.count), h.2, subst IsOpen (sym (k.same t.1 h.1)) h.3, terms_kept (suc t.1) ts h.4)

  term_weight_kept : (t : ℤ × ℕ) → t.1 < length old → term_weight t new ≡ term_weight t old
  unfolding term_weight
  term_weight_kept t lt = ap (λ (z : Ranges). unsigned_abs t.0 * reach_of z) (k.same t.1 lt)

  least_term_kept : (t : ℤ × ℕ) → t.1 < length old → least_term t new ≡ least_term t old
  unfolding least_term
  least_term_kept t lt = ap (λ (z : Ranges). int_min (t.0 *ℤ low_of z) (t.0 *ℤ high_of z)) (k.same t.1 lt)

  greatest_term_kept : (t : ℤ × ℕ) → t.1 < length old → greatest_term t new ≡ greatest_term t old
  unfolding greatest_term
  greatest_term_kept t lt = ap (λ (z : Ranges). int_max (t.0 *ℤ low_of z) (t.0 *ℤ high_of z)) (k.same t.1 lt)

  weight_kept : (n : ℕ) (ts : List (ℤ × ℕ)) → AreTerms old n ts → weight_of ts new ≡ weight_of ts old
  weight_kept n [] h = refl
  weight_kept n (t ∷ ts) h =
      ap (λ (m : ℕ). m + weight_of ts new) (term_weight_kept t h.1) ∙ ap (λ (m : ℕ). term_weight t old + m) (weight_kept (suc t.1) ts h.4)

  least_kept : (n : ℕ) (ts : List (ℤ × ℕ)) → AreTerms old n ts → least_sum ts new ≡ least_sum ts old
  least_kept n [] h = refl
  least_kept n (t ∷ ts) h =
      ap (λ (m : ℤ). m +ℤ least_sum ts new) (least_term_kept t h.1) ∙ ap (λ (m : ℤ). least_term t old +ℤ m) (least_kept (suc t.1) ts h.4)

  greatest_kept : (n : ℕ) (ts : List (ℤ × ℕ)) → AreTerms old n ts → greatest_sum ts new ≡ greatest_sum ts old
  greatest_kept n [] h = refl
  greatest_kept n (t ∷ ts) h =
      ap (λ (m : ℤ). m +ℤ greatest_sum ts new) (greatest_term_kept t h.1) ∙ ap (λ (m : ℤ). greatest_term t old +ℤ m) (greatest_kept (suc t.1) ts h.4)

  pub sum_kept : (low high : ℤ) (f : Linear) → IsSum old low high f → IsSum new low high f
  sum_kept low high f h = record {
    linear = record {
      terms = terms_kept 0 f.terms h.linear.terms;
      bounded = subst (λ (n : ℕ). n + unsigned_abs f.offset ≤ 2 ^ 58) (sym (weight_kept 0 f.terms h.linear.terms)) h.linear.bounded;
    };
    lies = record {
      low_is = subst (λ (m : ℤ). low ≤ℤ (m +ℤ f.offset)) (sym (least_kept 0 f.terms h.linear.terms)) h.lies.low_is;
      high_is = subst (λ (m : ℤ). (m +ℤ f.offset) ≤ℤ high) (sym (greatest_kept 0 f.terms h.linear.terms)) h.lies.high_is;
    };
  }
