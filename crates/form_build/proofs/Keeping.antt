-- Sums over a problem that grows.
use Rattle.std.proofs.Common.{◌≡◌, ℕ, suc, zero, ◌+◌, ◌≤◌, ◌<◌, List, [], ◌∷◌, ◌++◌, ℤ, pos, ◌*◌, ◌^◌, ◌+ℤ◌, ◌*ℤ◌, ◌≤ℤ◌, length, length-append, unsigned_abs, refl, sym, ap, ◌∙◌, subst, arith}
use Rattle.std.proofs.lemmas.Int.{ints}
use Rattle.std.specs.Int.{int_max, int_min}
use Rattle.signed_clause.specs.Ranges.{Ranges}
use Rattle.signed_clause.specs.Clauses.{Boxes, box_of}
use Rattle.ground_form.specs.declared.ground.Ground.{Ground}
use Rattle.ground_form.specs.Bounds.{low_of, high_of, reach_of, term_weight, weight_of, least_term, greatest_term, least_sum, greatest_sum}
use Rattle.form_build.specs.declared.form.Linear.{Linear}
use Rattle.form_build.specs.Worlds.{Grows}
use Rattle.form_build.specs.Sums.{IsOpen, AreTerms, linear_weight, least_linear, greatest_linear, IsLinear, LiesFrom, IsSum}
use Rattle.form_build.proofs.Lists.{box_front}

same_weight : (t : ℤ × ℕ) (ds e : Boxes) → t.1 < length ds → term_weight t (ds ++ e) ≡ term_weight t ds
unfolding term_weight
same_weight t ds e lt = ap (λ (b : Ranges). unsigned_abs t.0 * reach_of b) (box_front ds e t.1 lt)

same_least : (t : ℤ × ℕ) (ds e : Boxes) → t.1 < length ds → least_term t (ds ++ e) ≡ least_term t ds
unfolding least_term
same_least t ds e lt = ap (λ (b : Ranges). int_min (t.0 *ℤ low_of b) (t.0 *ℤ high_of b)) (box_front ds e t.1 lt)

same_greatest : (t : ℤ × ℕ) (ds e : Boxes) → t.1 < length ds → greatest_term t (ds ++ e) ≡ greatest_term t ds
unfolding greatest_term
same_greatest t ds e lt = ap (λ (b : Ranges). int_max (t.0 *ℤ low_of b) (t.0 *ℤ high_of b)) (box_front ds e t.1 lt)

terms_kept : (ds e : Boxes) (n : ℕ) (ts : List (ℤ × ℕ)) → AreTerms ds n ts → AreTerms (ds ++ e) n ts
terms_kept ds e n [] h = tt
terms_kept ds e n (t ∷ ts) h = (h.0, omega (arith, h.1, length-append ds e), h.2, subst IsOpen (sym (box_front ds e t.1 h.1)) h.3, terms_kept ds e (suc t.1) ts h.4)

weight_kept : (ds e : Boxes) (n : ℕ) (ts : List (ℤ × ℕ)) → AreTerms ds n ts → weight_of ts (ds ++ e) ≡ weight_of ts ds
weight_kept ds e n [] h = refl
weight_kept ds e n (t ∷ ts) h = let first = same_weight t ds e h.1 in let rest = weight_kept ds e (suc t.1) ts h.4 in omega (arith, first, rest)

least_kept : (ds e : Boxes) (n : ℕ) (ts : List (ℤ × ℕ)) → AreTerms ds n ts → least_sum ts (ds ++ e) ≡ least_sum ts ds
least_kept ds e n [] h = refl
least_kept ds e n (t ∷ ts) h = let first = same_least t ds e h.1 in let rest = least_kept ds e (suc t.1) ts h.4 in omega (arith, ints, first, rest)

greatest_kept : (ds e : Boxes) (n : ℕ) (ts : List (ℤ × ℕ)) → AreTerms ds n ts → greatest_sum ts (ds ++ e) ≡ greatest_sum ts ds
greatest_kept ds e n [] h = refl
greatest_kept ds e n (t ∷ ts) h = let first = same_greatest t ds e h.1 in let rest = greatest_kept ds e (suc t.1) ts h.4 in omega (arith, ints, first, rest)

-- a sum in good order stays one
pub linear_kept : (n : ℕ) (old new : Ground) (f : Linear) → Grows old new → IsLinear n old.domains f → IsLinear n new.domains f
linear_kept n old new f g h = subst (λ (z : Boxes). IsLinear n z f) (sym g.domains) (record {
  terms = terms_kept old.domains g.more 0 f.terms h.terms;
  bounded = let weight = weight_kept old.domains g.more 0 f.terms h.terms in omega (arith, weight, h.bounded);
})

-- and its values lie where they did
pub lies_kept : (low high : ℤ) (old new : Ground) (f : Linear) → Grows old new → AreTerms old.domains 0 f.terms → LiesFrom low high old.domains f → LiesFrom low high new.domains f
lies_kept low high old new f g terms h = subst (λ (z : Boxes). LiesFrom low high z f) (sym g.domains) (record {
  low_is = let least = least_kept old.domains g.more 0 f.terms terms in omega (arith, ints, least, h.low_is);
  high_is = let greatest = greatest_kept old.domains g.more 0 f.terms terms in omega (arith, ints, greatest, h.high_is);
})

pub sum_kept : (low high : ℤ) (old new : Ground) (f : Linear) → Grows old new → IsSum old.domains low high f → IsSum new.domains low high f
sum_kept low high old new f g h = record {
  linear = linear_kept (2 ^ 58) old new f g h.linear;
  lies = lies_kept low high old new f g h.linear.terms h.lies;
}
