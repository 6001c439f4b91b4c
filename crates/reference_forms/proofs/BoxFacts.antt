-- Boxes of cells: their ends, and what they have.
use Rattle.std.proofs.Common.{◌≡◌, ℕ, ◌<◌, ◌≤◌, ◌^◌, Bool, true, false, cond, [], ◌∷◌, ℤ, pos, negsuc, neg_ℤ, ◌≤ℤ◌, int_le, int_lt, length, refl, sym, ap, ◌∙◌, subst, arith}
use Rattle.std.specs.Prelude.{unsigned_abs}
use Rattle.std.specs.List.{All}
use Rattle.std.proofs.lemmas.Bool.{and_parts}
use Rattle.std.proofs.lemmas.Int.{ints}
use Rattle.signed_clause.specs.Ranges.{Ranges, has, is_nil, IsValid}
use Rattle.signed_clause.specs.Clauses.{Boxes, box_of}
use Rattle.signed_clause.specs.SetAlgebra.{piece}
use Rattle.ground_form.specs.Bounds.{low_of, high_of, reach_of}
use Rattle.conf_eval.specs.Meaning.{int_same}
use Rattle.model_limits.specs.Limits.{most_width}
use Rattle.conf_limits.specs.Measures.{is_narrow, is_near, between}
use Rattle.form_build.specs.Worlds.{AreSome}
use Rattle.reference_forms.specs.Attributes.{IsOnly}
use Rattle.form_build.proofs.Singles.{fixed_value}

-- the set of 1 has a value where that is 1
pub one_is : (v : ℤ) → has ((pos 1, pos 1) ∷ []) v ≡ int_same v (pos 1)
one_is v = grind arith

-- the least value of a box that isn't empty is one of its values
pub low_there : (rs : Ranges) → IsValid rs → is_nil rs ≡ false → has rs (low_of rs) ≡ true
low_there [] s e = cc
low_there (r ∷ rs) s e = let ordered = s.1 in grind (arith, ints)

pub only_value : (boxes ds : Boxes) (x : ℕ) (e : ℤ × ℤ) → boxes ≡ ds → e ≡ (low_of (box_of boxes x), high_of (box_of boxes x)) → int_lt e.0 e.1 ≡ false → All (λ d. IsValid d) ds → AreSome ds → x < length ds → IsOnly ds x e.0
only_value boxes ds x e same is h valid some lt =
    let ends = subst (λ (z : Boxes). e ≡ (low_of (box_of z x), high_of (box_of z x))) same is in
    let low = ap (λ (p : ℤ × ℤ). p.0) ends in
    let high = ap (λ (p : ℤ × ℤ). p.1) ends in
    let close : e.1 ≤ℤ e.0 = grind (arith, ints) in
    record {
      value = λ a w. low ∙ fixed_value ds x a valid lt (omega (arith, ints, close, low, high)) (w x lt);
      has_it = subst (λ (v : ℤ). has (box_of ds x) v ≡ true) (sym low) (low_there (box_of ds x) (valid x [] lt) (some x [] lt));
    }

abs_within : (v : ℤ) (n : ℕ) → neg_ℤ (pos n) ≤ℤ v → v ≤ℤ pos n → unsigned_abs v ≤ n
abs_within (pos m) n l h = omega (arith, ints, h)
abs_within (negsuc m) n l h = omega (arith, ints, l)

-- the ends of a span that has a value
pub record AreEnds (low high : ℤ) (box : Ranges) : Type 0 where
  pub ordered : low ≤ℤ high
  pub low_is : low_of box ≡ low
  pub high_is : high_of box ≡ high

pub span_ends : (low high : ℤ) (box : Ranges) → box ≡ piece low high [] → is_nil box ≡ false → AreEnds low high box
span_ends low high box e some = subst (λ (z : Ranges). AreEnds low high z) (sym e) (by (int_le low high) refl (sym (ap (λ (z : Ranges). is_nil z) e) ∙ some))
  where
    by : (b : Bool) → int_le low high ≡ b → is_nil {X = ℤ × ℤ} (cond b ((low, high) ∷ []) []) ≡ false → AreEnds low high (cond b ((low, high) ∷ []) [])
    by true h s = record { ordered = grind (arith, ints); low_is = refl; high_is = refl }
    by false h s = cc

at_most : (a b : ℤ) → int_le a b ≡ true → a ≤ℤ b
at_most a b h = grind (arith, ints)

-- the greatest absolute value of a narrow span
pub narrow_reach : (low high : ℤ) (box : Ranges) → is_narrow (between low high) ≡ true → AreEnds low high box → reach_of box ≤ 2 ^ 58
narrow_reach low high box n e =
    let p = and_parts (is_near low) (is_near high) n in
    let l = at_most (neg_ℤ (pos most_width)) low (and_parts (int_le (neg_ℤ (pos most_width)) low) (int_le low (pos most_width)) p.0).0 in
    let g = at_most high (pos most_width) (and_parts (int_le (neg_ℤ (pos most_width)) high) (int_le high (pos most_width)) p.1).1 in
    let first = abs_within low 1125899906842624 l (omega (arith, ints, g, e.ordered)) in
    let last = abs_within high 1125899906842624 (omega (arith, ints, l, e.ordered)) g in
    let one = ap unsigned_abs e.low_is in
    let two = ap unsigned_abs e.high_is in
    omega (arith, first, last, one, two)
