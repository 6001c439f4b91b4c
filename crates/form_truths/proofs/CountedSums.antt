-- Sums that count where a flag is 1.
use Rattle.std.proofs.Common.{◌≡◌, ℕ, ◌^◌, ◌≤◌, ◌<◌, max, Bool, true, false, ◌||◌, cond, List, [], ◌∷◌, ℤ, pos, neg_ℤ, ◌≤ℤ◌, unsigned_abs, length, All, refl, sym, ap, ◌∙◌, subst, arith}
use Rattle.std.specs.Int.{int_max, int_min}
use Rattle.std.proofs.lemmas.Int.{ints, clamps}
use Rattle.signed_clause.specs.Ranges.{Ranges, has, in_range, is_nil, high_from, IsValid}
use Rattle.signed_clause.specs.SetAlgebra.{join}
use Rattle.signed_clause.specs.Clauses.{Boxes, box_of}
use Rattle.signed_clause.proofs.SetFacts.{greatest_in}
use Rattle.signed_clause.proofs.RangeLaws.{has-join}
use Rattle.ground_form.specs.declared.ground.Ground.{Ground}
use Rattle.ground_form.specs.Meaning.{value_of, bit}
use Rattle.ground_form.specs.Bounds.{low_of, high_of, reach_of, LiesWithin}
use Rattle.ground_form.proofs.Ends.{low_le, le_high}
use Rattle.ground_build.specs.NewDomains.{when_domain}
use Rattle.form_build.specs.declared.form.Linear.{Linear}
use Rattle.form_build.specs.Forms.{linear_at}
use Rattle.form_build.specs.Worlds.{IsWorld, IsItemWhere}
use Rattle.form_build.specs.Sums.{IsLinear, LiesFrom, IsSum}
use Rattle.form_build.proofs.Joins.{low_there, when_some}

-- ---- the ends of a box and 0

nought : Ranges
nought = (pos 0, pos 0) ∷ []

high_there : (s : Ranges) → IsValid s → is_nil s ≡ false → has s (high_of s) ≡ true
high_there [] v h = absurd cc
high_there (r ∷ rs) v h = (greatest_in _ _ r rs v).member

one_of : (low high v : ℤ) (p : Bool) → (p ≡ true → (low ≤ℤ v) × (v ≤ℤ high)) → (p || in_range (pos 0, pos 0) v) ≡ true → (int_min (pos 0) low ≤ℤ v) × (v ≤ℤ int_max (pos 0) high)
one_of low high v true h e = let two = h refl in (omega (arith, ints, clamps, two.0), omega (arith, ints, clamps, two.1))
one_of low high v false h e = let is : v ≡ pos 0 = grind (arith, ints) in (omega (arith, ints, clamps, is), omega (arith, ints, clamps, is))

nought_valid : IsValid ((pos 0, pos 0) ∷ [])
nought_valid = (omega (arith, ints), omega (arith, ints), omega (arith, ints))

in_either : (p q : Bool) → (p || (q || false)) ≡ (p || q)
in_either true q = refl
in_either false true = refl
in_either false false = refl

value_spans : (b : Ranges) (low high v : ℤ) → IsValid b → LiesWithin low high b → has (join b ((pos 0, pos 0) ∷ [])) v ≡ true → (int_min (pos 0) low ≤ℤ v) × (v ≤ℤ int_max (pos 0) high)
value_spans b low high v valid h e =
    one_of low high v (has b v) (λ m. let least = low_le b v valid m in let greatest = le_high b v valid m in (omega (arith, ints, h.0, least), omega (arith, ints, h.1, greatest)))
    (sym (in_either (has b v) (in_range (pos 0, pos 0) v)) ∙ sym (has-join b ((pos 0, pos 0) ∷ []) _ _ v valid nought_valid) ∙ e)

pub when_spans : (boxes : Boxes) (item : ℕ) (values : Ranges) (low high : ℤ) → IsValid (box_of boxes item) → IsValid values → values ≡ when_domain item boxes → LiesWithin low high (box_of boxes item) → (int_min (pos 0) low ≤ℤ low_of values) × (high_of values ≤ℤ int_max (pos 0) high)
when_spans boxes item values low high valid valid' e h =
    let some : is_nil values ≡ false = ap (λ (z : Ranges). is_nil z) e ∙ when_some item boxes in
    let first = subst (λ (z : Ranges). has z (low_of values) ≡ true) e (low_there values valid' some) in
    let last = subst (λ (z : Ranges). has z (high_of values) ≡ true) e (high_there values valid' some) in
    ((value_spans (box_of boxes item) low high (low_of values) valid h first).0, (value_spans (box_of boxes item) low high (high_of values) valid h last).1)

-- ---- the sum

small_reach : (low high least greatest : ℤ) → int_min (pos 0) least ≤ℤ low → high ≤ℤ int_max (pos 0) greatest → low ≤ℤ high → neg_ℤ (pos (2 ^ 50)) ≤ℤ least → greatest ≤ℤ pos (2 ^ 50) → max (unsigned_abs low) (unsigned_abs high) ≤ 2 ^ 58
small_reach low high least greatest h k o e f = omega (arith, ints, clamps, h, k, o, e, f)

pub counted_sum : (boxes : Boxes) (values : Ranges) (least greatest : ℤ) (r : Linear) → (int_min (pos 0) least ≤ℤ low_of values) × (high_of values ≤ℤ int_max (pos 0) greatest) → low_of values ≤ℤ high_of values → neg_ℤ (pos (2 ^ 50)) ≤ℤ least → greatest ≤ℤ pos (2 ^ 50) → IsLinear (reach_of values) boxes r → LiesFrom (low_of values) (high_of values) boxes r → IsSum boxes (int_min (pos 0) least) (int_max (pos 0) greatest) r
counted_sum boxes values least greatest r spans order low high linear lies = record {
  linear = record {
    terms = linear.terms;
    bounded = let small = small_reach (low_of values) (high_of values) least greatest spans.0 spans.1 order low high in omega (arith, small, linear.bounded);
  };
  lies = record {
    low_is = omega (arith, ints, spans.0, lies.low_is);
    high_is = omega (arith, ints, spans.1, lies.high_is);
  };
}

-- ---- its value

pub counted_value : (g : Ground) (x flag item : ℕ) (values : Ranges) (a : List ℤ) (b : Bool) (v : ℤ) → IsItemWhere g x values flag item → IsWorld g a → value_of a flag ≡ bit b → value_of a item ≡ v → value_of a x ≡ cond b v (pos 0)
counted_value g x flag item values a true v h w e is = h.one a w e ∙ is
counted_value g x flag item values a false v h w e is = h.nought a w e
