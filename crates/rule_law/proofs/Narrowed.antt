-- Boxes within domains: their values are values of the domains, and a constraint that is bounded
-- over the domains is bounded over them; and they are sets with one value alone in a box.
use Rattle.std.proofs.Common.{◌≡◌, ℕ, zero, suc, ◌<◌, ◌≤◌, max, true, false, inl, inr, [], ◌∷◌, ℤ}
use Rattle.std.proofs.Common.{◌≤ℤ◌, unsigned_abs, length, refl, sym, subst, arith}
use Rattle.std.proofs.lemmas.Int.{ints}
use Rattle.std.proofs.lemmas.Bool.{cases_eq, cases_lt}
use Rattle.signed_clause.specs.Ranges.{Ranges, has, is_nil, IsValid}
use Rattle.signed_clause.specs.SetAlgebra.{is_within}
use Rattle.signed_clause.specs.Clauses.{Boxes, box_of}
use Rattle.signed_clause.proofs.SetFacts.{within_law}
use Rattle.ground_form.specs.declared.con.Con.{Con}
use Rattle.ground_form.specs.Bounds.{low_of, high_of, reach_of, IsBounded}
use Rattle.box_view.specs.Views.{fixing}
use Rattle.box_view.proofs.EndLaws.{AreSets, above_low, below_high, has_low, has_high}
use Rattle.box_view.proofs.SetLaws.{fixing_same, fixing_other}
use Rattle.box_view.proofs.CutLaws.{low_within, top_within}
use Rattle.box_rules.proofs.QuietLaws.{AreNarrower, bounded_narrower}

-- each variable has a box within its domain, which isn't empty
pub record AreWithin (domains boxes : Boxes) : Type 0 where
  pub size : length boxes ≡ length domains
  pub within : (x : ℕ) → x < length boxes → is_within (box_of boxes x) (box_of domains x) ≡ true
  pub some : (x : ℕ) → x < length boxes → is_nil (box_of boxes x) ≡ false
  pub sets : AreSets boxes
  pub domain_sets : AreSets domains

pub in_domain : (domains boxes : Boxes) (x : ℕ) (v : ℤ) → AreWithin domains boxes →
    x < length boxes → has (box_of boxes x) v ≡ true → has (box_of domains x) v ≡ true
in_domain domains boxes x v w lt h =
    let law = within_law (box_of boxes x) (box_of domains x) (w.sets x) (w.domain_sets x) in
    law.0 (w.within x lt) v h

-- ---- the ends of a box and of its domain

record IsPart (s d : Ranges) : Type 0 where
  low : low_of d ≤ℤ low_of s
  high : high_of s ≤ℤ high_of d
  reach : reach_of s ≤ reach_of d

same_part : (s : Ranges) → IsPart s s
same_part s =
    record { low = omega (arith, ints); high = omega (arith, ints); reach = omega arith }

reach_between : (low high a b : ℤ) → low ≤ℤ a → a ≤ℤ high → low ≤ℤ b → b ≤ℤ high →
    max (unsigned_abs a) (unsigned_abs b) ≤ max (unsigned_abs low) (unsigned_abs high)
reach_between low high a b h k l m = omega (arith, ints)

part_of : (s d : Ranges) → IsValid d → has d (low_of s) ≡ true → has d (high_of s) ≡ true →
    IsPart s d
part_of s d f h k =
    let low = above_low d (low_of s) f h in
    let less = below_high d (low_of s) f h in
    let more = above_low d (high_of s) f k in
    let high = below_high d (high_of s) f k in
    record {
      low = low;
      high = high;
      reach = reach_between (low_of d) (high_of d) (low_of s) (high_of s) low less more high;
    }

beyond : (boxes : Boxes) (x : ℕ) → length boxes ≤ x → [] ≡ box_of boxes x
beyond [] x h = refl
beyond (b ∷ boxes) zero h = absurd (omega arith)
beyond (b ∷ boxes) (suc x) h = beyond boxes x (omega arith)

part_at : (domains boxes : Boxes) → AreWithin domains boxes → (x : ℕ) →
    IsPart (box_of boxes x) (box_of domains x)
part_at domains boxes w x =
    elim (cases_lt x (length boxes)) [
      | inl lt ↦
          let s = box_of boxes x in
          let n = w.some x lt in
          part_of s (box_of domains x) (w.domain_sets x)
          (in_domain domains boxes x (low_of s) w lt (has_low s (w.sets x) n))
          (in_domain domains boxes x (high_of s) w lt (has_high s (w.sets x) n))
      | inr ge ↦
          let size = w.size in
          subst (λ (s : Ranges). IsPart s (box_of domains x)) (beyond boxes x ge)
          (subst (λ (d : Ranges). IsPart [] d) (beyond domains x (omega arith)) (same_part []))
    ]

narrower : (domains boxes : Boxes) → AreWithin domains boxes → AreNarrower boxes domains
narrower domains boxes w = record {
  low = λ x. (part_at domains boxes w x).low;
  high = λ x. (part_at domains boxes w x).high;
  reach = λ x. (part_at domains boxes w x).reach;
}

pub bounded_within : (con : Con) (domains boxes : Boxes) → AreWithin domains boxes →
    IsBounded con domains → IsBounded con boxes
bounded_within con domains boxes w b =
    bounded_narrower con boxes domains (narrower domains boxes w) b

-- ---- one value alone in a box

value_valid : (s : Ranges) (v : ℤ) → IsValid s → has s v ≡ true → IsValid ((v, v) ∷ [])
value_valid s v f h =
    let low = low_within _ _ s v f h in let top = top_within _ _ s v f h in grind (arith, ints)

pub fixing_sets : (boxes : Boxes) (x : ℕ) (v : ℤ) → x < length boxes → AreSets boxes →
    has (box_of boxes x) v ≡ true → AreSets (fixing boxes x v)
fixing_sets boxes x v lt s h y =
    elim (cases_eq y x) [
      | inl e ↦
          let valid = value_valid (box_of boxes x) v (s x) h in
          let here = subst (λ (b : Ranges). IsValid b) (sym (fixing_same boxes x v lt)) valid in
          subst (λ (z : ℕ). IsValid (box_of (fixing boxes x v) z)) (sym e) here
      | inr e ↦ subst (λ (b : Ranges). IsValid b) (sym (fixing_other boxes x y v e)) (s y)
    ]
