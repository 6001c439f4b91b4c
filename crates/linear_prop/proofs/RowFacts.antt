-- What holds of a row over domains and boxes, term by term.
use Rattle.std.proofs.Common.{◌*◌, ◌≡◌, ℕ, suc, ◌<◌, ◌≤◌, ◌^◌, max, unsigned_abs, true, false, List, [], ◌∷◌, ℤ, pos, ◌≤ℤ◌, All, length, sym, subst, arith}
use Rattle.std.proofs.lemmas.Int.{ints}
use Rattle.std.proofs.Math.Nat.{mul-le-mul_left}
use Rattle.signed_clause.specs.Ranges.{Ranges, is_nil, IsValid}
use Rattle.signed_clause.specs.SetAlgebra.{is_within}
use Rattle.signed_clause.specs.Clauses.{Boxes, box_of}
use Rattle.ground_form.specs.Bounds.{low_of, high_of, reach_of, term_weight, weight_of}
use Rattle.box_rules.specs.Named.{AreTermsNamed}
use Rattle.rule_law.specs.Answers.{AreBoxesWithin}
use Rattle.box_view.proofs.EndLaws.{are_sets, ends_in_order}
use Rattle.linear_prop.specs.Explaining.{span_of, term_at, IsTurn, IsRowOver}
use Rattle.linear_prop.proofs.Turning.{low_end_within, high_end_within}
use Rattle.linear_prop.proofs.Spreads.{weight_is}

pub term_named : (ts : List (ℤ × ℕ)) (boxes : Boxes) (i : ℕ) (t : ℤ × ℕ) → AreTermsNamed ts boxes → i < length ts → t ≡ term_at ts i → t.1 < length boxes
term_named ts boxes i t n h e = subst (λ (u : ℤ × ℕ). u.1 < length boxes) (sym e) (n i (pos 0, 0) h)

pub term_moves : (ts : List (ℤ × ℕ)) (domains boxes : Boxes) (i : ℕ) (t : ℤ × ℕ) → IsRowOver ts domains boxes → i < length ts → t ≡ term_at ts i → unsigned_abs t.0 * span_of (box_of domains t.1) < 2 ^ 64
term_moves ts domains boxes i t o h e = subst (λ (u : ℤ × ℕ). unsigned_abs u.0 * span_of (box_of domains u.1) < 2 ^ 64) (sym e) (o.spans i (pos 0, 0) h)

pub turn_of : (ts : List (ℤ × ℕ)) (domains boxes : Boxes) (i : ℕ) (t : ℤ × ℕ) → IsRowOver ts domains boxes → i < length ts → t ≡ term_at ts i → IsTurn ts domains boxes i t
turn_of ts domains boxes i t o h e =
    let x = term_named ts boxes i t o.named h e in record {
      here = h;
      term = e;
      differ = o.differ;
      var = x;
      domain = are_sets domains o.domains_valid t.1;
      box = are_sets boxes o.boxes_within.sets t.1;
      some = o.boxes_within.some t.1 x;
      within = o.boxes_within.within t.1 x;
    }

pub domain_named : (ts : List (ℤ × ℕ)) (domains boxes : Boxes) (i : ℕ) (t : ℤ × ℕ) → IsRowOver ts domains boxes → i < length ts → t ≡ term_at ts i → t.1 < length domains
domain_named ts domains boxes i t o h e = let x = term_named ts boxes i t o.named h e in let s = o.boxes_within.size in omega arith

-- ---- boxes reach no further than their domains

reach_between : (low high a b : ℤ) → low ≤ℤ a → a ≤ℤ b → b ≤ℤ high → max (unsigned_abs a) (unsigned_abs b) ≤ max (unsigned_abs low) (unsigned_abs high)
reach_between low high a b h k l = omega (arith, ints)

reach_within : (box d : Ranges) → IsValid box → IsValid d → is_nil box ≡ false → is_within box d ≡ true → reach_of box ≤ reach_of d
reach_within box d f g n h = reach_between (low_of d) (high_of d) (low_of box) (high_of box) (low_end_within box d f g n h) (ends_in_order box f) (high_end_within box d f g n h)

weight_within : (t : ℤ × ℕ) (domains boxes : Boxes) → reach_of (box_of boxes t.1) ≤ reach_of (box_of domains t.1) → term_weight t boxes ≤ term_weight t domains
weight_within t domains boxes h = rw (weight_is t boxes, weight_is t domains) (mul-le-mul_left (unsigned_abs t.0) h)

pub weights_within : (ts : List (ℤ × ℕ)) (domains boxes : Boxes) → AreTermsNamed ts boxes → All (λ d. IsValid d) domains → AreBoxesWithin domains boxes → weight_of ts boxes ≤ weight_of ts domains
weights_within [] domains boxes n d b = omega arith
weights_within (t ∷ ts) domains boxes n d b =
    let x = n 0 (pos 0, 0) (omega arith) in
    let reach = reach_within (box_of boxes t.1) (box_of domains t.1) (are_sets boxes b.sets t.1) (are_sets domains d t.1) (b.some t.1 x) (b.within t.1 x) in
    let one = weight_within t domains boxes reach in
    let more = weights_within ts domains boxes (λ k e lt. n (suc k) e (omega arith)) d b in omega arith
