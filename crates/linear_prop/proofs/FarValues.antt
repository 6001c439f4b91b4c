-- Values of a variable that a sum defines which no sum is.
use Rattle.std.proofs.Common.{◌≡◌, ℕ, suc, ◌<◌, ◌≤◌, ◌^◌, true, false, cond, List, [], ◌∷◌, ℤ, pos, negsuc, ◌-ℤ◌, ◌*ℤ◌, ◌≤ℤ◌, ◌<ℤ◌, All, length, unsigned_abs, refl, sym, subst, ap, ◌∙◌, arith}
use Rattle.std.specs.Prelude.{◌==◌, nat_le}
use Rattle.std.proofs.lemmas.Bool.Decides.{nat_tests}
use Rattle.std.proofs.lemmas.Int.{ints, clamps}
use Rattle.signed_clause.specs.Ranges.{Ranges, IsValid}
use Rattle.signed_clause.specs.Clauses.{Boxes, Literals, box_of}
use Rattle.ground_form.specs.declared.con.Con.{Con}
use Rattle.ground_form.specs.declared.con.Con.TheVariants.{LinDef}
use Rattle.ground_form.specs.Bounds.{low_of, high_of, reach_of, least_term, greatest_term, weight_of, least_sum}
use Rattle.ground_form.specs.WellMade.{IsWellMadeCon}
use Rattle.ground_form.proofs.Weights.{least_term_fits}
use Rattle.ground_form.proofs.SingleValues.{abs_plus}
use Rattle.box_rules.proofs.SumSteps.{weight_narrower}
use Rattle.box_rules.specs.Justified.{justified}
use Rattle.box_view.specs.Views.{cut}
use Rattle.signed_clause.specs.Clauses.{set_of}
use Rattle.box_view.proofs.CutLaws.{cut_box, rest_reach}
use Rattle.box_view.proofs.EndLaws.{are_sets}
use Rattle.rule_law.specs.Answers.{AreBoxesWithin}
use Rattle.rule_law.proofs.ProbeLaws.{boxes_named}
use Rattle.linear_prop.specs.Rows.{negated}
use Rattle.linear_prop.specs.Explaining.{IsCause, IsRowOver}
use Rattle.linear_prop.proofs.Spreads.{greatest_is}
use Rattle.linear_prop.proofs.Products.{greatest_end, greatest_end_negative}
use Rattle.linear_prop.proofs.KindLaws.{plus_one, minus_one, least_one, least_turned_one, follows_up, follows_down, turned_weight, more_spans, more_named}

-- why the row of one term says something: all its values are above the bound, or some
all_far : (c : ℤ) (x : ℕ) (boxes : Boxes) (to : ℤ) → pos (2 ^ 60) <ℤ least_term (c, x) boxes → IsCause ((c, x) ∷ []) boxes (pos (2 ^ 60)) 1 to 0
all_far c x boxes to h = record {
  owed = omega (arith, ints);
  above = λ k. absurd (omega arith);
  below = λ k. absurd (omega arith);
  low = λ k. absurd (omega arith);
  high = λ k. absurd (omega arith);
}

some_far : (c : ℤ) (x : ℕ) (boxes : Boxes) (to : ℤ) → c *ℤ to ≡ pos 1152921504606846977 → least_term (c, x) boxes <ℤ pos 1152921504606846977 → pos 1152921504606846977 ≤ℤ greatest_term (c, x) boxes →
    low_of (box_of boxes x) ≤ℤ to → to ≤ℤ high_of (box_of boxes x) → IsCause ((c, x) ∷ []) boxes (pos (2 ^ 60)) 0 to 0
some_far c x boxes to e l g a b = record {
  owed = omega (arith, ints);
  above = λ k. omega (arith, ints);
  below = λ k. omega (arith, ints);
  low = λ k. a;
  high = λ k. b;
}

greatest_one : (x : ℕ) (boxes : Boxes) → low_of (box_of boxes x) ≤ℤ high_of (box_of boxes x) → pos 1 *ℤ high_of (box_of boxes x) ≡ greatest_term (pos 1, x) boxes
greatest_one x boxes o = greatest_end (pos 1) (low_of (box_of boxes x)) (high_of (box_of boxes x)) o (omega (arith, ints)) ∙ greatest_is (pos 1, x) boxes

greatest_turned_one : (x : ℕ) (boxes : Boxes) → low_of (box_of boxes x) ≤ℤ high_of (box_of boxes x) → negsuc 0 *ℤ low_of (box_of boxes x) ≡ greatest_term (negsuc 0, x) boxes
greatest_turned_one x boxes o = greatest_end_negative (negsuc 0) (low_of (box_of boxes x)) (high_of (box_of boxes x)) o (omega (arith, ints)) ∙ greatest_is (negsuc 0, x) boxes

pub high_all : (x : ℕ) (boxes : Boxes) (low to : ℤ) (b : Ranges) → low ≡ low_of b → b ≡ box_of boxes x → low_of (box_of boxes x) ≤ℤ high_of (box_of boxes x) → pos (2 ^ 60) <ℤ low →
    IsCause ((pos 1, x) ∷ []) boxes (pos (2 ^ 60)) 1 to 0
high_all x boxes low to b e f o h =
    let is = e ∙ ap (λ (s : Ranges). low_of s) f in let l = least_one x boxes in all_far (pos 1) x boxes to (omega (arith, ints, clamps))

pub high_some : (x : ℕ) (boxes : Boxes) (low to : ℤ) (b : Ranges) → low ≡ low_of b → b ≡ box_of boxes x → low_of (box_of boxes x) ≤ℤ high_of (box_of boxes x) → low ≤ℤ pos (2 ^ 60) →
    pos (2 ^ 60) <ℤ high_of (box_of boxes x) → to ≡ pos 1152921504606846977 → IsCause ((pos 1, x) ∷ []) boxes (pos (2 ^ 60)) 0 to 0
high_some x boxes low to b e f o h k t =
    let is = e ∙ ap (λ (s : Ranges). low_of s) f in let l = least_one x boxes in
    let g = greatest_one x boxes o in let one = plus_one (high_of (box_of boxes x)) in
    some_far (pos 1) x boxes to (plus_one to ∙ t) (omega (arith, ints, clamps)) (omega (arith, ints)) (omega (arith, ints)) (omega (arith, ints))

pub low_all : (x : ℕ) (boxes : Boxes) (high to : ℤ) (b : Ranges) → high ≡ high_of b → b ≡ box_of boxes x → low_of (box_of boxes x) ≤ℤ high_of (box_of boxes x) → high <ℤ negsuc 1152921504606846975 →
    IsCause ((negsuc 0, x) ∷ []) boxes (pos (2 ^ 60)) 1 to 0
low_all x boxes high to b e f o h =
    let is = e ∙ ap (λ (s : Ranges). high_of s) f in let l = least_turned_one x boxes in all_far (negsuc 0) x boxes to (omega (arith, ints, clamps))

pub low_some : (x : ℕ) (boxes : Boxes) (high to : ℤ) (b : Ranges) → high ≡ high_of b → b ≡ box_of boxes x → low_of (box_of boxes x) ≤ℤ high_of (box_of boxes x) → negsuc 1152921504606846975 ≤ℤ high →
    low_of (box_of boxes x) <ℤ negsuc 1152921504606846975 → to ≡ negsuc 1152921504606846976 → IsCause ((negsuc 0, x) ∷ []) boxes (pos (2 ^ 60)) 0 to 0
low_some x boxes high to b e f o h k t =
    let is = e ∙ ap (λ (s : Ranges). high_of s) f in let l = least_turned_one x boxes in
    let g = greatest_turned_one x boxes o in let one = minus_one (low_of (box_of boxes x)) in
    some_far (negsuc 0) x boxes to (minus_one to ∙ omega (arith, ints)) (omega (arith, ints, clamps)) (omega (arith, ints)) (omega (arith, ints)) (omega (arith, ints))

-- a set that reaches too far, and not upwards
pub low_far : (high : ℤ) (b s : Ranges) → nat_le (reach_of s) (2 ^ 60) ≡ false → high ≡ high_of b → b ≡ s → low_of s ≤ℤ high_of s → high ≤ℤ pos (2 ^ 60) → low_of s <ℤ negsuc 1152921504606846975
low_far high b s n e f o h =
    let is = e ∙ ap (λ (r : Ranges). high_of r) f in
    let far : 2 ^ 60 < reach_of s = grind (arith, nat_tests) in omega (arith, ints)

-- ---- sums over what literals leave

set_valid : (c : Literals) (x : ℕ) → All (λ l. IsValid l.1) c → IsValid (set_of c x)
set_valid [] x h = grind arith
set_valid (l ∷ c) x h =
    let one = h 0 l (omega arith) in
    let more = set_valid c x (λ k d lt. h (suc k) d (omega arith)) in
    elim (l.0 == x) as (λ b. IsValid (cond b l.1 (set_of c x))) [ true ↦ one | false ↦ more ]

cut_reach : (domains : Boxes) (out : Literals) (x : ℕ) → All (λ d. IsValid d) domains → All (λ l. IsValid l.1) out → reach_of (box_of (cut domains out) x) ≤ reach_of (box_of domains x)
cut_reach domains out x d f =
    subst (λ (s : Ranges). reach_of s ≤ reach_of (box_of domains x)) (sym (cut_box domains out x)) (rest_reach (box_of domains x) (set_of out x) (are_sets domains d x) (set_valid out x f))

cut_weight : (ts : List (ℤ × ℕ)) (domains : Boxes) (out : Literals) → All (λ d. IsValid d) domains → All (λ l. IsValid l.1) out → weight_of ts (cut domains out) ≤ weight_of ts domains
cut_weight [] domains out d f = omega arith
cut_weight (t ∷ ts) domains out d f =
    let one = weight_narrower t (cut domains out) domains (cut_reach domains out t.1 d f) in
    let more = cut_weight ts domains out d f in omega (arith, one, more)

sum_fits : (ts : List (ℤ × ℕ)) (boxes : Boxes) → unsigned_abs (least_sum ts boxes) ≤ weight_of ts boxes
sum_fits [] boxes = omega arith
sum_fits (t ∷ ts) boxes =
    let one = least_term_fits t boxes in let more = sum_fits ts boxes in
    let both = abs_plus (least_term t boxes) (least_sum ts boxes) in omega (arith, one, more, both)

pub follows_above : (con : Con) (x : ℕ) (ts : List (ℤ × ℕ)) (offset bound : ℤ) (domains : Boxes) (out : Literals) → con ≡ LinDef x ts offset → bound ≡ pos (2 ^ 60) → IsWellMadeCon domains (LinDef x ts offset) →
    All (λ d. IsValid d) domains → All (λ l. IsValid l.1) out → bound <ℤ least_sum ((pos 1, x) ∷ []) (cut domains out) → justified con domains out ≡ true
follows_above con x ts offset bound domains out e b m d f h =
    let w = m.bounded in let same = turned_weight ts (cut domains out) in let c = cut_weight ts domains out d f in
    let s = sum_fits (negated ts) (cut domains out) in
    subst (λ (k : Con). justified k domains out ≡ true) (sym e) (follows_down x ts offset domains out (omega (arith, ints)))

pub follows_below : (con : Con) (x : ℕ) (ts : List (ℤ × ℕ)) (offset bound : ℤ) (domains : Boxes) (out : Literals) → con ≡ LinDef x ts offset → bound ≡ pos (2 ^ 60) → IsWellMadeCon domains (LinDef x ts offset) →
    All (λ d. IsValid d) domains → All (λ l. IsValid l.1) out → bound <ℤ least_sum ((negsuc 0, x) ∷ []) (cut domains out) → justified con domains out ≡ true
follows_below con x ts offset bound domains out e b m d f h =
    let w = m.bounded in let c = cut_weight ts domains out d f in let s = sum_fits ts (cut domains out) in
    subst (λ (k : Con). justified k domains out ≡ true) (sym e) (follows_up x ts offset (pos 0 -ℤ offset) domains out refl (omega (arith, ints)))

-- ---- the row of the variable alone

pub over_alone : (c : ℤ) (x : ℕ) (domains boxes : Boxes) → unsigned_abs c ≡ 1 → x < length boxes → All (λ d. IsValid d) domains → AreBoxesWithin domains boxes → IsRowOver ((c, x) ∷ []) domains boxes
over_alone c x domains boxes e h d b = record {
  differ = refl;
  named = more_named c x [] boxes h (λ k d lt. absurd (omega arith));
  spans = more_spans c x [] domains e (are_sets domains d x) (λ k d lt. absurd (omega arith));
  domains_valid = d;
  boxes_within = b;
}

pub var_named : (x : ℕ) (ts : List (ℤ × ℕ)) (offset : ℤ) (domains boxes : Boxes) → IsWellMadeCon domains (LinDef x ts offset) → AreBoxesWithin domains boxes → x < length boxes
var_named x ts offset domains boxes m b = (boxes_named (LinDef x ts offset) domains boxes b m).0
