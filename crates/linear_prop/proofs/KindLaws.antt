-- Rows of the linear kinds: that they are rows over the domains, what follows from them, and that
-- the constraint is quiet where they have nothing to say.
use Rattle.std.proofs.Common.{◌≡◌, ℕ, suc, zero, ◌*◌, ◌<◌, ◌≤◌, ◌^◌, unsigned_abs, Bool, true, false, not, ◌&&◌, ◌||◌, cond, List, [], ◌∷◌, ◌++◌, ℤ, pos, negsuc, ◌+ℤ◌, ◌-ℤ◌, ◌*ℤ◌, ◌≤ℤ◌, ◌<ℤ◌, All, length, refl, ap, sym, subst, ◌∙◌, inl, inr, arith}
use Rattle.std.specs.Prelude.{int_lt, int_le, nat_le, nat_lt}
use Rattle.std.specs.Int.{int_min}
use Rattle.std.proofs.lemmas.Bool.{and_parts}
use Rattle.std.proofs.lemmas.Bool.Decides.{nat_tests}
use Rattle.std.proofs.lemmas.Int.{ints, clamps}
use Rattle.std.proofs.lemmas.List.{take_all, drop_all}
use Rattle.signed_clause.specs.Ranges.{Ranges, has, IsValid}
use Rattle.signed_clause.specs.SetAlgebra.{is_disjoint}
use Rattle.signed_clause.specs.Clauses.{Boxes, Literals, box_of}
use Rattle.signed_clause.proofs.SetFacts.{disjoint_law}
use Rattle.signed_clause.proofs.RangeSteps.{has-less_valid}
use Rattle.ground_form.specs.declared.con.Con.{Con}
use Rattle.ground_form.specs.declared.con.Con.TheVariants.{LinLe, LinDef, ReifLe}
use Rattle.ground_form.specs.Meaning.{term_vars}
use Rattle.ground_form.specs.Bounds.{low_of, high_of, reach_of, term_weight, weight_of, least_term, least_sum, greatest_sum}
use Rattle.ground_form.specs.WellMade.{IsWellMadeCon}
use Rattle.box_rules.specs.Refuted.{some_empty}
use Rattle.box_view.specs.Views.{cut}
use Rattle.box_rules.specs.Justified.{justified}
use Rattle.box_rules.specs.Named.{AreTermsNamed}
use Rattle.rule_law.specs.Reasons.{has_number, no_repeat, Acts, IsReason}
use Rattle.rule_law.specs.Answers.{AreBoxesWithin}
use Rattle.box_view.proofs.EndLaws.{are_sets, has_low, has_high}
use Rattle.box_view.proofs.CutLaws.{low_within, top_within}
use Rattle.rule_law.proofs.ProbeLaws.{boxes_named}
use Rattle.rule_law.proofs.Keeping.{acts_one}
use Rattle.linear_prop.specs.Rows.{negated}
use Rattle.linear_prop.specs.Flags.{with_flag, IsOpposed}
use Rattle.linear_prop.specs.Explaining.{span_of, term_at, rise, IsCause, IsSoFar, IsRowOver}
use Rattle.linear_prop.proofs.Spreads.{least_is, weight_is}
use Rattle.linear_prop.proofs.Literals.{cut_fresh, cut_same, sum_push, acts_push}
use Rattle.linear_prop.proofs.Turning.{literals_push}
use Rattle.linear_prop.proofs.Quieting.{sum_turned, vars_turned}
use Rattle.linear_prop.proofs.RowFacts.{weights_within}
use Rattle.std.proofs.Math.Nat.{mul-le-mul_left}

-- ---- where a walk begins and ends

pub begun : (ts : List (ℤ × ℕ)) (domains boxes : Boxes) (bound : ℤ) (index : ℕ) (to : ℤ) (slack : ℕ) (out : Literals) → IsCause ts boxes bound index to slack → out ≡ [] → IsSoFar ts domains boxes bound index to 0 out slack
begun ts domains boxes bound index to slack out cause e =
    subst (λ (o : Literals). IsSoFar ts domains boxes bound index to 0 o slack) (sym e) (record {
      literals = record { named = λ k d lt. absurd (omega arith); differ = refl; some = λ k d lt. absurd (omega arith); sets = λ k d lt. absurd (omega arith) };
      fresh = λ k d lt. refl;
      acts = refl;
      missed = λ h. refl;
      only = λ x h. refl;
      owed = let o = cause.owed in omega (arith, ints);
    })

rise_end : (ts : List (ℤ × ℕ)) (boxes : Boxes) (index : ℕ) (to : ℤ) → rise ts boxes index to (length ts) ≡ pos 0
rise_end ts boxes index to =
    let e : (nat_le (length ts) index && nat_lt index (length ts)) ≡ false = grind (arith, nat_tests) in
    ap (λ b. cond b (((term_at ts index).0 *ℤ to) -ℤ least_term (term_at ts index) boxes) (pos 0)) e

pub ended : (ts : List (ℤ × ℕ)) (domains boxes : Boxes) (bound : ℤ) (index : ℕ) (to : ℤ) (slack : ℕ) (out : Literals) → IsSoFar ts domains boxes bound index to (length ts) out slack → bound <ℤ least_sum ts (cut domains out)
ended ts domains boxes bound index to slack out so =
    let o = so.owed in
    let all = ap (λ (xs : List (ℤ × ℕ)). least_sum xs (cut domains out)) (take_all (length ts) ts (omega arith)) in
    let none = ap (λ (xs : List (ℤ × ℕ)). least_sum xs boxes) (drop_all (length ts) ts (omega arith)) in
    let rise = rise_end ts boxes index to in omega (arith, ints)

-- ---- what follows

or_true : (b : Bool) → (b || true) ≡ true
or_true true = refl
or_true false = refl

less_test : (a b : ℤ) → a <ℤ b → int_lt a b ≡ true
less_test a b h = grind (arith, ints)

at_most_test : (a b : ℤ) → a ≤ℤ b → int_lt b a ≡ false
at_most_test a b h = grind (arith, ints)

pub minus_one : (v : ℤ) → negsuc 0 *ℤ v ≡ pos 0 -ℤ v
minus_one (pos v) = grind (arith, ints)
minus_one (negsuc v) = grind (arith, ints)

pub plus_one : (v : ℤ) → pos 1 *ℤ v ≡ v
plus_one (pos v) = grind (arith, ints)
plus_one (negsuc v) = grind (arith, ints)

pub follows_at_most : (ts : List (ℤ × ℕ)) (bound : ℤ) (domains : Boxes) (out : Literals) → bound <ℤ least_sum ts (cut domains out) → justified (LinLe ts bound) domains out ≡ true
follows_at_most ts bound domains out h = rw (less_test bound (least_sum ts (cut domains out)) h) (or_true (some_empty (term_vars ts) (cut domains out)))

pub least_turned_one : (x : ℕ) (boxes : Boxes) → least_term (negsuc 0, x) boxes ≡ int_min (pos 0 -ℤ low_of (box_of boxes x)) (pos 0 -ℤ high_of (box_of boxes x))
least_turned_one x boxes = sym (least_is (negsuc 0, x) boxes) ∙ rw (minus_one (low_of (box_of boxes x)), minus_one (high_of (box_of boxes x))) refl

pub least_one : (x : ℕ) (boxes : Boxes) → least_term (pos 1, x) boxes ≡ int_min (low_of (box_of boxes x)) (high_of (box_of boxes x))
least_one x boxes = sym (least_is (pos 1, x) boxes) ∙ rw (plus_one (low_of (box_of boxes x)), plus_one (high_of (box_of boxes x))) refl

def_excluded : (a b : Bool) → a ≡ true → (b || a) ≡ true
def_excluded a true h = refl
def_excluded a false h = h

pub follows_up : (x : ℕ) (ts : List (ℤ × ℕ)) (offset bound : ℤ) (domains : Boxes) (out : Literals) → bound ≡ pos 0 -ℤ offset → bound <ℤ least_sum ((negsuc 0, x) ∷ ts) (cut domains out) →
    justified (LinDef x ts offset) domains out ≡ true
follows_up x ts offset bound domains out e h =
    let b = cut domains out in
    let l = least_turned_one x b in
    let high : high_of (box_of b x) <ℤ (least_sum ts b +ℤ offset) = omega (arith, ints, clamps) in
    let test = less_test (high_of (box_of b x)) (least_sum ts b +ℤ offset) high in
    rw test (rw (or_true (int_lt (greatest_sum ts b +ℤ offset) (low_of (box_of b x)))) (or_true (some_empty (x ∷ term_vars ts) b)))

pub follows_down : (x : ℕ) (ts : List (ℤ × ℕ)) (offset : ℤ) (domains : Boxes) (out : Literals) → offset <ℤ least_sum ((pos 1, x) ∷ negated ts) (cut domains out) → justified (LinDef x ts offset) domains out ≡ true
follows_down x ts offset domains out h =
    let b = cut domains out in
    let l = least_one x b in let s = sum_turned ts b in
    let low : (greatest_sum ts b +ℤ offset) <ℤ low_of (box_of b x) = omega (arith, ints, clamps) in
    rw (less_test (greatest_sum ts b +ℤ offset) (low_of (box_of b x)) low) (or_true (some_empty (x ∷ term_vars ts) b))

reified : Bool → Bool → Bool → Bool → Bool
reified one_out above zero_out within = (one_out || above) && (zero_out || within)

pub follows_one : (x : ℕ) (ts : List (ℤ × ℕ)) (bound : ℤ) (domains : Boxes) (out : Literals) → bound <ℤ least_sum ts (cut domains out) → has (box_of (cut domains out) x) (pos 0) ≡ false → justified (ReifLe x ts bound) domains out ≡ true
follows_one x ts bound domains out h n =
    let b = cut domains out in
    rw (less_test bound (least_sum ts b) h, n) (rw (or_true (not (has (box_of b x) (pos 1)))) (or_true (some_empty (x ∷ term_vars ts) b)))

at_most_true : (a b : ℤ) → a ≤ℤ b → int_le a b ≡ true
at_most_true a b h = grind (arith, ints)

pub follows_zero : (x : ℕ) (ts : List (ℤ × ℕ)) (bound turned_bound : ℤ) (domains : Boxes) (out : Literals) → turned_bound ≡ negsuc 0 -ℤ bound → turned_bound <ℤ least_sum (negated ts) (cut domains out) →
    has (box_of (cut domains out) x) (pos 1) ≡ false → justified (ReifLe x ts bound) domains out ≡ true
follows_zero x ts bound turned_bound domains out e h n =
    let b = cut domains out in let s = sum_turned ts b in
    let within : greatest_sum ts b ≤ℤ bound = omega (arith, ints) in
    rw (at_most_true (greatest_sum ts b) bound within, n) (rw (or_true (not (has (box_of b x) (pos 0)))) (or_true (some_empty (x ∷ term_vars ts) b)))

-- ---- reasons

pub row_reason : (con : Con) (ts : List (ℤ × ℕ)) (domains boxes : Boxes) (bound : ℤ) (index : ℕ) (to : ℤ) (slack : ℕ) (out : Literals) → IsSoFar ts domains boxes bound index to (length ts) out slack →
    ((o : Literals) → All (λ l. IsValid l.1) o → bound <ℤ least_sum ts (cut domains o) → justified con domains o ≡ true) → IsReason con domains boxes out
row_reason con ts domains boxes bound index to slack out so follows = record {
  named = so.literals.named;
  differ = so.literals.differ;
  some = so.literals.some;
  sets = so.literals.sets;
  follows = follows out so.literals.sets (ended ts domains boxes bound index to slack out so);
  acts = so.acts;
}

alone_valid : (d : Ranges) (v : ℤ) → IsValid d → has d v ≡ true → IsValid ((v, v) ∷ [])
alone_valid d v f h = let l = low_within _ _ d v f h in let u = top_within _ _ d v f h in (l, omega (arith, ints), omega (arith, ints))

alone_is : (u v : ℤ) → has ((v, v) ∷ []) u ≡ true → u ≡ v
alone_is u v h = grind (arith, ints)

alone_has : (v : ℤ) → has ((v, v) ∷ []) v ≡ true
alone_has v = grind (arith, ints)

alone_disjoint : (v : ℤ) (box : Ranges) → IsValid ((v, v) ∷ []) → IsValid box → has box v ≡ false → is_disjoint ((v, v) ∷ []) box ≡ true
alone_disjoint v box f g h = (disjoint_law ((v, v) ∷ []) box f g).1 (λ u m. ap (λ (z : ℤ). has box z) (alone_is u v m) ∙ h)

flag_acts : (ts : List (ℤ × ℕ)) (domains boxes : Boxes) (bound : ℤ) (index : ℕ) (to : ℤ) (slack x : ℕ) (v : ℤ) (out : Literals) → IsSoFar ts domains boxes bound index to (length ts) out slack →
    IsValid ((v, v) ∷ []) → IsValid (box_of boxes x) → IsOpposed boxes x v index ts → Acts boxes (out ++ (x, (v, v) ∷ []) ∷ [])
flag_acts ts domains boxes bound index to slack x v out so f g (inl h) = acts_push boxes out (x, (v, v) ∷ []) so.acts (alone_disjoint v (box_of boxes x) f g h)
flag_acts ts domains boxes bound index to slack x v out so f g (inr h) = acts_one boxes out (x, (v, v) ∷ []) [] (so.missed (let e = h.0 in omega arith)) refl h.1

and_not : (a b : Bool) → b ≡ true → (a && not b) ≡ false
and_not true b h = ap not h
and_not false b h = refl

-- the flag's literal behind those of the row
pub flag_reason : (con : Con) (ts : List (ℤ × ℕ)) (domains boxes : Boxes) (bound : ℤ) (index : ℕ) (to : ℤ) (slack x : ℕ) (v : ℤ) (out : Literals) (held : Bool) →
    IsSoFar ts domains boxes bound index to (length ts) out slack → held ≡ has (box_of domains x) v → x < length boxes → has_number x (term_vars ts) ≡ false →
    IsValid (box_of domains x) → IsValid (box_of boxes x) → IsOpposed boxes x v index ts →
    ((o : Literals) → bound <ℤ least_sum ts (cut domains o) → has (box_of (cut domains o) x) v ≡ false → justified con domains o ≡ true) → IsReason con domains boxes (with_flag out x v held)
flag_reason con ts domains boxes bound index to slack x v out true so e h n f g opposed follows =
    let alone = alone_valid (box_of domains x) v f (sym e) in
    let fresh = so.only x n in
    let ls = literals_push boxes out (x, (v, v) ∷ []) so.literals fresh h refl alone in
    let box = cut_same domains out (x, (v, v) ∷ []) fresh in
    let gone : has (box_of (cut domains (out ++ (x, (v, v) ∷ []) ∷ [])) x) v ≡ false =
    ap (λ (s : Ranges). has s v) box ∙ has-less_valid (box_of domains x) ((v, v) ∷ []) f alone v ∙ and_not (has (box_of domains x) v) (has ((v, v) ∷ []) v) (alone_has v) in
    let sum = sum_push ts domains out (x, (v, v) ∷ []) n in
    let end = ended ts domains boxes bound index to slack out so in
    record {
      named = ls.named;
      differ = ls.differ;
      some = ls.some;
      sets = ls.sets;
      follows = follows (out ++ (x, (v, v) ∷ []) ∷ []) (subst (λ (z : ℤ). bound <ℤ z) (sym sum) end) gone;
      acts = flag_acts ts domains boxes bound index to slack x v out so alone g opposed;
    }
flag_reason con ts domains boxes bound index to slack x v out false so e h n f g opposed follows =
    let box = cut_fresh domains out x f (so.only x n) in
    record {
      named = so.literals.named;
      differ = so.literals.differ;
      some = so.literals.some;
      sets = so.literals.sets;
      follows = follows out (ended ts domains boxes bound index to slack out so) (ap (λ (s : Ranges). has s v) box ∙ sym e);
      acts = so.acts;
    }

-- ---- rows over the domains

pub tail_repeat : (x : ℕ) (xs : List ℕ) → no_repeat (x ∷ xs) ≡ true → (has_number x xs ≡ false) × (no_repeat xs ≡ true)
tail_repeat x xs h = let p = and_parts (not (has_number x xs)) (no_repeat xs) h in let q = p.0 in (grind arith, p.1)

span_fits : (s : Ranges) → IsValid s → span_of s < 2 ^ 64
span_fits [] f = omega arith
span_fits (r ∷ rs) f =
    let low = has_low (r ∷ rs) f refl in let high = has_high (r ∷ rs) f refl in
    let a = low_within _ _ (r ∷ rs) _ f low in let b = top_within _ _ (r ∷ rs) _ f low in
    let c = low_within _ _ (r ∷ rs) _ f high in let e = top_within _ _ (r ∷ rs) _ f high in omega (arith, ints)

single_span : (c : ℤ) (x : ℕ) (domains : Boxes) → unsigned_abs c ≡ 1 → IsValid (box_of domains x) → unsigned_abs c * span_of (box_of domains x) < 2 ^ 64
single_span c x domains e f = let r = span_fits (box_of domains x) f in rw e (omega arith)

term_span : (t : ℤ × ℕ) (domains : Boxes) → term_weight t domains ≤ 2 ^ 60 → unsigned_abs t.0 * span_of (box_of domains t.1) < 2 ^ 64
term_span t domains w =
    let s = box_of domains t.1 in
    let le : span_of s ≤ 2 * reach_of s = omega (arith, ints) in
    let m : unsigned_abs t.0 * span_of s ≤ unsigned_abs t.0 * (2 * reach_of s) = mul-le-mul_left (unsigned_abs t.0) le in
    let e = weight_is t domains in omega (arith, m, e, w)

spans_fit : (ts : List (ℤ × ℕ)) (domains : Boxes) → weight_of ts domains ≤ 2 ^ 60 → All (λ t. unsigned_abs t.0 * span_of (box_of domains t.1) < 2 ^ 64) ts
spans_fit [] domains w k d lt = absurd (omega arith)
spans_fit (t ∷ ts) domains w zero d lt = term_span t domains (omega arith)
spans_fit (t ∷ ts) domains w (suc k) d lt = spans_fit ts domains (omega arith) k d (omega arith)

pub more_spans : (c : ℤ) (x : ℕ) (ts : List (ℤ × ℕ)) (domains : Boxes) → unsigned_abs c ≡ 1 → IsValid (box_of domains x) → All (λ t. unsigned_abs t.0 * span_of (box_of domains t.1) < 2 ^ 64) ts →
    All (λ t. unsigned_abs t.0 * span_of (box_of domains t.1) < 2 ^ 64) ((c, x) ∷ ts)
more_spans c x ts domains e f h zero d lt = single_span c x domains e f
more_spans c x ts domains e f h (suc k) d lt = h k d (omega arith)

pub over_at_most : (ts : List (ℤ × ℕ)) (bound : ℤ) (domains boxes : Boxes) → IsWellMadeCon domains (LinLe ts bound) → All (λ d. IsValid d) domains → AreBoxesWithin domains boxes → no_repeat (term_vars ts) ≡ true → IsRowOver ts domains boxes
over_at_most ts bound domains boxes m d b n = record {
  differ = n;
  named = boxes_named (LinLe ts bound) domains boxes b m;
  spans = spans_fit ts domains m.bounded;
  domains_valid = d;
  boxes_within = b;
}

pub more_named : (c : ℤ) (x : ℕ) (ts : List (ℤ × ℕ)) (boxes : Boxes) → x < length boxes → AreTermsNamed ts boxes → AreTermsNamed ((c, x) ∷ ts) boxes
more_named c x ts boxes h n zero d lt = h
more_named c x ts boxes h n (suc k) d lt = n k d (omega arith)

turned_named : (ts : List (ℤ × ℕ)) (boxes : Boxes) → AreTermsNamed ts boxes → AreTermsNamed (negated ts) boxes
turned_named [] boxes n k d lt = absurd (omega arith)
turned_named (t ∷ ts) boxes n zero d lt = n 0 d (omega arith)
turned_named (t ∷ ts) boxes n (suc k) d lt = turned_named ts boxes (λ j e less. n (suc j) e (omega arith)) k d (omega arith)

turned_size : (c : ℤ) → unsigned_abs (pos 0 -ℤ c) ≡ unsigned_abs c
turned_size c = omega (arith, ints)

pub turned_weight : (ts : List (ℤ × ℕ)) (boxes : Boxes) → weight_of (negated ts) boxes ≡ weight_of ts boxes
turned_weight [] boxes = refl
turned_weight (t ∷ ts) boxes =
    let one : term_weight (pos 0 -ℤ t.0, t.1) boxes ≡ term_weight t boxes =
    weight_is (pos 0 -ℤ t.0, t.1) boxes ∙ ap (λ (n : ℕ). n * reach_of (box_of boxes t.1)) (turned_size t.0) ∙ sym (weight_is t boxes) in
    let more = turned_weight ts boxes in omega (arith, one, more)

pub over_up : (x : ℕ) (ts : List (ℤ × ℕ)) (offset : ℤ) (domains boxes : Boxes) → IsWellMadeCon domains (LinDef x ts offset) → All (λ d. IsValid d) domains → AreBoxesWithin domains boxes → no_repeat (x ∷ term_vars ts) ≡ true →
    IsRowOver ((negsuc 0, x) ∷ ts) domains boxes
over_up x ts offset domains boxes m d b n =
    let named = boxes_named (LinDef x ts offset) domains boxes b m in record {
      differ = n;
      named = more_named (negsuc 0) x ts boxes named.0 named.1;
      spans = more_spans (negsuc 0) x ts domains refl (are_sets domains d x) (spans_fit ts domains (let w = m.bounded in omega arith));
      domains_valid = d;
      boxes_within = b;
    }

pub over_down : (x : ℕ) (ts : List (ℤ × ℕ)) (offset : ℤ) (domains boxes : Boxes) → IsWellMadeCon domains (LinDef x ts offset) → All (λ d. IsValid d) domains → AreBoxesWithin domains boxes → no_repeat (x ∷ term_vars ts) ≡ true →
    IsRowOver ((pos 1, x) ∷ negated ts) domains boxes
over_down x ts offset domains boxes m d b n =
    let named = boxes_named (LinDef x ts offset) domains boxes b m in record {
      differ = ap (λ (xs : List ℕ). no_repeat (x ∷ xs)) (vars_turned ts) ∙ n;
      named = more_named (pos 1) x (negated ts) boxes named.0 (turned_named ts boxes named.1);
      spans = more_spans (pos 1) x (negated ts) domains refl (are_sets domains d x) (spans_fit (negated ts) domains (let w = m.bounded in let same = turned_weight ts domains in omega arith));
      domains_valid = d;
      boxes_within = b;
    }

pub over_one : (x : ℕ) (ts : List (ℤ × ℕ)) (bound : ℤ) (domains boxes : Boxes) → IsWellMadeCon domains (ReifLe x ts bound) → All (λ d. IsValid d) domains → AreBoxesWithin domains boxes → no_repeat (x ∷ term_vars ts) ≡ true →
    IsRowOver ts domains boxes
over_one x ts bound domains boxes m d b n =
    let named = boxes_named (ReifLe x ts bound) domains boxes b m in record {
      differ = (tail_repeat x (term_vars ts) n).1;
      named = named.1;
      spans = spans_fit ts domains m.bounded;
      domains_valid = d;
      boxes_within = b;
    }

pub over_zero : (x : ℕ) (ts : List (ℤ × ℕ)) (bound : ℤ) (domains boxes : Boxes) → IsWellMadeCon domains (ReifLe x ts bound) → All (λ d. IsValid d) domains → AreBoxesWithin domains boxes → no_repeat (x ∷ term_vars ts) ≡ true →
    IsRowOver (negated ts) domains boxes
over_zero x ts bound domains boxes m d b n =
    let named = boxes_named (ReifLe x ts bound) domains boxes b m in record {
      differ = ap no_repeat (vars_turned ts) ∙ (tail_repeat x (term_vars ts) n).1;
      named = turned_named ts boxes named.1;
      spans = spans_fit (negated ts) domains (let w = m.bounded in let same = turned_weight ts domains in omega arith);
      domains_valid = d;
      boxes_within = b;
    }

-- ---- sums over the boxes

pub fits_at_most : (ts : List (ℤ × ℕ)) (bound : ℤ) (domains boxes : Boxes) → IsWellMadeCon domains (LinLe ts bound) → All (λ d. IsValid d) domains → AreBoxesWithin domains boxes → weight_of ts boxes ≤ 2 ^ 61
fits_at_most ts bound domains boxes m d b =
    let w = m.bounded in let l = weights_within ts domains boxes (boxes_named (LinLe ts bound) domains boxes b m) d b in omega arith

head_weight : (c : ℤ) (x : ℕ) (boxes : Boxes) → unsigned_abs c ≡ 1 → reach_of (box_of boxes x) ≤ 2 ^ 60 → term_weight (c, x) boxes ≤ 2 ^ 60
head_weight c x boxes e r = rw (weight_is (c, x) boxes, e) (omega arith)

fits_def : (x : ℕ) (ts : List (ℤ × ℕ)) (offset : ℤ) (domains boxes : Boxes) → IsWellMadeCon domains (LinDef x ts offset) → All (λ d. IsValid d) domains → AreBoxesWithin domains boxes → weight_of ts boxes ≤ 2 ^ 60
fits_def x ts offset domains boxes m d b =
    let w = m.bounded in let named = boxes_named (LinDef x ts offset) domains boxes b m in let l = weights_within ts domains boxes named.1 d b in omega arith

pub fits_up : (x : ℕ) (ts : List (ℤ × ℕ)) (offset : ℤ) (domains boxes : Boxes) → IsWellMadeCon domains (LinDef x ts offset) → All (λ d. IsValid d) domains → AreBoxesWithin domains boxes →
    reach_of (box_of boxes x) ≤ 2 ^ 60 → weight_of ((negsuc 0, x) ∷ ts) boxes ≤ 2 ^ 61
fits_up x ts offset domains boxes m d b r = let l = fits_def x ts offset domains boxes m d b in let h = head_weight (negsuc 0) x boxes refl r in omega arith

pub fits_down : (x : ℕ) (ts : List (ℤ × ℕ)) (offset : ℤ) (domains boxes : Boxes) → IsWellMadeCon domains (LinDef x ts offset) → All (λ d. IsValid d) domains → AreBoxesWithin domains boxes →
    reach_of (box_of boxes x) ≤ 2 ^ 60 → weight_of ((pos 1, x) ∷ negated ts) boxes ≤ 2 ^ 61
fits_down x ts offset domains boxes m d b r =
    let l = fits_def x ts offset domains boxes m d b in let h = head_weight (pos 1) x boxes refl r in let same = turned_weight ts boxes in omega arith

pub fits_one : (x : ℕ) (ts : List (ℤ × ℕ)) (bound : ℤ) (domains boxes : Boxes) → IsWellMadeCon domains (ReifLe x ts bound) → All (λ d. IsValid d) domains → AreBoxesWithin domains boxes → weight_of ts boxes ≤ 2 ^ 61
fits_one x ts bound domains boxes m d b =
    let w = m.bounded in let named = boxes_named (ReifLe x ts bound) domains boxes b m in let l = weights_within ts domains boxes named.1 d b in omega arith

pub fits_zero : (x : ℕ) (ts : List (ℤ × ℕ)) (bound : ℤ) (domains boxes : Boxes) → IsWellMadeCon domains (ReifLe x ts bound) → All (λ d. IsValid d) domains → AreBoxesWithin domains boxes → weight_of (negated ts) boxes ≤ 2 ^ 61
fits_zero x ts bound domains boxes m d b = let l = fits_one x ts bound domains boxes m d b in let same = turned_weight ts boxes in omega arith

pub flag_different : (x : ℕ) (ts : List (ℤ × ℕ)) → no_repeat (x ∷ term_vars ts) ≡ true → has_number x (term_vars ts) ≡ false
flag_different x ts n = (tail_repeat x (term_vars ts) n).0

pub flag_different_turned : (x : ℕ) (ts : List (ℤ × ℕ)) → no_repeat (x ∷ term_vars ts) ≡ true → has_number x (term_vars (negated ts)) ≡ false
flag_different_turned x ts n = ap (has_number x) (vars_turned ts) ∙ flag_different x ts n

pub flag_done : (con : Con) (ts : List (ℤ × ℕ)) (domains boxes : Boxes) (bound : ℤ) (index : ℕ) (to : ℤ) (slack x : ℕ) (v : ℤ) (out after : Literals) (d : Ranges) → IsRowOver ts domains boxes →
    IsSoFar ts domains boxes bound index to (length ts) out slack → d ≡ box_of domains x → after ≡ with_flag out x v (has d v) → x < length boxes → has_number x (term_vars ts) ≡ false →
    IsOpposed boxes x v index ts → ((o : Literals) → bound <ℤ least_sum ts (cut domains o) → has (box_of (cut domains o) x) v ≡ false → justified con domains o ≡ true) → IsReason con domains boxes after
flag_done con ts domains boxes bound index to slack x v out after d over so e a h n opposed follows =
    subst (λ (o : Literals). IsReason con domains boxes o) (sym a)
    (flag_reason con ts domains boxes bound index to slack x v out (has d v) so (ap (λ (s : Ranges). has s v) e) h n (are_sets domains over.domains_valid x) (are_sets boxes over.boxes_within.sets x) opposed follows)
