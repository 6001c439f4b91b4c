-- One turn of the walk that explains a row: what was said of the terms before holds with one term
-- more.
use Rattle.std.proofs.Common.{◌≡◌, ℕ, suc, ◌+◌, ◌<◌, ◌≤◌, ◌^◌, ◌*◌, unsigned_abs, ◌==◌, Bool, true, false, ◌&&◌, cond, Option, Some, None, List, [], ◌∷◌, ◌++◌, ℤ, pos, ◌+ℤ◌, ◌-ℤ◌, ◌*ℤ◌, ◌≤ℤ◌, All, length, get_or, take, drop, refl, ap, sym, subst, ◌∙◌, arith}
use Rattle.std.specs.Prelude.{int_lt, nat_le, nat_lt}
use Rattle.std.specs.Int.{int_min}
use Rattle.std.proofs.lemmas.Bool.{false_from_ne_true}
use Rattle.std.proofs.lemmas.Bool.Decides.{nat_tests}
use Rattle.std.proofs.lemmas.Int.{ints, clamps}
use Rattle.std.proofs.lemmas.List.{take_more, take-append-drop}
use Rattle.std.proofs.lemmas.List.Elements.{All-push}
use Rattle.signed_clause.specs.Ranges.{Ranges, has, is_nil, IsValid}
use Rattle.signed_clause.specs.SetAlgebra.{is_disjoint, is_within, less}
use Rattle.signed_clause.specs.Clauses.{Boxes, Literal, Literals, box_of, false_in}
use Rattle.signed_clause.proofs.SetFacts.{disjoint_law, within_law}
use Rattle.signed_clause.proofs.RangeSteps.{left_at, has-less_valid, IsValid-less}
use Rattle.ground_form.specs.Meaning.{clause_vars, term_vars}
use Rattle.ground_form.specs.Bounds.{low_of, high_of, least_term, greatest_term, least_sum}
use Rattle.ground_form.proofs.Weights.{least_sum-drop}
use Rattle.ground_form.proofs.Products.{mul_least}
use Rattle.box_view.specs.Views.{cut}
use Rattle.rule_law.specs.Reasons.{has_number, no_repeat, Acts}
use Rattle.box_view.proofs.EndLaws.{above_low, below_high, ends_in_order, has_low, has_high}
use Rattle.rule_law.proofs.Keeping.{acts_one}
use Rattle.linear_prop.specs.Falls.{least_at, greatest_at, IsBelow, IsFall}
use Rattle.linear_prop.specs.Turns.{with_literal}
use Rattle.linear_prop.specs.Explaining.{span_of, term_at, rise, IsCause, AreLiterals, IsSoFar, IsTurn}
use Rattle.linear_prop.proofs.Spreads.{least_is, greatest_is}
use Rattle.linear_prop.proofs.Literals.{number_append, repeat_push, split_number, vars_append, other_var, var_other, vars_push, cut_fresh, cut_same, sum_push, false_push, acts_push}

-- ---- values

-- a product at a value of a set is at least the least
pub above_least : (c v : ℤ) (s : Ranges) → IsValid s → has s v ≡ true → least_at c s ≤ℤ (c *ℤ v)
above_least c v s f h = mul_least c (low_of s) (high_of s) v (above_low s v f h) (below_high s v f h)

lower_one : (x y b : ℤ) → b ≤ℤ x → b ≤ℤ y → b ≤ℤ int_min x y
lower_one x y b h k = omega (arith, ints, clamps)

pub set_floor : (c b : ℤ) (s : Ranges) → IsValid s → is_nil s ≡ false → ((v : ℤ) → has s v ≡ true → b ≤ℤ (c *ℤ v)) → b ≤ℤ least_at c s
set_floor c b s f n h = lower_one (c *ℤ low_of s) (c *ℤ high_of s) b (h (low_of s) (has_low s f n)) (h (high_of s) (has_high s f n))

some_value : (rs : Ranges) (v : ℤ) → has rs v ≡ true → is_nil rs ≡ false
some_value [] v h = absurd (grind arith)
some_value (r ∷ rs) v h = refl

-- a value that is high enough is not in the literal's set
not_below : (c floor v : ℤ) (d s : Ranges) → IsBelow c floor d s → floor ≤ℤ (c *ℤ v) → has s v ≡ false
not_below c floor v d s b h = let e = b.values v in let l : int_lt (c *ℤ v) floor ≡ false = grind (arith, ints) in b.values v ∙ rw l (and_no (has d v))
  where
    and_no : (b : Bool) → (b && false) ≡ false
    and_no true = refl
    and_no false = refl

left_is_high : (c floor v : ℤ) (d s : Ranges) → IsValid d → IsBelow c floor d s → has (less d s) v ≡ true → floor ≤ℤ (c *ℤ v)
left_is_high c floor v d s f b h =
    let e = has-less_valid d s f b.valid v in let k = b.values v in grind (arith, ints)

-- what the literal leaves of the domain is high enough
pub left_floor : (c floor v : ℤ) (d s : Ranges) → IsValid d → IsBelow c floor d s → has d v ≡ true → floor ≤ℤ (c *ℤ v) → floor ≤ℤ least_at c (less d s)
left_floor c floor v d s f b h k =
    let out = not_below c floor v d s b k in
    let here : has (less d s) v ≡ true = has-less_valid d s f b.valid v ∙ rw (h, out) refl in
    set_floor c floor (less d s) (IsValid-less d s f b.valid) (some_value (less d s) v here) (λ w m. left_is_high c floor w d s f b m)

-- the literal misses a box in which the term is high enough
pub literal_disjoint : (c floor : ℤ) (d s box : Ranges) → IsValid box → IsBelow c floor d s → floor ≤ℤ least_at c box → is_disjoint s box ≡ true
literal_disjoint c floor d s box f b h =
    (disjoint_law s box b.valid f).1 (λ v m. false_from_ne_true (has box v) (λ q.
    let a = above_least c v box f q in let n = not_below c floor v d s b (omega (arith, ints)) in grind arith))

-- and takes a value of a box away at which it is high enough
pub literal_takes : (c floor v : ℤ) (d s box : Ranges) → IsValid box → IsBelow c floor d s → has box v ≡ true → floor ≤ℤ (c *ℤ v) → is_within box s ≡ false
literal_takes c floor v d s box f b h k =
    false_from_ne_true (is_within box s) (λ q. let m = (within_law box s f b.valid).0 q v h in let n = not_below c floor v d s b k in grind arith)

greatest_one : (c : ℤ) (s : Ranges) (x : ℤ) → IsValid s → is_nil s ≡ false → x ≤ℤ greatest_at c s → (v : ℤ) × (has s v ≡ true) × (x ≤ℤ (c *ℤ v))
greatest_one c s x f n h =
    pick (int_lt (c *ℤ high_of s) (c *ℤ low_of s)) refl
  where
    pick : (b : Bool) → int_lt (c *ℤ high_of s) (c *ℤ low_of s) ≡ b → (v : ℤ) × (has s v ≡ true) × (x ≤ℤ (c *ℤ v))
    pick true e = (low_of s, has_low s f n, grind (arith, ints))
    pick false e = (high_of s, has_high s f n, grind (arith, ints))

-- ---- sums

sum_append : (xs : List (ℤ × ℕ)) (t : ℤ × ℕ) (boxes : Boxes) → least_sum (xs ++ t ∷ []) boxes ≡ least_sum xs boxes +ℤ least_term t boxes
sum_append [] t boxes = omega (arith, ints)
sum_append (x ∷ xs) t boxes = let more = sum_append xs t boxes in omega (arith, ints)

pub sum_more : (ts : List (ℤ × ℕ)) (i : ℕ) (t : ℤ × ℕ) (boxes : Boxes) → i < length ts → t ≡ term_at ts i → least_sum (take (i + 1) ts) boxes ≡ least_sum (take i ts) boxes +ℤ least_term t boxes
sum_more ts i t boxes h e =
    ap (λ (xs : List (ℤ × ℕ)). least_sum xs boxes) (take_more ts i (pos 0, 0) h) ∙ sum_append (take i ts) (term_at ts i) boxes ∙ ap (λ (u : ℤ × ℕ). least_sum (take i ts) boxes +ℤ least_term u boxes) (sym e)

pub sum_left : (ts : List (ℤ × ℕ)) (i : ℕ) (t : ℤ × ℕ) (boxes : Boxes) → i < length ts → t ≡ term_at ts i → least_sum (drop i ts) boxes ≡ least_term t boxes +ℤ least_sum (drop (i + 1) ts) boxes
sum_left ts i t boxes h e = least_sum-drop ts boxes i h ∙ ap (λ (u : ℤ × ℕ). least_term u boxes +ℤ least_sum (drop (i + 1) ts) boxes) (sym e)

-- the term's variable has no other term
pub split_vars : (ts : List (ℤ × ℕ)) (i : ℕ) (t : ℤ × ℕ) → no_repeat (term_vars ts) ≡ true → i < length ts → t ≡ term_at ts i →
    (has_number t.1 (term_vars (take i ts)) ≡ false) × (has_number t.1 (term_vars (drop (i + 1) ts)) ≡ false)
split_vars ts i t n h e =
    let whole : take i ts ++ t ∷ drop (i + 1) ts ≡ ts = ap (λ (xs : List (ℤ × ℕ)). take i ts ++ xs) (sym (left_at ts i t (pos 0, 0) h e)) ∙ take-append-drop i ts in
    let vars : term_vars (take i ts) ++ t.1 ∷ term_vars (drop (i + 1) ts) ≡ term_vars ts = sym (vars_append (take i ts) (t ∷ drop (i + 1) ts)) ∙ ap term_vars whole in
    split_number t.1 (term_vars (take i ts)) (term_vars (drop (i + 1) ts)) (ap no_repeat vars ∙ n)

-- ---- the variables that are left

pub fresh_here : (ts : List (ℤ × ℕ)) (i : ℕ) (t : ℤ × ℕ) (out : Literals) → i < length ts → t ≡ term_at ts i → All (λ u. has_number u.1 (clause_vars out) ≡ false) (drop i ts) →
    (has_number t.1 (clause_vars out) ≡ false) × All (λ u. has_number u.1 (clause_vars out) ≡ false) (drop (i + 1) ts)
fresh_here ts i t out h e f =
    let g = subst (λ (xs : List (ℤ × ℕ)). All (λ u. has_number u.1 (clause_vars out) ≡ false) xs) (left_at ts i t (pos 0, 0) h e) f in
    (g 0 (pos 0, 0) (omega arith), λ k d lt. g (suc k) d (omega arith))

pub fresh_push : (ts : List (ℤ × ℕ)) (out : Literals) (l : Literal) → All (λ u. has_number u.1 (clause_vars out) ≡ false) ts → has_number l.0 (term_vars ts) ≡ false →
    All (λ u. has_number u.1 (clause_vars (out ++ l ∷ [])) ≡ false) ts
fresh_push ts out l f h k d lt =
    let x = (get_or ts k d).1 in
    let one = f k d lt in let no = other_var l.0 ts k d h lt in
    ap (has_number x) (vars_push out l) ∙ number_append x (clause_vars out) (l.0 ∷ []) ∙ rw (one, no) refl

pub literals_push : (boxes : Boxes) (out : Literals) (l : Literal) → AreLiterals boxes out → has_number l.0 (clause_vars out) ≡ false → l.0 < length boxes → is_nil l.1 ≡ false → IsValid l.1 → AreLiterals boxes (out ++ l ∷ [])
literals_push boxes out l a n x s v = record {
  named = All-push (λ m. m.0 < length boxes) out l a.named x;
  differ = ap no_repeat (vars_push out l) ∙ repeat_push l.0 (clause_vars out) a.differ n;
  some = All-push (λ m. is_nil m.1 ≡ false) out l a.some s;
  sets = All-push (λ m. IsValid m.1) out l a.sets v;
}

-- ---- what is owed

rise_other : (ts : List (ℤ × ℕ)) (boxes : Boxes) (index : ℕ) (to : ℤ) (i : ℕ) → (i ≡ index → ⊥) → rise ts boxes index to (i + 1) ≡ rise ts boxes index to i
rise_other ts boxes index to i n =
    let e : nat_le (i + 1) index ≡ nat_le i index = grind (arith, nat_tests) in
    ap (λ b. cond (b && nat_lt index (length ts)) (((term_at ts index).0 *ℤ to) -ℤ least_term (term_at ts index) boxes) (pos 0)) e

rise_after : (ts : List (ℤ × ℕ)) (boxes : Boxes) (index : ℕ) (to : ℤ) (i : ℕ) → i ≡ index → rise ts boxes index to (i + 1) ≡ pos 0
rise_after ts boxes index to i e =
    let f : nat_le (i + 1) index ≡ false = grind (arith, nat_tests) in
    ap (λ b. cond (b && nat_lt index (length ts)) (((term_at ts index).0 *ℤ to) -ℤ least_term (term_at ts index) boxes) (pos 0)) f

rise_here : (ts : List (ℤ × ℕ)) (boxes : Boxes) (index : ℕ) (to : ℤ) (i : ℕ) (t : ℤ × ℕ) → i ≡ index → i < length ts → t ≡ term_at ts i → rise ts boxes index to i ≡ (t.0 *ℤ to) -ℤ least_term t boxes
rise_here ts boxes index to i t e h k =
    let f : nat_le i index ≡ true = grind (arith, nat_tests) in
    let g : nat_lt index (length ts) ≡ true = grind (arith, nat_tests) in
    let same : term_at ts index ≡ t = ap (λ (j : ℕ). term_at ts j) (sym e) ∙ sym k in
    rw (f, g, same) refl

owed_more : (base slack left S S' f rest r r' low floor sum : ℤ) → (base +ℤ slack) ≤ℤ (S +ℤ (sum +ℤ r)) → sum ≡ low +ℤ rest → low +ℤ r ≡ f +ℤ r' → floor ≤ℤ S' → floor ≡ (f -ℤ slack) +ℤ left →
    (base +ℤ left) ≤ℤ ((S +ℤ S') +ℤ (rest +ℤ r'))
owed_more base slack left S S' f rest r r' low floor sum h a b c d = omega (arith, ints)

-- ---- a turn

-- the equations of numbers that a turn rests on: the term stands at `from`, and falls to the floor
record IsStep (ts : List (ℤ × ℕ)) (boxes : Boxes) (index : ℕ) (to : ℤ) (i : ℕ) (t : ℤ × ℕ) (from floor : ℤ) (slack left : ℕ) : Type 0 where
  rises : least_term t boxes +ℤ rise ts boxes index to i ≡ from +ℤ rise ts boxes index to (i + 1)
  falls : floor ≡ (from -ℤ pos slack) +ℤ pos left

owed_after : (ts : List (ℤ × ℕ)) (domains boxes : Boxes) (bound : ℤ) (index : ℕ) (to : ℤ) (i : ℕ) (out after : Literals) (slack left : ℕ) (t : ℤ × ℕ) (from floor : ℤ) →
    IsTurn ts domains boxes i t → IsStep ts boxes index to i t from floor slack left → IsSoFar ts domains boxes bound index to i out slack →
    least_sum (take i ts) (cut domains after) ≡ least_sum (take i ts) (cut domains out) → floor ≤ℤ least_term t (cut domains after) →
    ((bound +ℤ pos 1) +ℤ pos left) ≤ℤ (least_sum (take (i + 1) ts) (cut domains after) +ℤ (least_sum (drop (i + 1) ts) boxes +ℤ rise ts boxes index to (i + 1)))
owed_after ts domains boxes bound index to i out after slack left t from floor turn step so same high =
    let h = owed_more (bound +ℤ pos 1) (pos slack) (pos left) (least_sum (take i ts) (cut domains out)) (least_term t (cut domains after)) from (least_sum (drop (i + 1) ts) boxes)
    (rise ts boxes index to i) (rise ts boxes index to (i + 1)) (least_term t boxes) floor (least_sum (drop i ts) boxes) so.owed (sum_left ts i t boxes turn.here turn.term) step.rises high step.falls in
    rw (sum_more ts i t (cut domains after) turn.here turn.term, same) h

-- no literal
turn_none : (ts : List (ℤ × ℕ)) (domains boxes : Boxes) (bound : ℤ) (index : ℕ) (to : ℤ) (i : ℕ) (out : Literals) (slack left : ℕ) (t : ℤ × ℕ) (from floor : ℤ) →
    IsTurn ts domains boxes i t → IsStep ts boxes index to i t from floor slack left → IsSoFar ts domains boxes bound index to i out slack →
    floor ≤ℤ least_at t.0 (box_of domains t.1) → IsSoFar ts domains boxes bound index to (i + 1) out left
turn_none ts domains boxes bound index to i out slack left t from floor turn step so high =
    let fresh = fresh_here ts i t out turn.here turn.term so.fresh in
    let box : box_of (cut domains out) t.1 ≡ box_of domains t.1 = cut_fresh domains out t.1 turn.domain fresh.0 in
    let is : least_at t.0 (box_of domains t.1) ≡ least_term t (cut domains out) = ap (λ (s : Ranges). least_at t.0 s) (sym box) ∙ least_is t (cut domains out) in
    record {
      literals = so.literals;
      fresh = fresh.1;
      acts = so.acts;
      missed = λ h. so.missed (omega arith);
      only = so.only;
      owed = owed_after ts domains boxes bound index to i out out slack left t from floor turn step so refl (subst (λ (z : ℤ). floor ≤ℤ z) is high);
    }

-- a literal, with which the clause still acts
turn_some : (ts : List (ℤ × ℕ)) (domains boxes : Boxes) (bound : ℤ) (index : ℕ) (to : ℤ) (i : ℕ) (out : Literals) (slack left : ℕ) (t : ℤ × ℕ) (from floor v : ℤ) (set : Ranges) →
    IsTurn ts domains boxes i t → IsStep ts boxes index to i t from floor slack left → IsSoFar ts domains boxes bound index to i out slack →
    IsBelow t.0 floor (box_of domains t.1) set → has (box_of boxes t.1) v ≡ true → floor ≤ℤ (t.0 *ℤ v) →
    Acts boxes (out ++ (t.1, set) ∷ []) → (i + 1 ≤ index → false_in boxes (out ++ (t.1, set) ∷ []) ≡ true) →
    IsSoFar ts domains boxes bound index to (i + 1) (out ++ (t.1, set) ∷ []) left
turn_some ts domains boxes bound index to i out slack left t from floor v set turn step so below at high acts missed =
    let fresh = fresh_here ts i t out turn.here turn.term so.fresh in
    let split = split_vars ts i t turn.differ turn.here turn.term in
    let member = (within_law (box_of boxes t.1) (box_of domains t.1) turn.box turn.domain).0 turn.within v at in
    let box : box_of (cut domains (out ++ (t.1, set) ∷ [])) t.1 ≡ less (box_of domains t.1) set = cut_same domains out (t.1, set) fresh.0 in
    let is : least_at t.0 (less (box_of domains t.1) set) ≡ least_term t (cut domains (out ++ (t.1, set) ∷ [])) =
    ap (λ (s : Ranges). least_at t.0 s) (sym box) ∙ least_is t (cut domains (out ++ (t.1, set) ∷ [])) in
    let enough = left_floor t.0 floor v (box_of domains t.1) set turn.domain below member high in
    record {
      literals = literals_push boxes out (t.1, set) so.literals fresh.0 turn.var below.some below.valid;
      fresh = fresh_push (drop (i + 1) ts) out (t.1, set) fresh.1 split.1;
      acts = acts;
      missed = missed;
      only = λ x h.
          let e = ap (λ (u : ℤ × ℕ). u.1 == x) turn.term in
          let no = var_other x ts i (pos 0, 0) h turn.here in
          let one = so.only x h in
          ap (has_number x) (vars_push out (t.1, set)) ∙ number_append x (clause_vars out) (t.1 ∷ []) ∙ rw (one, e, no) refl;
      owed = owed_after ts domains boxes bound index to i out (out ++ (t.1, set) ∷ []) slack left t from floor turn step so
          (sum_push (take i ts) domains out (t.1, set) split.0) (subst (λ (z : ℤ). floor ≤ℤ z) is enough);
    }

-- elsewhere the term falls from its least, and its literal misses the box
pub turn_elsewhere : (ts : List (ℤ × ℕ)) (domains boxes : Boxes) (bound : ℤ) (index : ℕ) (to : ℤ) (i : ℕ) (out : Literals) (slack left : ℕ) (t : ℤ × ℕ) (from : ℤ) (literal : Option Ranges) →
    IsTurn ts domains boxes i t → IsSoFar ts domains boxes bound index to i out slack → (i ≡ index → ⊥) → from ≡ least_at t.0 (box_of boxes t.1) →
    IsFall t.0 from slack (box_of domains t.1) literal left → IsSoFar ts domains boxes bound index to (i + 1) (with_literal out t.1 literal) left
turn_elsewhere ts domains boxes bound index to i out slack left t from None turn so n e fall =
    let rise = rise_other ts boxes index to i n in let is = e ∙ least_is t boxes in
    turn_none ts domains boxes bound index to i out slack left t from ((from -ℤ pos slack) +ℤ pos left) turn
    (record { rises = omega (arith, ints); falls = refl }) so fall.1
turn_elsewhere ts domains boxes bound index to i out slack left t from (Some set) turn so n e fall =
    let rise = rise_other ts boxes index to i n in let is = e ∙ least_is t boxes in
    let l = fall.0 in
    let floor = (from -ℤ pos slack) +ℤ pos left in
    let high : floor ≤ℤ least_at t.0 (box_of boxes t.1) = omega (arith, ints) in
    let low = has_low (box_of boxes t.1) turn.box turn.some in
    let at = above_least t.0 (low_of (box_of boxes t.1)) (box_of boxes t.1) turn.box low in
    let is_disjoint_from_box = literal_disjoint t.0 floor (box_of domains t.1) set (box_of boxes t.1) turn.box fall.1 high in
    turn_some ts domains boxes bound index to i out slack left t from floor (low_of (box_of boxes t.1)) set turn
    (record { rises = omega (arith, ints); falls = refl }) so fall.1 low (omega (arith, ints))
    (acts_push boxes out (t.1, set) so.acts is_disjoint_from_box) (λ h. false_push boxes out (t.1, set) (so.missed (omega arith)) is_disjoint_from_box)

-- at the index it falls no further, and its literal takes something away
pub turn_at_index : (ts : List (ℤ × ℕ)) (domains boxes : Boxes) (bound : ℤ) (index : ℕ) (to : ℤ) (i : ℕ) (out : Literals) (slack left : ℕ) (t : ℤ × ℕ) (literal : Option Ranges) →
    IsTurn ts domains boxes i t → IsSoFar ts domains boxes bound index to i out slack → i ≡ index → (t.0 *ℤ to) ≤ℤ greatest_term t boxes →
    IsFall t.0 (t.0 *ℤ to) 0 (box_of domains t.1) literal left → IsSoFar ts domains boxes bound index to (i + 1) (with_literal out t.1 literal) slack
turn_at_index ts domains boxes bound index to i out slack left t None turn so e below fall =
    let here = rise_here ts boxes index to i t e turn.here turn.term in let after = rise_after ts boxes index to i e in let l = fall.0 in let f = fall.1 in
    turn_none ts domains boxes bound index to i out slack slack t (t.0 *ℤ to) (t.0 *ℤ to) turn
    (record { rises = omega (arith, ints); falls = omega (arith, ints) }) so (omega (arith, ints))
turn_at_index ts domains boxes bound index to i out slack left t (Some set) turn so e below fall =
    let here = rise_here ts boxes index to i t e turn.here turn.term in let after = rise_after ts boxes index to i e in let l = fall.0 in
    let floor_is : ((t.0 *ℤ to) -ℤ pos 0) +ℤ pos left ≡ t.0 *ℤ to = omega (arith, ints) in
    let b = subst (λ (z : ℤ). IsBelow t.0 z (box_of domains t.1) set) floor_is fall.1 in
    let one = greatest_one t.0 (box_of boxes t.1) (t.0 *ℤ to) turn.box turn.some (subst (λ (z : ℤ). (t.0 *ℤ to) ≤ℤ z) (sym (greatest_is t boxes)) below) in
    let takes = literal_takes t.0 (t.0 *ℤ to) one.0 (box_of domains t.1) set (box_of boxes t.1) turn.box b one.1 one.2 in
    let lt = turn.here in
    turn_some ts domains boxes bound index to i out slack slack t (t.0 *ℤ to) (t.0 *ℤ to) one.0 set turn
    (record { rises = omega (arith, ints); falls = omega (arith, ints) }) so b one.1 one.2
    (acts_one boxes out (t.1, set) [] (so.missed (omega arith)) refl takes) (λ h. absurd (omega arith))

-- ---- as the code has it: the domain and the box at hand, and the coefficient

pub low_end_within : (box d : Ranges) → IsValid box → IsValid d → is_nil box ≡ false → is_within box d ≡ true → low_of d ≤ℤ low_of box
low_end_within box d f g n h = above_low d (low_of box) g ((within_law box d f g).0 h (low_of box) (has_low box f n))

pub high_end_within : (box d : Ranges) → IsValid box → IsValid d → is_nil box ≡ false → is_within box d ≡ true → high_of box ≤ℤ high_of d
high_end_within box d f g n h = below_high d (high_of box) g ((within_law box d f g).0 h (high_of box) (has_high box f n))

pub some_domain : (box d : Ranges) → IsValid box → IsValid d → is_nil box ≡ false → is_within box d ≡ true → is_nil d ≡ false
some_domain box d f g n h = some_value d (low_of box) ((within_law box d f g).0 h (low_of box) (has_low box f n))

pub domain_some : (ts : List (ℤ × ℕ)) (domains boxes : Boxes) (i : ℕ) (t : ℤ × ℕ) (d : Ranges) → IsTurn ts domains boxes i t → d ≡ box_of domains t.1 → is_nil d ≡ false
domain_some ts domains boxes i t d turn e =
    ap (λ (s : Ranges). is_nil s) e ∙ some_domain (box_of boxes t.1) (box_of domains t.1) turn.box turn.domain turn.some turn.within

pub ends_of_box : (ts : List (ℤ × ℕ)) (domains boxes : Boxes) (i : ℕ) (t : ℤ × ℕ) (b : Ranges) → IsTurn ts domains boxes i t → b ≡ box_of boxes t.1 → low_of b ≤ℤ high_of b
ends_of_box ts domains boxes i t b turn e = subst (λ (s : Ranges). low_of s ≤ℤ high_of s) (sym e) (ends_in_order (box_of boxes t.1) turn.box)

pub at_least : (ts : List (ℤ × ℕ)) (domains boxes : Boxes) (i : ℕ) (t : ℤ × ℕ) (d b : Ranges) (at : ℤ) → IsTurn ts domains boxes i t → d ≡ box_of domains t.1 → b ≡ box_of boxes t.1 → low_of b ≤ℤ at → low_of d ≤ℤ at
at_least ts domains boxes i t d b at turn e f h =
    let part = low_end_within (box_of boxes t.1) (box_of domains t.1) turn.box turn.domain turn.some turn.within in
    let low = ap (λ (s : Ranges). low_of s) e in let box = ap (λ (s : Ranges). low_of s) f in omega (arith, ints)

pub at_most : (ts : List (ℤ × ℕ)) (domains boxes : Boxes) (i : ℕ) (t : ℤ × ℕ) (d b : Ranges) (at : ℤ) → IsTurn ts domains boxes i t → d ≡ box_of domains t.1 → b ≡ box_of boxes t.1 → at ≤ℤ high_of b → at ≤ℤ high_of d
at_most ts domains boxes i t d b at turn e f h =
    let part = high_end_within (box_of boxes t.1) (box_of domains t.1) turn.box turn.domain turn.some turn.within in
    let high = ap (λ (s : Ranges). high_of s) e in let box = ap (λ (s : Ranges). high_of s) f in omega (arith, ints)

pub factor_fits : (t : ℤ × ℕ) (c : ℤ) (boxes : Boxes) (d : Ranges) → c ≡ t.0 → d ≡ box_of boxes t.1 → unsigned_abs t.0 * span_of (box_of boxes t.1) < 2 ^ 64 → unsigned_abs c * span_of d < 2 ^ 64
factor_fits t c boxes d e f h = rw (e, f) h

pub turn_elsewhere_done : (ts : List (ℤ × ℕ)) (domains boxes : Boxes) (bound : ℤ) (index : ℕ) (to : ℤ) (i : ℕ) (out after : Literals) (slack left : ℕ) (t : ℤ × ℕ) (c from : ℤ) (d b : Ranges) (literal : Option Ranges) →
    IsTurn ts domains boxes i t → IsSoFar ts domains boxes bound index to i out slack → (i ≡ index → ⊥) → c ≡ t.0 → d ≡ box_of domains t.1 → b ≡ box_of boxes t.1 → from ≡ least_at c b →
    IsFall c from slack d literal left → after ≡ with_literal out t.1 literal → IsSoFar ts domains boxes bound index to (i + 1) after left
turn_elsewhere_done ts domains boxes bound index to i out after slack left t c from d b literal turn so n e g h f fall a =
    subst (λ (o : Literals). IsSoFar ts domains boxes bound index to (i + 1) o left) (sym a)
    (turn_elsewhere ts domains boxes bound index to i out slack left t from literal turn so n
    (subst (λ (z : ℤ). from ≡ least_at z (box_of boxes t.1)) e (subst (λ (s : Ranges). from ≡ least_at c s) h f))
    (subst (λ (z : ℤ). IsFall z from slack (box_of domains t.1) literal left) e (subst (λ (s : Ranges). IsFall c from slack s literal left) g fall)))

pub turn_at_index_done : (ts : List (ℤ × ℕ)) (domains boxes : Boxes) (bound : ℤ) (index : ℕ) (to : ℤ) (i : ℕ) (out after : Literals) (slack left most : ℕ) (t : ℤ × ℕ) (c : ℤ) (d : Ranges) (literal : Option Ranges) →
    IsTurn ts domains boxes i t → IsCause ts boxes bound index to most → IsSoFar ts domains boxes bound index to i out slack → i ≡ index → c ≡ t.0 → d ≡ box_of domains t.1 →
    IsFall c (c *ℤ to) 0 d literal left → after ≡ with_literal out t.1 literal → IsSoFar ts domains boxes bound index to (i + 1) after slack
turn_at_index_done ts domains boxes bound index to i out after slack left most t c d literal turn cause so p e g fall a =
    let here = turn.here in
    let same : term_at ts index ≡ t = ap (λ (j : ℕ). term_at ts j) (sym p) ∙ sym turn.term in
    let below = subst (λ (u : ℤ × ℕ). (u.0 *ℤ to) ≤ℤ greatest_term u boxes) same (cause.below (omega arith)) in
    subst (λ (o : Literals). IsSoFar ts domains boxes bound index to (i + 1) o slack) (sym a)
    (turn_at_index ts domains boxes bound index to i out slack left t literal turn so p below
    (subst (λ (z : ℤ). IsFall z (z *ℤ to) 0 (box_of domains t.1) literal left) e (subst (λ (s : Ranges). IsFall c (c *ℤ to) 0 s literal left) g fall)))

pub index_low : (ts : List (ℤ × ℕ)) (domains boxes : Boxes) (bound : ℤ) (index : ℕ) (to : ℤ) (i most : ℕ) (t : ℤ × ℕ) (d : Ranges) → IsTurn ts domains boxes i t → IsCause ts boxes bound index to most → i ≡ index →
    d ≡ box_of domains t.1 → low_of d ≤ℤ to
index_low ts domains boxes bound index to i most t d turn cause p e =
    let here = turn.here in
    let same : term_at ts index ≡ t = ap (λ (j : ℕ). term_at ts j) (sym p) ∙ sym turn.term in
    let low = subst (λ (u : ℤ × ℕ). low_of (box_of boxes u.1) ≤ℤ to) same (cause.low (omega arith)) in
    at_least ts domains boxes i t d (box_of boxes t.1) to turn e refl low

pub index_high : (ts : List (ℤ × ℕ)) (domains boxes : Boxes) (bound : ℤ) (index : ℕ) (to : ℤ) (i most : ℕ) (t : ℤ × ℕ) (d : Ranges) → IsTurn ts domains boxes i t → IsCause ts boxes bound index to most → i ≡ index →
    d ≡ box_of domains t.1 → to ≤ℤ high_of d
index_high ts domains boxes bound index to i most t d turn cause p e =
    let here = turn.here in
    let same : term_at ts index ≡ t = ap (λ (j : ℕ). term_at ts j) (sym p) ∙ sym turn.term in
    let high = subst (λ (u : ℤ × ℕ). to ≤ℤ high_of (box_of boxes u.1)) same (cause.high (omega arith)) in
    at_most ts domains boxes i t d (box_of boxes t.1) to turn e refl high
