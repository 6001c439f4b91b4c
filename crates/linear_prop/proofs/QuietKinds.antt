-- Constraints of the linear kinds whose rows have nothing to say are quiet.
use Rattle.std.proofs.Common.{◌≡◌, ℕ, suc, zero, ◌<◌, Bool, true, false, not, ◌&&◌, ◌||◌, List, [], ◌∷◌, ℤ, pos, negsuc, ◌+ℤ◌, ◌-ℤ◌, ◌≤ℤ◌, ◌<ℤ◌, All, length, refl, ap, sym, subst, ◌∙◌, ◌⊎◌, inl, inr, arith}
use Rattle.std.specs.Prelude.{int_lt, int_le}
use Rattle.std.proofs.lemmas.Bool.{false_from_ne_true, cases_eq}
use Rattle.std.proofs.lemmas.Int.{ints, clamps}
use Rattle.signed_clause.specs.Ranges.{Ranges, has, IsValid}
use Rattle.signed_clause.specs.SetAlgebra.{is_within}
use Rattle.signed_clause.specs.Clauses.{Boxes, box_of}
use Rattle.signed_clause.proofs.SetFacts.{within_law}
use Rattle.ground_form.specs.declared.con.Con.{Con}
use Rattle.ground_form.specs.declared.con.Con.TheVariants.{LinLe, LinDef, ReifLe}
use Rattle.ground_form.specs.Meaning.{vars_of, term_vars}
use Rattle.ground_form.specs.Bounds.{low_of, high_of, least_sum, greatest_sum}
use Rattle.ground_form.specs.WellMade.{IsWellMadeCon}
use Rattle.box_rules.specs.Refuted.{excluded, refuted}
use Rattle.box_view.specs.Views.{fixing}
use Rattle.box_rules.specs.Quiet.{quiet}
use Rattle.rule_law.specs.Reasons.{has_number, no_repeat}
use Rattle.rule_law.specs.Answers.{AreBoxesWithin}
use Rattle.box_view.proofs.EndLaws.{above_low, below_high, ends_in_order, are_sets, has_low}
use Rattle.box_view.proofs.SetLaws.{fixing_same, fixing_other}
use Rattle.rule_law.proofs.ProbeLaws.{boxes_vars}
use Rattle.linear_prop.specs.Rows.{negated}
use Rattle.linear_prop.specs.Explaining.{IsTight}
use Rattle.linear_prop.proofs.Quieting.{AreSome, quiet_law, none_empty, fixing_some, fixing_order, sum_other, tight_set, sum_turned, vars_turned, least_below}
use Rattle.linear_prop.proofs.KindLaws.{least_turned_one, least_one, flag_different, flag_different_turned, tail_repeat}

all_number : (n x : ℕ) (xs : List ℕ) → All (λ y. y < n) xs → has_number x xs ≡ true → x < n
all_number n x [] h k = absurd (grind arith)
all_number n x (y ∷ xs) h k =
    let one = h 0 0 (omega arith) in
    let more : has_number x xs ≡ true → x < n = all_number n x xs (λ j e lt. h (suc j) e (omega arith)) in grind arith

some_boxes : (con : Con) (domains boxes : Boxes) → IsWellMadeCon domains con → AreBoxesWithin domains boxes → AreSome boxes (vars_of con)
some_boxes con domains boxes m b =
    let named = boxes_vars con domains boxes b m in record {
      sets = are_sets boxes b.sets;
      some = λ x h. b.some x (all_number (length boxes) x (vars_of con) named h);
      named = λ x h. all_number (length boxes) x (vars_of con) named h;
    }

-- boxes of which none is empty are refuted by the rule alone
not_refuted : (con : Con) (boxes : Boxes) → AreSome boxes (vars_of con) → excluded con boxes ≡ false → refuted con boxes ≡ false
not_refuted con boxes s e = rw (none_empty (vars_of con) boxes s.some, e) refl

not_refuted_set : (con : Con) (boxes : Boxes) (x : ℕ) (v : ℤ) → AreSome boxes (vars_of con) → has_number x (vars_of con) ≡ true → excluded con (fixing boxes x v) ≡ false → refuted con (fixing boxes x v) ≡ false
not_refuted_set con boxes x v s h e = rw (none_empty (vars_of con) (fixing boxes x v) (λ y k. fixing_some boxes x y v (s.named x h) (s.some y k)), e) refl

within_test : (a b : ℤ) → a ≤ℤ b → int_lt b a ≡ false
within_test a b h = grind (arith, ints)

pub quiet_at_most : (ts : List (ℤ × ℕ)) (bound : ℤ) (domains boxes : Boxes) → IsWellMadeCon domains (LinLe ts bound) → AreBoxesWithin domains boxes → no_repeat (term_vars ts) ≡ true → IsTight ts boxes bound →
    quiet (LinLe ts bound) boxes ≡ true
quiet_at_most ts bound domains boxes m b n tight =
    let s = some_boxes (LinLe ts bound) domains boxes m b in
    quiet_law (LinLe ts bound) boxes s (not_refuted (LinLe ts bound) boxes s (within_test (least_sum ts boxes) bound tight.least))
    (λ x v h k. not_refuted_set (LinLe ts bound) boxes x v s h (within_test (least_sum ts (fixing boxes x v)) bound (tight_set ts boxes bound x v tight n (s.named x h) s.sets k)))

-- ---- sums that define a variable

def_open : (x : ℕ) (ts : List (ℤ × ℕ)) (offset bound : ℤ) (boxes : Boxes) → bound ≡ pos 0 -ℤ offset → low_of (box_of boxes x) ≤ℤ high_of (box_of boxes x) →
    least_sum ((negsuc 0, x) ∷ ts) boxes ≤ℤ bound → least_sum ((pos 1, x) ∷ negated ts) boxes ≤ℤ offset → excluded (LinDef x ts offset) boxes ≡ false
def_open x ts offset bound boxes e o h k =
    let l = least_turned_one x boxes in let m = least_one x boxes in let s = sum_turned ts boxes in
    let low : low_of (box_of boxes x) ≤ℤ (greatest_sum ts boxes +ℤ offset) = omega (arith, ints, clamps) in
    let high : (least_sum ts boxes +ℤ offset) ≤ℤ high_of (box_of boxes x) = omega (arith, ints, clamps) in
    rw (within_test (low_of (box_of boxes x)) (greatest_sum ts boxes +ℤ offset) low, within_test (least_sum ts boxes +ℤ offset) (high_of (box_of boxes x)) high) refl

pub quiet_def : (x : ℕ) (ts : List (ℤ × ℕ)) (offset bound : ℤ) (domains boxes : Boxes) → IsWellMadeCon domains (LinDef x ts offset) → AreBoxesWithin domains boxes → no_repeat (x ∷ term_vars ts) ≡ true →
    bound ≡ pos 0 -ℤ offset → IsTight ((negsuc 0, x) ∷ ts) boxes bound → IsTight ((pos 1, x) ∷ negated ts) boxes offset → quiet (LinDef x ts offset) boxes ≡ true
quiet_def x ts offset bound domains boxes m b n e up down =
    let con = LinDef x ts offset in
    let s = some_boxes con domains boxes m b in
    let n' = ap (λ (xs : List ℕ). no_repeat (x ∷ xs)) (vars_turned ts) ∙ n in
    quiet_law con boxes s (not_refuted con boxes s (def_open x ts offset bound boxes e (ends_in_order (box_of boxes x) (s.sets x)) up.least down.least))
    (λ y v h k. not_refuted_set con boxes y v s h (def_open x ts offset bound (fixing boxes y v) e (fixing_order boxes y x v (s.named y h) (s.sets x))
    (tight_set ((negsuc 0, x) ∷ ts) boxes bound y v up n (s.named y h) s.sets k) (tight_set ((pos 1, x) ∷ negated ts) boxes offset y v down n' (s.named y h) s.sets k)))

-- ---- flags

-- with the flag's box and the sums as they are
reif_test : Bool → Bool → ℤ → ℤ → ℤ → Bool
reif_test one off bound least greatest = (not one || int_lt bound least) && (not off || int_le greatest bound)

above_test : (a b : ℤ) → b <ℤ a → int_le a b ≡ false
above_test a b h = grind (arith, ints)

test_one : (off : Bool) (bound least greatest : ℤ) → least ≤ℤ bound → reif_test true off bound least greatest ≡ false
unfolding reif_test
test_one off bound least greatest h = rw (within_test least bound h) refl

and_false : (b : Bool) → (b && false) ≡ false
and_false true = refl
and_false false = refl

test_zero : (one : Bool) (bound least greatest : ℤ) → bound <ℤ greatest → reif_test one true bound least greatest ≡ false
unfolding reif_test
test_zero one bound least greatest h = rw (above_test greatest bound h) (and_false (not one || int_lt bound least))

test_both : (bound least greatest : ℤ) → least ≤ℤ greatest → reif_test true true bound least greatest ≡ false
unfolding reif_test
test_both bound least greatest h = grind (arith, ints)

reif_one : (x : ℕ) (ts : List (ℤ × ℕ)) (bound : ℤ) (boxes : Boxes) → has (box_of boxes x) (pos 1) ≡ true → least_sum ts boxes ≤ℤ bound → excluded (ReifLe x ts bound) boxes ≡ false
unfolding reif_test
reif_one x ts bound boxes h k =
    ap (λ b. reif_test b (has (box_of boxes x) (pos 0)) bound (least_sum ts boxes) (greatest_sum ts boxes)) h ∙ test_one (has (box_of boxes x) (pos 0)) bound (least_sum ts boxes) (greatest_sum ts boxes) k

reif_zero : (x : ℕ) (ts : List (ℤ × ℕ)) (bound turned_bound : ℤ) (boxes : Boxes) → turned_bound ≡ negsuc 0 -ℤ bound → has (box_of boxes x) (pos 0) ≡ true → least_sum (negated ts) boxes ≤ℤ turned_bound →
    excluded (ReifLe x ts bound) boxes ≡ false
unfolding reif_test
reif_zero x ts bound turned_bound boxes e h k =
    let s = sum_turned ts boxes in
    ap (λ b. reif_test (has (box_of boxes x) (pos 1)) b bound (least_sum ts boxes) (greatest_sum ts boxes)) h ∙ test_zero (has (box_of boxes x) (pos 1)) bound (least_sum ts boxes) (greatest_sum ts boxes) (omega (arith, ints))

reif_both : (x : ℕ) (ts : List (ℤ × ℕ)) (bound : ℤ) (boxes : Boxes) → has (box_of boxes x) (pos 1) ≡ true → has (box_of boxes x) (pos 0) ≡ true → excluded (ReifLe x ts bound) boxes ≡ false
unfolding reif_test
reif_both x ts bound boxes h k =
    ap (λ b. reif_test b (has (box_of boxes x) (pos 0)) bound (least_sum ts boxes) (greatest_sum ts boxes)) h ∙ ap (λ b. reif_test true b bound (least_sum ts boxes) (greatest_sum ts boxes)) k
    ∙ test_both bound (least_sum ts boxes) (greatest_sum ts boxes) (least_below ts boxes)

-- a flag is 0 or 1
pub flag_value : (s : Ranges) (v : ℤ) → IsValid s → low_of s ≡ low_of s → pos 0 ≤ℤ low_of s → high_of s ≤ℤ pos 1 → has s v ≡ true → (v ≡ pos 0) ⊎ (v ≡ pos 1)
flag_value s v f r h k m =
    let l = above_low s v f m in let u = below_high s v f m in pick v (omega (arith, ints)) (omega (arith, ints))
  where
    pick : (v : ℤ) → pos 0 ≤ℤ v → v ≤ℤ pos 1 → (v ≡ pos 0) ⊎ (v ≡ pos 1)
    pick (pos zero) h k = inl refl
    pick (pos (suc zero)) h k = inr refl
    pick (pos (suc (suc n))) h k = absurd (omega (arith, ints))
    pick (negsuc n) h k = absurd (omega (arith, ints))

-- which of its values the flag's box has, where that of another variable is replaced
kept_flag : (boxes : Boxes) (x y : ℕ) (v w : ℤ) (b : Bool) → (x ≡ y → ⊥) → has (box_of boxes x) w ≡ b → has (box_of (fixing boxes y v) x) w ≡ b
kept_flag boxes x y v w b n h = ap (λ (s : Ranges). has s w) (fixing_other boxes y x v n) ∙ h

set_flag : (boxes : Boxes) (x : ℕ) (v : ℤ) → x < length boxes → has (box_of (fixing boxes x v) x) v ≡ true
set_flag boxes x v h = ap (λ (s : Ranges). has s v) (fixing_same boxes x v h) ∙ grind (arith, ints)

-- where the flag is set to 1, and where it is set to 0
flag_is_one : (x : ℕ) (ts : List (ℤ × ℕ)) (bound : ℤ) (boxes : Boxes) → x < length boxes → has_number x (term_vars ts) ≡ false → least_sum ts boxes ≤ℤ bound → excluded (ReifLe x ts bound) (fixing boxes x (pos 1)) ≡ false
flag_is_one x ts bound boxes h n l =
    let same = sum_other ts boxes x (pos 1) n in
    reif_one x ts bound (fixing boxes x (pos 1)) (set_flag boxes x (pos 1) h) (omega (arith, ints))

flag_is_zero : (x : ℕ) (ts : List (ℤ × ℕ)) (bound turned_bound : ℤ) (boxes : Boxes) → turned_bound ≡ negsuc 0 -ℤ bound → x < length boxes → has_number x (term_vars (negated ts)) ≡ false → least_sum (negated ts) boxes ≤ℤ turned_bound →
    excluded (ReifLe x ts bound) (fixing boxes x (pos 0)) ≡ false
flag_is_zero x ts bound turned_bound boxes e h n l =
    let same = sum_other (negated ts) boxes x (pos 0) n in
    reif_zero x ts bound turned_bound (fixing boxes x (pos 0)) e (set_flag boxes x (pos 0) h) (omega (arith, ints))

-- what makes a reified sum quiet, by what the flag's box has
pub record IsFlagQuiet (x : ℕ) (ts : List (ℤ × ℕ)) (bound : ℤ) (boxes : Boxes) : Type 0 where
  now : excluded (ReifLe x ts bound) boxes ≡ false
  set_one : has (box_of boxes x) (pos 1) ≡ true → excluded (ReifLe x ts bound) (fixing boxes x (pos 1)) ≡ false
  set_zero : has (box_of boxes x) (pos 0) ≡ true → excluded (ReifLe x ts bound) (fixing boxes x (pos 0)) ≡ false
  other : (y : ℕ) (v : ℤ) → (x ≡ y → ⊥) → y < length boxes → has (box_of boxes y) v ≡ true → excluded (ReifLe x ts bound) (fixing boxes y v) ≡ false

flag_range : (x : ℕ) (ts : List (ℤ × ℕ)) (bound : ℤ) (domains boxes : Boxes) (v : ℤ) → IsWellMadeCon domains (ReifLe x ts bound) → All (λ d. IsValid d) domains → AreBoxesWithin domains boxes → x < length boxes → has (box_of boxes x) v ≡ true →
    (v ≡ pos 0) ⊎ (v ≡ pos 1)
flag_range x ts bound domains boxes v m d b h k =
    let f = are_sets boxes b.sets x in let g = are_sets domains d x in
    let within = (within_law (box_of boxes x) (box_of domains x) f g).0 (b.within x h) v k in
    let lies = m.flags 0 0 (omega arith) in
    flag_value (box_of domains x) v g refl lies.0 lies.1 within

pub quiet_flag : (x : ℕ) (ts : List (ℤ × ℕ)) (bound : ℤ) (domains boxes : Boxes) → IsWellMadeCon domains (ReifLe x ts bound) → All (λ d. IsValid d) domains → AreBoxesWithin domains boxes → IsFlagQuiet x ts bound boxes →
    quiet (ReifLe x ts bound) boxes ≡ true
quiet_flag x ts bound domains boxes m d b q =
    let con = ReifLe x ts bound in
    let s = some_boxes con domains boxes m b in
    quiet_law con boxes s (not_refuted con boxes s q.now)
    (λ y v h k. not_refuted_set con boxes y v s h (elim (cases_eq x y) [
      | inl e ↦
          let k' = ap (λ (z : ℕ). has (box_of boxes z) v) e ∙ k in
          let named = subst (λ (z : ℕ). z < length boxes) (sym e) (s.named y h) in
          subst (λ (z : ℕ). excluded con (fixing boxes z v) ≡ false) e (elim (flag_range x ts bound domains boxes v m d b named k') [
            | inl z ↦ subst (λ (w : ℤ). excluded con (fixing boxes x w) ≡ false) (sym z) (q.set_zero (ap (λ (w : ℤ). has (box_of boxes x) w) (sym z) ∙ k'))
            | inr z ↦ subst (λ (w : ℤ). excluded con (fixing boxes x w) ≡ false) (sym z) (q.set_one (ap (λ (w : ℤ). has (box_of boxes x) w) (sym z) ∙ k'))
          ])
      | inr n ↦ q.other y v n (s.named y h) k
    ]))

-- a box that isn't empty and lacks one value has the other
other_value : (x : ℕ) (ts : List (ℤ × ℕ)) (bound : ℤ) (domains boxes : Boxes) → IsWellMadeCon domains (ReifLe x ts bound) → All (λ d. IsValid d) domains → AreBoxesWithin domains boxes → x < length boxes →
    (has (box_of boxes x) (pos 0) ≡ false → has (box_of boxes x) (pos 1) ≡ true) × (has (box_of boxes x) (pos 1) ≡ false → has (box_of boxes x) (pos 0) ≡ true)
other_value x ts bound domains boxes m d b h =
    let low = has_low (box_of boxes x) (are_sets boxes b.sets x) (b.some x h) in
    elim (flag_range x ts bound domains boxes (low_of (box_of boxes x)) m d b h low) [
      | inl z ↦ let here = ap (λ (w : ℤ). has (box_of boxes x) w) (sym z) ∙ low in ((λ k. absurd (grind arith)), (λ k. here))
      | inr z ↦ let here = ap (λ (w : ℤ). has (box_of boxes x) w) (sym z) ∙ low in ((λ k. here), (λ k. absurd (grind arith)))
    ]

flag_named : (x : ℕ) (ts : List (ℤ × ℕ)) (bound : ℤ) (domains boxes : Boxes) → IsWellMadeCon domains (ReifLe x ts bound) → AreBoxesWithin domains boxes → x < length boxes
flag_named x ts bound domains boxes m b = boxes_vars (ReifLe x ts bound) domains boxes b m 0 0 (omega arith)

-- the flag is 1, and the row of that has nothing to say
pub quiet_one : (x : ℕ) (ts : List (ℤ × ℕ)) (bound : ℤ) (domains boxes : Boxes) → IsWellMadeCon domains (ReifLe x ts bound) → All (λ d. IsValid d) domains → AreBoxesWithin domains boxes → no_repeat (x ∷ term_vars ts) ≡ true →
    has (box_of boxes x) (pos 0) ≡ false → IsTight ts boxes bound → quiet (ReifLe x ts bound) boxes ≡ true
quiet_one x ts bound domains boxes m d b n lacks tight =
    let h = flag_named x ts bound domains boxes m b in
    let one = (other_value x ts bound domains boxes m d b h).0 lacks in
    let sets = are_sets boxes b.sets in
    quiet_flag x ts bound domains boxes m d b (record {
      now = reif_one x ts bound boxes one tight.least;
      set_one = λ k. flag_is_one x ts bound boxes h (flag_different x ts n) tight.least;
      set_zero = λ k. absurd (grind arith);
      other = λ y v e g k. reif_one x ts bound (fixing boxes y v) (kept_flag boxes x y v (pos 1) true e one) (tight_set ts boxes bound y v tight (tail_repeat x (term_vars ts) n).1 g sets k);
    })

-- the flag is 0, and the row of that has nothing to say
pub quiet_zero : (x : ℕ) (ts : List (ℤ × ℕ)) (bound turned_bound : ℤ) (domains boxes : Boxes) → IsWellMadeCon domains (ReifLe x ts bound) → All (λ d. IsValid d) domains → AreBoxesWithin domains boxes → no_repeat (x ∷ term_vars ts) ≡ true →
    turned_bound ≡ negsuc 0 -ℤ bound → has (box_of boxes x) (pos 1) ≡ false → IsTight (negated ts) boxes turned_bound → quiet (ReifLe x ts bound) boxes ≡ true
quiet_zero x ts bound turned_bound domains boxes m d b n e lacks tight =
    let h = flag_named x ts bound domains boxes m b in
    let zero_in = (other_value x ts bound domains boxes m d b h).1 lacks in
    let sets = are_sets boxes b.sets in
    let different = ap no_repeat (vars_turned ts) ∙ (tail_repeat x (term_vars ts) n).1 in
    quiet_flag x ts bound domains boxes m d b (record {
      now = reif_zero x ts bound turned_bound boxes e zero_in tight.least;
      set_one = λ k. absurd (grind arith);
      set_zero = λ k. flag_is_zero x ts bound turned_bound boxes e h (flag_different_turned x ts n) tight.least;
      other = λ y v f g k. reif_zero x ts bound turned_bound (fixing boxes y v) e (kept_flag boxes x y v (pos 0) true f zero_in) (tight_set (negated ts) boxes turned_bound y v tight different g sets k);
    })

-- the flag is open, and neither row is refuted
pub quiet_open : (x : ℕ) (ts : List (ℤ × ℕ)) (bound turned_bound : ℤ) (domains boxes : Boxes) → IsWellMadeCon domains (ReifLe x ts bound) → All (λ d. IsValid d) domains → AreBoxesWithin domains boxes → no_repeat (x ∷ term_vars ts) ≡ true →
    turned_bound ≡ negsuc 0 -ℤ bound → has (box_of boxes x) (pos 0) ≡ true → has (box_of boxes x) (pos 1) ≡ true → least_sum ts boxes ≤ℤ bound → least_sum (negated ts) boxes ≤ℤ turned_bound → quiet (ReifLe x ts bound) boxes ≡ true
quiet_open x ts bound turned_bound domains boxes m d b n e zero_in one l k =
    let h = flag_named x ts bound domains boxes m b in
    quiet_flag x ts bound domains boxes m d b (record {
      now = reif_both x ts bound boxes one zero_in;
      set_one = λ q. flag_is_one x ts bound boxes h (flag_different x ts n) l;
      set_zero = λ q. flag_is_zero x ts bound turned_bound boxes e h (flag_different_turned x ts n) k;
      other = λ y v f g q. reif_both x ts bound (fixing boxes y v) (kept_flag boxes x y v (pos 1) true f one) (kept_flag boxes x y v (pos 0) true f zero_in);
    })

-- a box with both values isn't within either
pub not_alone : (s : Ranges) (v w : ℤ) → IsValid s → IsValid ((v, v) ∷ []) → (w ≡ v → ⊥) → has s w ≡ true → is_within s ((v, v) ∷ []) ≡ false
not_alone s v w f g n h =
    false_from_ne_true (is_within s ((v, v) ∷ [])) (λ q. let m = (within_law s ((v, v) ∷ []) f g).0 q w h in n (alone_is v w m))
  where
    alone_is : (v w : ℤ) → has ((v, v) ∷ []) w ≡ true → w ≡ v
    alone_is v w h = grind (arith, ints)
