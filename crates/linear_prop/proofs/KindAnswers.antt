-- What the rows of a constraint answer is its answer.
use Rattle.std.proofs.Common.{◌≡◌, ℕ, true, false, Option, Some, None, List, [], ◌∷◌, ℤ, pos, negsuc, ◌-ℤ◌, ◌≤ℤ◌, ◌<ℤ◌, All, sym, subst, arith}
use Rattle.std.proofs.lemmas.Int.{ints}
use Rattle.signed_clause.specs.SetAlgebra.{is_within}
use Rattle.signed_clause.specs.Ranges.{has, IsValid}
use Rattle.signed_clause.specs.Clauses.{Boxes, Literals, box_of}
use Rattle.ground_form.specs.declared.con.Con.{Con}
use Rattle.ground_form.specs.declared.con.Con.TheVariants.{LinLe, LinDef, ReifLe}
use Rattle.ground_form.specs.Meaning.{term_vars}
use Rattle.ground_form.specs.Bounds.{least_sum}
use Rattle.ground_form.specs.WellMade.{IsWellMadeCon}
use Rattle.box_rules.specs.Quiet.{quiet}
use Rattle.rule_law.specs.Reasons.{no_repeat}
use Rattle.rule_law.specs.Answers.{AreBoxesWithin, IsAnswer}
use Rattle.linear_prop.specs.Rows.{negated}
use Rattle.linear_prop.specs.Explaining.{IsTight}
use Rattle.linear_prop.specs.RowAnswers.{IsRowAnswer, IsSumAnswer}
use Rattle.linear_prop.proofs.QuietKinds.{quiet_at_most, quiet_def, quiet_one, quiet_zero, quiet_open, not_alone}
use Rattle.box_view.specs.Views.{cut}
use Rattle.box_rules.specs.Justified.{justified}
use Rattle.linear_prop.proofs.KindLaws.{follows_up, follows_down, follows_one, follows_zero}

-- nothing is answered where the constraint is quiet then
pub answer_from : (con : Con) (ts : List (ℤ × ℕ)) (bound : ℤ) (domains boxes : Boxes) (answer : Option Literals) → IsRowAnswer con ts bound domains boxes answer → (IsTight ts boxes bound → quiet con boxes ≡ true) → IsAnswer con domains boxes answer
answer_from con ts bound domains boxes None a q = q a
answer_from con ts bound domains boxes (Some clause) a q = a

pub sum_answer_from : (con : Con) (ts : List (ℤ × ℕ)) (bound : ℤ) (domains boxes : Boxes) (answer : Option Literals) → IsSumAnswer con ts bound domains boxes answer → (least_sum ts boxes ≤ℤ bound → quiet con boxes ≡ true) → IsAnswer con domains boxes answer
sum_answer_from con ts bound domains boxes None a q = q a
sum_answer_from con ts bound domains boxes (Some clause) a q = a

pub at_most_answer : (con : Con) (ts : List (ℤ × ℕ)) (bound row_bound : ℤ) (domains boxes : Boxes) (answer : Option Literals) → con ≡ LinLe ts bound → row_bound ≡ bound → IsWellMadeCon domains (LinLe ts bound) → AreBoxesWithin domains boxes →
    no_repeat (term_vars ts) ≡ true → IsRowAnswer con ts row_bound domains boxes answer → IsAnswer con domains boxes answer
at_most_answer con ts bound row_bound domains boxes answer e f m b n a =
    answer_from con ts row_bound domains boxes answer a
    (λ t. subst (λ (c : Con). quiet c boxes ≡ true) (sym e) (quiet_at_most ts bound domains boxes m b n (subst (λ (z : ℤ). IsTight ts boxes z) f t)))

-- ---- as the code has it: bounds are passed on as the same numbers

pub follows_up_con : (con : Con) (x : ℕ) (ts : List (ℤ × ℕ)) (offset bound : ℤ) (domains : Boxes) (out : Literals) → con ≡ LinDef x ts offset → bound ≡ pos 0 -ℤ offset → bound <ℤ least_sum ((negsuc 0, x) ∷ ts) (cut domains out) →
    justified con domains out ≡ true
follows_up_con con x ts offset bound domains out e b h = subst (λ (k : Con). justified k domains out ≡ true) (sym e) (follows_up x ts offset bound domains out b h)

pub follows_down_con : (con : Con) (x : ℕ) (ts : List (ℤ × ℕ)) (offset bound : ℤ) (domains : Boxes) (out : Literals) → con ≡ LinDef x ts offset → bound ≡ offset → bound <ℤ least_sum ((pos 1, x) ∷ negated ts) (cut domains out) →
    justified con domains out ≡ true
follows_down_con con x ts offset bound domains out e b h =
    subst (λ (k : Con). justified k domains out ≡ true) (sym e) (follows_down x ts offset domains out (subst (λ (z : ℤ). z <ℤ least_sum ((pos 1, x) ∷ negated ts) (cut domains out)) b h))

pub follows_one_con : (con : Con) (x : ℕ) (ts : List (ℤ × ℕ)) (bound row_bound : ℤ) (domains : Boxes) (out : Literals) → con ≡ ReifLe x ts bound → row_bound ≡ bound → row_bound <ℤ least_sum ts (cut domains out) →
    has (box_of (cut domains out) x) (pos 0) ≡ false → justified con domains out ≡ true
follows_one_con con x ts bound row_bound domains out e b h n =
    subst (λ (k : Con). justified k domains out ≡ true) (sym e) (follows_one x ts bound domains out (subst (λ (z : ℤ). z <ℤ least_sum ts (cut domains out)) b h) n)

pub follows_zero_con : (con : Con) (x : ℕ) (ts : List (ℤ × ℕ)) (bound row_bound : ℤ) (domains : Boxes) (out : Literals) → con ≡ ReifLe x ts bound → row_bound ≡ negsuc 0 -ℤ bound → row_bound <ℤ least_sum (negated ts) (cut domains out) →
    has (box_of (cut domains out) x) (pos 1) ≡ false → justified con domains out ≡ true
follows_zero_con con x ts bound row_bound domains out e b h n = subst (λ (k : Con). justified k domains out ≡ true) (sym e) (follows_zero x ts bound row_bound domains out b h n)

pub one_answer_done : (con : Con) (x : ℕ) (ts : List (ℤ × ℕ)) (bound row_bound : ℤ) (domains boxes : Boxes) (answer : Option Literals) → con ≡ ReifLe x ts bound → row_bound ≡ bound → IsWellMadeCon domains (ReifLe x ts bound) →
    All (λ d. IsValid d) domains → AreBoxesWithin domains boxes → no_repeat (x ∷ term_vars ts) ≡ true → has (box_of boxes x) (pos 0) ≡ false → IsRowAnswer con ts row_bound domains boxes answer → IsAnswer con domains boxes answer
one_answer_done con x ts bound row_bound domains boxes answer e f m d b n lacks a =
    answer_from con ts row_bound domains boxes answer a
    (λ t. subst (λ (k : Con). quiet k boxes ≡ true) (sym e) (quiet_one x ts bound domains boxes m d b n lacks (subst (λ (z : ℤ). IsTight ts boxes z) f t)))

pub zero_answer_done : (con : Con) (x : ℕ) (ts : List (ℤ × ℕ)) (bound row_bound : ℤ) (domains boxes : Boxes) (answer : Option Literals) → con ≡ ReifLe x ts bound → row_bound ≡ negsuc 0 -ℤ bound → IsWellMadeCon domains (ReifLe x ts bound) →
    All (λ d. IsValid d) domains → AreBoxesWithin domains boxes → no_repeat (x ∷ term_vars ts) ≡ true → has (box_of boxes x) (pos 1) ≡ false → IsRowAnswer con (negated ts) row_bound domains boxes answer → IsAnswer con domains boxes answer
zero_answer_done con x ts bound row_bound domains boxes answer e f m d b n lacks a =
    answer_from con (negated ts) row_bound domains boxes answer a
    (λ t. subst (λ (k : Con). quiet k boxes ≡ true) (sym e) (quiet_zero x ts bound row_bound domains boxes m d b n f lacks t))

tight_from : (con : Con) (ts : List (ℤ × ℕ)) (bound : ℤ) (domains boxes : Boxes) (answer : Option Literals) → answer ≡ None → IsRowAnswer con ts bound domains boxes answer → IsTight ts boxes bound
tight_from con ts bound domains boxes answer e a = subst (λ (o : Option Literals). IsRowAnswer con ts bound domains boxes o) e a

sum_from : (con : Con) (ts : List (ℤ × ℕ)) (bound : ℤ) (domains boxes : Boxes) (answer : Option Literals) → answer ≡ None → IsSumAnswer con ts bound domains boxes answer → least_sum ts boxes ≤ℤ bound
sum_from con ts bound domains boxes answer e a = subst (λ (o : Option Literals). IsSumAnswer con ts bound domains boxes o) e a

pub sum_answer_done : (con : Con) (x : ℕ) (ts : List (ℤ × ℕ)) (offset up_bound down_bound : ℤ) (domains boxes : Boxes) (up down : Option Literals) → con ≡ LinDef x ts offset → up_bound ≡ pos 0 -ℤ offset → down_bound ≡ offset →
    IsWellMadeCon domains (LinDef x ts offset) → AreBoxesWithin domains boxes → no_repeat (x ∷ term_vars ts) ≡ true → up ≡ None → IsRowAnswer con ((negsuc 0, x) ∷ ts) up_bound domains boxes up →
    IsRowAnswer con ((pos 1, x) ∷ negated ts) down_bound domains boxes down → IsAnswer con domains boxes down
sum_answer_done con x ts offset up_bound down_bound domains boxes up down e f g m b n h u d =
    let tight = tight_from con ((negsuc 0, x) ∷ ts) up_bound domains boxes up h u in
    answer_from con ((pos 1, x) ∷ negated ts) down_bound domains boxes down d
    (λ t. subst (λ (k : Con). quiet k boxes ≡ true) (sym e)
    (quiet_def x ts offset up_bound domains boxes m b n f tight (subst (λ (z : ℤ). IsTight ((pos 1, x) ∷ negated ts) boxes z) g t)))

pub flag_answer_done : (con : Con) (x : ℕ) (ts : List (ℤ × ℕ)) (bound one_bound zero_bound : ℤ) (domains boxes : Boxes) (one nil : Option Literals) → con ≡ ReifLe x ts bound → one_bound ≡ bound → zero_bound ≡ negsuc 0 -ℤ bound →
    IsWellMadeCon domains (ReifLe x ts bound) → All (λ d. IsValid d) domains → AreBoxesWithin domains boxes → no_repeat (x ∷ term_vars ts) ≡ true → has (box_of boxes x) (pos 0) ≡ true → has (box_of boxes x) (pos 1) ≡ true →
    one ≡ None → IsSumAnswer con ts one_bound domains boxes one → IsSumAnswer con (negated ts) zero_bound domains boxes nil → IsAnswer con domains boxes nil
flag_answer_done con x ts bound one_bound zero_bound domains boxes one nil e f g m d b n p q h u a =
    let least = sum_from con ts one_bound domains boxes one h u in
    sum_answer_from con (negated ts) zero_bound domains boxes nil a
    (λ t. subst (λ (k : Con). quiet k boxes ≡ true) (sym e) (quiet_open x ts bound zero_bound domains boxes m d b n g p q (subst (λ (z : ℤ). least_sum ts boxes ≤ℤ z) f least) t))

pub open_one : (x : ℕ) (boxes : Boxes) → IsValid (box_of boxes x) → has (box_of boxes x) (pos 1) ≡ true → is_within (box_of boxes x) ((pos 0, pos 0) ∷ []) ≡ false
open_one x boxes f h = not_alone (box_of boxes x) (pos 0) (pos 1) f (omega (arith, ints), omega (arith, ints), omega (arith, ints)) (λ e. absurd (omega (arith, ints))) h

pub open_zero : (x : ℕ) (boxes : Boxes) → IsValid (box_of boxes x) → has (box_of boxes x) (pos 0) ≡ true → is_within (box_of boxes x) ((pos 1, pos 1) ∷ []) ≡ false
open_zero x boxes f h = not_alone (box_of boxes x) (pos 1) (pos 0) f (omega (arith, ints), omega (arith, ints), omega (arith, ints)) (λ e. absurd (omega (arith, ints))) h
