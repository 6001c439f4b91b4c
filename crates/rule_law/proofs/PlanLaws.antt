-- A plan whose boxes the constraint's rule excludes, and which acts, gives a reason.
use Rattle.std.proofs.Common.{◌≡◌, ℕ, ◌<◌, Bool, true, false, not, ◌&&◌, ◌||◌, cond, List, [], ◌∷◌, ◌++◌, ℤ, Option, Some, None, length, All, refl, arith, subst, ap, ◌∙◌}
use Rattle.std.specs.Prelude.{is_some, ◌==◌}
use Rattle.std.proofs.lemmas.Bool.{and_parts, and_from, false_from_ne_true}
use Rattle.std.proofs.lemmas.Bool.Decides.{nat_tests}
use Rattle.std.proofs.lemmas.List.Elements.{All-cons, All-nil}
use Rattle.signed_clause.specs.Ranges.{Ranges, has, is_nil, IsValid}
use Rattle.signed_clause.specs.SetAlgebra.{is_disjoint, is_within, less}
use Rattle.signed_clause.specs.Clauses.{Boxes, Literal, Literals, box_of, set_of, false_in, unit_of, alone_of}
use Rattle.signed_clause.proofs.RangeSteps.{IsValid-less}
use Rattle.ground_form.specs.declared.con.Con.{Con}
use Rattle.ground_form.specs.Meaning.{vars_of, clause_vars}
use Rattle.box_rules.specs.Refuted.{some_empty, excluded}
use Rattle.box_view.specs.Views.{cut}
use Rattle.rule_law.specs.Reasons.{has_number, no_repeat, Acts, IsReason, kept_one}
use Rattle.box_view.proofs.EndLaws.{AreSets}
use Rattle.box_view.proofs.CutLaws.{cut_box}
use Rattle.rule_law.specs.Plans.{literals_of}
use Rattle.box_view.proofs.Leaving.{left_is, left_disjoint, left_open}

-- each variable exists, and what is left of it lies within its domain
abbrev pub ArePlanned : Boxes → ℕ → Literals → Type 0
ArePlanned domains n [] = Unit {0}
ArePlanned domains n (e ∷ es) = (e.0 < n) × IsValid e.1 × (is_within e.1 (box_of domains e.0) ≡ true) × ArePlanned domains n es

-- the boxes are what is left
abbrev pub Leaves : Boxes → Literals → Type 0
Leaves boxes [] = Unit {0}
Leaves boxes (e ∷ es) = (box_of boxes e.0 ≡ e.1) × Leaves boxes es

-- the boxes lie within what is left
abbrev pub AllLeft : Boxes → Literals → Type 0
AllLeft boxes [] = Unit {0}
AllLeft boxes (e ∷ es) = (is_within (box_of boxes e.0) e.1 ≡ true) × AllLeft boxes es

-- ---- a list with or without a literal

all_kept : (P : ℕ × List (ℤ × ℤ) → Type 0) (x : ℕ) (s : Ranges) (rest : Literals) → (is_nil s ≡ false → P (x, s)) → All P rest → All P (kept_one x s rest)
all_kept P x [] rest h k = k
all_kept P x (r ∷ s) rest h k = All-cons P (x, r ∷ s) rest (h refl) k

not_in_kept : (x y : ℕ) (s : Ranges) (rest : Literals) → (y == x) ≡ false → has_number x (clause_vars rest) ≡ false → has_number x (clause_vars (kept_one y s rest)) ≡ false
not_in_kept x y [] rest h k = k
not_in_kept x y (r ∷ s) rest h k = rw (h, k) refl

kept_differ : (x : ℕ) (s : Ranges) (rest : Literals) → has_number x (clause_vars rest) ≡ false → no_repeat (clause_vars rest) ≡ true → no_repeat (clause_vars (kept_one x s rest)) ≡ true
kept_differ x [] rest h k = k
kept_differ x (r ∷ s) rest h k = rw (h, k) refl

same_number : (x : ℕ) → (x == x) ≡ true
same_number x = grind (arith, nat_tests)

set_none : (ls : Literals) (x : ℕ) → has_number x (clause_vars ls) ≡ false → set_of ls x ≡ []
set_none [] x h = refl
set_none (l ∷ ls) x h =
    let this : (l.0 == x) ≡ false = grind arith in
    let rest : has_number x (clause_vars ls) ≡ false = grind arith in
    rw this (set_none ls x rest)

kept_set_same : (x : ℕ) (s : Ranges) (rest : Literals) → has_number x (clause_vars rest) ≡ false → set_of (kept_one x s rest) x ≡ s
kept_set_same x [] rest h = set_none rest x h
kept_set_same x (r ∷ s) rest h = rw (same_number x) refl

kept_set_other : (y x : ℕ) (s : Ranges) (rest : Literals) → (y == x) ≡ false → set_of (kept_one y s rest) x ≡ set_of rest x
kept_set_other y x [] rest h = refl
kept_set_other y x (r ∷ s) rest h = rw h refl

kept_false : (boxes : Boxes) (x : ℕ) (s : Ranges) (rest : Literals) → is_disjoint s (box_of boxes x) ≡ true → false_in boxes rest ≡ true → false_in boxes (kept_one x s rest) ≡ true
kept_false boxes x [] rest h k = k
kept_false boxes x (r ∷ s) rest h k = and_from (is_disjoint (r ∷ s) (box_of boxes x)) (false_in boxes rest) h k

tail_acts : (m f : Bool) (u v : Option (ℕ × List (ℤ × ℤ))) → m ≡ true → (f || is_some u) ≡ true → ((m && f) || is_some (cond m u v)) ≡ true
tail_acts true f u v h k = k
tail_acts false f u v h k = absurd cc

head_acts : (m f i : Bool) (u : Option (ℕ × List (ℤ × ℤ))) (v : ℕ × List (ℤ × ℤ)) → f ≡ true → i ≡ false → ((m && f) || is_some (cond m u (cond (f && not i) (Some v) None))) ≡ true
head_acts true true false u v h k = refl
head_acts false true false u v h k = refl
head_acts m true true u v h k = absurd cc
head_acts m false i u v h k = absurd cc

kept_acts_tail : (boxes : Boxes) (x : ℕ) (s : Ranges) (rest : Literals) → is_disjoint s (box_of boxes x) ≡ true → Acts boxes rest → Acts boxes (kept_one x s rest)
kept_acts_tail boxes x [] rest h k = k
kept_acts_tail boxes x (r ∷ s) rest h k =
    tail_acts (is_disjoint (r ∷ s) (box_of boxes x)) (false_in boxes rest) (unit_of boxes rest) (alone_of boxes (x, r ∷ s) rest) h k

kept_acts_head : (boxes : Boxes) (x : ℕ) (s : Ranges) (rest : Literals) → is_within (box_of boxes x) s ≡ false → false_in boxes rest ≡ true → Acts boxes (kept_one x s rest)
kept_acts_head boxes x [] rest h k = rw k refl
kept_acts_head boxes x (r ∷ s) rest h k =
    head_acts (is_disjoint (r ∷ s) (box_of boxes x)) (false_in boxes rest) (is_within (box_of boxes x) (r ∷ s)) (unit_of boxes rest) _ k h

pub kept_first : (x : ℕ) (s : Ranges) (rest : Literals) → (kept_one x s [] ++ rest) ≡ kept_one x s rest
kept_first x [] rest = refl
kept_first x (r ∷ s) rest = refl

pub kept_push : (before : Literals) (x : ℕ) (s : Ranges) (rest : Literals) → ((before ++ kept_one x s []) ++ rest) ≡ before ++ kept_one x s rest
kept_push [] x s rest = kept_first x s rest
kept_push (l ∷ before) x s rest = ap (λ (ls : Literals). l ∷ ls) (kept_push before x s rest)

pub nothing_behind : (ls : Literals) → (ls ++ []) ≡ ls
nothing_behind [] = refl
nothing_behind (l ∷ ls) = ap (λ (ms : Literals). l ∷ ms) (nothing_behind ls)

-- ---- the literals of a plan

plan_named : (domains : Boxes) (n : ℕ) (plan : Literals) → ArePlanned domains n plan → All (λ l. l.0 < n) (literals_of domains plan)
plan_named domains n [] p = All-nil (λ (l : ℕ × List (ℤ × ℤ)). l.0 < n)
plan_named domains n (e ∷ es) p =
    all_kept (λ l. l.0 < n) e.0 (less (box_of domains e.0) e.1) (literals_of domains es) (λ h. p.0) (plan_named domains n es p.3)

plan_some : (domains : Boxes) (plan : Literals) → All (λ l. is_nil l.1 ≡ false) (literals_of domains plan)
plan_some domains [] = All-nil (λ (l : ℕ × List (ℤ × ℤ)). is_nil l.1 ≡ false)
plan_some domains (e ∷ es) =
    all_kept (λ l. is_nil l.1 ≡ false) e.0 (less (box_of domains e.0) e.1) (literals_of domains es) (λ h. h) (plan_some domains es)

plan_sets : (domains : Boxes) (n : ℕ) (plan : Literals) → AreSets domains → ArePlanned domains n plan → All (λ l. IsValid l.1) (literals_of domains plan)
plan_sets domains n [] s p = All-nil (λ (l : ℕ × List (ℤ × ℤ)). IsValid l.1)
plan_sets domains n (e ∷ es) s p =
    all_kept (λ l. IsValid l.1) e.0 (less (box_of domains e.0) e.1) (literals_of domains es) (λ h. IsValid-less (box_of domains e.0) e.1 (s e.0) p.1) (plan_sets domains n es s p.3)

not_in_plan : (x : ℕ) (domains : Boxes) (plan : Literals) → has_number x (clause_vars plan) ≡ false → has_number x (clause_vars (literals_of domains plan)) ≡ false
not_in_plan x domains [] h = refl
not_in_plan x domains (e ∷ es) h =
    let this : (e.0 == x) ≡ false = grind arith in
    let rest : has_number x (clause_vars es) ≡ false = grind arith in
    not_in_kept x e.0 (less (box_of domains e.0) e.1) (literals_of domains es) this (not_in_plan x domains es rest)

not_true : (b : Bool) → not b ≡ true → b ≡ false
not_true true h = absurd cc
not_true false h = refl

plan_differ : (domains : Boxes) (plan : Literals) → no_repeat (clause_vars plan) ≡ true → no_repeat (clause_vars (literals_of domains plan)) ≡ true
plan_differ domains [] h = refl
plan_differ domains (e ∷ es) h =
    let parts = and_parts (not (has_number e.0 (clause_vars es))) (no_repeat (clause_vars es)) h in
    kept_differ e.0 (less (box_of domains e.0) e.1) (literals_of domains es) (not_in_plan e.0 domains es (not_true (has_number e.0 (clause_vars es)) parts.0)) (plan_differ domains es parts.1)

other_number : (x y : ℕ) (xs : List ℕ) → has_number x xs ≡ true → has_number y xs ≡ false → (y == x) ≡ false
other_number x y xs h k =
    false_from_ne_true (y == x) (λ q. let e : y ≡ x = grind (arith, nat_tests) in let n : has_number x xs ≡ false = subst (λ (z : ℕ). has_number z xs ≡ false) e k in grind arith)

-- ---- what is left where all literals are false

leaves_from : (domains : Boxes) (n : ℕ) (whole plan : Literals) → AreSets domains → ArePlanned domains n plan → no_repeat (clause_vars plan) ≡ true →
    ((x : ℕ) → has_number x (clause_vars plan) ≡ true → set_of whole x ≡ set_of (literals_of domains plan) x) → Leaves (cut domains whole) plan
leaves_from domains n whole [] s p d h = tt
leaves_from domains n whole (e ∷ es) s p d h =
    let domain = box_of domains e.0 in
    let parts = and_parts (not (has_number e.0 (clause_vars es))) (no_repeat (clause_vars es)) d in
    let gone = not_true (has_number e.0 (clause_vars es)) parts.0 in
    let here : has_number e.0 (clause_vars (e ∷ es)) ≡ true = rw (same_number e.0) refl in
    let set : set_of whole e.0 ≡ less domain e.1 = h e.0 here ∙ kept_set_same e.0 (less domain e.1) (literals_of domains es) (not_in_plan e.0 domains es gone) in
    let box : box_of (cut domains whole) e.0 ≡ e.1 = cut_box domains whole e.0 ∙ ap (λ (z : Ranges). less domain z) set ∙ left_is domain e.1 (s e.0) p.1 p.2 in (
      box,
      leaves_from domains n whole es s p.3 parts.1 (λ x k.
          let there : has_number x (clause_vars (e ∷ es)) ≡ true = grind arith in
          h x there ∙ kept_set_other e.0 x (less domain e.1) (literals_of domains es) (other_number x e.0 (clause_vars es) k gone)),
    )

pub plan_leaves : (domains : Boxes) (n : ℕ) (plan : Literals) → AreSets domains → ArePlanned domains n plan → no_repeat (clause_vars plan) ≡ true → Leaves (cut domains (literals_of domains plan)) plan
plan_leaves domains n plan s p d = leaves_from domains n (literals_of domains plan) plan s p d (λ x h. refl)

-- ---- a plan that acts

pub plan_false : (domains boxes : Boxes) (n : ℕ) (plan : Literals) → AreSets domains → AreSets boxes → ArePlanned domains n plan → AllLeft boxes plan → false_in boxes (literals_of domains plan) ≡ true
plan_false domains boxes n [] s t p l = refl
plan_false domains boxes n (e ∷ es) s t p l =
    kept_false boxes e.0 (less (box_of domains e.0) e.1) (literals_of domains es) (left_disjoint (box_of domains e.0) e.1 (box_of boxes e.0) (s e.0) p.1 (t e.0) l.0)
    (plan_false domains boxes n es s t p.3 l.1)

pub plan_acts_tail : (domains boxes : Boxes) (n : ℕ) (e : Literal) (es : Literals) → AreSets domains → AreSets boxes → ArePlanned domains n (e ∷ es) →
    is_within (box_of boxes e.0) e.1 ≡ true → Acts boxes (literals_of domains es) → Acts boxes (literals_of domains (e ∷ es))
plan_acts_tail domains boxes n e es s t p l h =
    kept_acts_tail boxes e.0 (less (box_of domains e.0) e.1) (literals_of domains es) (left_disjoint (box_of domains e.0) e.1 (box_of boxes e.0) (s e.0) p.1 (t e.0) l) h

pub plan_acts_over : (domains boxes : Boxes) (n : ℕ) (e : Literal) (es : Literals) → AreSets domains → AreSets boxes → ArePlanned domains n (e ∷ es) →
    is_within (box_of boxes e.0) (less (box_of domains e.0) e.1) ≡ false → AllLeft boxes es → Acts boxes (literals_of domains (e ∷ es))
plan_acts_over domains boxes n e es s t p o l =
    kept_acts_head boxes e.0 (less (box_of domains e.0) e.1) (literals_of domains es) o (plan_false domains boxes n es s t p.3 l)

pub plan_acts_head : (domains boxes : Boxes) (n : ℕ) (e : Literal) (es : Literals) (v : ℤ) → AreSets domains → AreSets boxes → ArePlanned domains n (e ∷ es) →
    has (box_of boxes e.0) v ≡ true → has e.1 v ≡ true → AllLeft boxes es → Acts boxes (literals_of domains (e ∷ es))
plan_acts_head domains boxes n e es v s t p h k l =
    plan_acts_over domains boxes n e es s t p (left_open (box_of domains e.0) e.1 (box_of boxes e.0) v (s e.0) p.1 (t e.0) h k) l

pub acts_never : (boxes : Boxes) → Acts boxes []
acts_never boxes = refl

-- ---- reasons

either_way : (e x : Bool) → x ≡ true → (e || x) ≡ true
either_way e x h = grind arith

pub plan_reason : (con : Con) (domains boxes : Boxes) (plan : Literals) → AreSets domains → ArePlanned domains (length boxes) plan → no_repeat (clause_vars plan) ≡ true →
    ((left : Boxes) → Leaves left plan → excluded con left ≡ true) → Acts boxes (literals_of domains plan) → IsReason con domains boxes (literals_of domains plan)
plan_reason con domains boxes plan s p d x a = record {
  named = plan_named domains (length boxes) plan p;
  differ = plan_differ domains plan d;
  some = plan_some domains plan;
  sets = plan_sets domains (length boxes) plan s p;
  follows = either_way (some_empty (vars_of con) (cut domains (literals_of domains plan))) (excluded con (cut domains (literals_of domains plan)))
      (x (cut domains (literals_of domains plan)) (plan_leaves domains (length boxes) plan s p d));
  acts = a;
}
