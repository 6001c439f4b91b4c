-- Literals of different variables, one added after another.
use Rattle.std.proofs.Common.{◌≡◌, ℕ, suc, zero, ◌<◌, ◌==◌, Bool, true, false, not, ◌&&◌, ◌||◌, cond, is_some, Some, None, List, [], ◌∷◌, ◌++◌, ℤ, length, get_or, refl, ap, sym, ◌∙◌, arith}
use Rattle.std.proofs.lemmas.Bool.{and_parts}
use Rattle.signed_clause.specs.Ranges.{Ranges, IsValid}
use Rattle.signed_clause.specs.SetAlgebra.{is_disjoint, is_within, less, meet}
use Rattle.signed_clause.specs.Clauses.{Boxes, Literal, Literals, box_of, set_of, has_var, false_in, unit_of, alone_of}
use Rattle.ground_form.specs.Meaning.{clause_vars, term_vars}
use Rattle.ground_form.specs.Bounds.{least_sum}
use Rattle.box_view.specs.Views.{cut}
use Rattle.box_rules.specs.Named.{Agree}
use Rattle.rule_law.specs.Reasons.{has_number, no_repeat, Acts}
use Rattle.box_rules.proofs.Agreeing.{agree_least}
use Rattle.box_view.proofs.CutLaws.{cut_box, kept_box}
use Rattle.rule_law.proofs.Keeping.{acts_next, acts_first, false_append}

-- ---- numbers in lists

pub number_append : (x : ℕ) (xs ys : List ℕ) → has_number x (xs ++ ys) ≡ (has_number x xs || has_number x ys)
number_append x [] ys = refl
number_append x (y ∷ xs) ys = let more = number_append x xs ys in grind arith

pub repeat_push : (x : ℕ) (xs : List ℕ) → no_repeat xs ≡ true → has_number x xs ≡ false → no_repeat (xs ++ x ∷ []) ≡ true
repeat_push x [] h n = refl
repeat_push x (y ∷ xs) h n =
    let p = and_parts (not (has_number y xs)) (no_repeat xs) h in
    let more = repeat_push x xs p.1 in
    let e = number_append y xs (x ∷ []) in grind arith

pub split_number : (x : ℕ) (xs ys : List ℕ) → no_repeat (xs ++ x ∷ ys) ≡ true → (has_number x xs ≡ false) × (has_number x ys ≡ false)
split_number x [] ys h = let p = and_parts (not (has_number x ys)) (no_repeat ys) h in (refl, grind arith)
split_number x (y ∷ xs) ys h =
    let p = and_parts (not (has_number y (xs ++ x ∷ ys))) (no_repeat (xs ++ x ∷ ys)) h in
    let more = split_number x xs ys p.1 in
    let e = number_append y xs (x ∷ ys) in
    let one = more.0 in (grind arith, more.1)

pub vars_append : (xs ys : List (ℤ × ℕ)) → term_vars (xs ++ ys) ≡ term_vars xs ++ term_vars ys
vars_append [] ys = refl
vars_append (t ∷ xs) ys = ap (λ (zs : List ℕ). t.1 ∷ zs) (vars_append xs ys)

pub other_var : (x : ℕ) (ts : List (ℤ × ℕ)) (k : ℕ) (d : ℤ × ℕ) → has_number x (term_vars ts) ≡ false → k < length ts → (x == (get_or ts k d).1) ≡ false
other_var x [] k d h lt = absurd (omega arith)
other_var x (t ∷ ts) zero d h lt = grind arith
other_var x (t ∷ ts) (suc k) d h lt = let rest : has_number x (term_vars ts) ≡ false = grind arith in other_var x ts k d rest (omega arith)

pub var_other : (x : ℕ) (ts : List (ℤ × ℕ)) (k : ℕ) (d : ℤ × ℕ) → has_number x (term_vars ts) ≡ false → k < length ts → ((get_or ts k d).1 == x) ≡ false
var_other x [] k d h lt = absurd (omega arith)
var_other x (t ∷ ts) zero d h lt = grind arith
var_other x (t ∷ ts) (suc k) d h lt = let rest : has_number x (term_vars ts) ≡ false = grind arith in var_other x ts k d rest (omega arith)

-- ---- one literal more

pub vars_push : (out : Literals) (l : Literal) → clause_vars (out ++ l ∷ []) ≡ clause_vars out ++ l.0 ∷ []
vars_push [] l = refl
vars_push (m ∷ out) l = ap (λ (xs : List ℕ). m.0 ∷ xs) (vars_push out l)

set_other : (out : Literals) (l : Literal) (y : ℕ) → (l.0 == y) ≡ false → set_of (out ++ l ∷ []) y ≡ set_of out y
set_other [] l y h = rw h refl
set_other (m ∷ out) l y h = ap (λ (s : Ranges). cond (m.0 == y) m.1 s) (set_other out l y h)

set_same : (out : Literals) (l : Literal) → has_number l.0 (clause_vars out) ≡ false → set_of (out ++ l ∷ []) l.0 ≡ l.1
set_same [] l h = let e : (l.0 == l.0) ≡ true = grind arith in rw e refl
set_same (m ∷ out) l h =
    let no : (m.0 == l.0) ≡ false = grind arith in
    let rest : has_number l.0 (clause_vars out) ≡ false = grind arith in
    rw no (set_same out l rest)

var_test : (out : Literals) (x : ℕ) → has_var out x ≡ has_number x (clause_vars out)
var_test [] x = refl
var_test (l ∷ out) x = ap (λ b. l.0 == x || b) (var_test out x)

-- ---- what is left of the domains

pub cut_fresh : (ds : Boxes) (out : Literals) (x : ℕ) → IsValid (box_of ds x) → has_number x (clause_vars out) ≡ false → box_of (cut ds out) x ≡ box_of ds x
cut_fresh ds out x f h = kept_box ds out x f (var_test out x ∙ h)

pub cut_same : (ds : Boxes) (out : Literals) (l : Literal) → has_number l.0 (clause_vars out) ≡ false → box_of (cut ds (out ++ l ∷ [])) l.0 ≡ less (box_of ds l.0) l.1
cut_same ds out l h = cut_box ds (out ++ l ∷ []) l.0 ∙ ap (λ (s : Ranges). less (box_of ds l.0) s) (set_same out l h)

pub cut_other : (ds : Boxes) (out : Literals) (l : Literal) (y : ℕ) → (l.0 == y) ≡ false → box_of (cut ds (out ++ l ∷ [])) y ≡ box_of (cut ds out) y
cut_other ds out l y h = cut_box ds (out ++ l ∷ []) y ∙ ap (λ (s : Ranges). less (box_of ds y) s) (set_other out l y h) ∙ sym (cut_box ds out y)

pub cut_agree : (xs : List ℕ) (ds : Boxes) (out : Literals) (l : Literal) → has_number l.0 xs ≡ false → Agree (cut ds (out ++ l ∷ [])) (cut ds out) xs
cut_agree [] ds out l h = tt
cut_agree (x ∷ xs) ds out l h =
    let no : (l.0 == x) ≡ false = grind arith in
    let rest : has_number l.0 xs ≡ false = grind arith in
    (cut_other ds out l x no, cut_agree xs ds out l rest)

pub sum_push : (ts : List (ℤ × ℕ)) (ds : Boxes) (out : Literals) (l : Literal) → has_number l.0 (term_vars ts) ≡ false →
    least_sum ts (cut ds (out ++ l ∷ [])) ≡ least_sum ts (cut ds out)
sum_push ts ds out l h = agree_least ts (cut ds (out ++ l ∷ [])) (cut ds out) (cut_agree (term_vars ts) ds out l h)

-- ---- what acts

-- the tests of a list's acting, by what the first literal's test is
act_test : Boxes → Literal → Literals → Bool → Bool
act_test boxes l ls m = (m && false_in boxes ls) || is_some (cond m (unit_of boxes ls) (alone_of boxes l ls))

some_cond : (b : Bool) (u : Literal) → is_some (cond b (Some u) None) ≡ b
some_cond true u = refl
some_cond false u = refl

pub false_push : (boxes : Boxes) (out : Literals) (l : Literal) → false_in boxes out ≡ true → is_disjoint l.1 (box_of boxes l.0) ≡ true → false_in boxes (out ++ l ∷ []) ≡ true
false_push boxes out l h m = false_append boxes out (l ∷ []) h (grind arith)

push_at : (boxes : Boxes) (m : Literal) (ls : Literals) (l : Literal) (b : Bool) → is_disjoint m.1 (box_of boxes m.0) ≡ b → act_test boxes m ls b ≡ true → is_disjoint l.1 (box_of boxes l.0) ≡ true →
    (Acts boxes ls → Acts boxes (ls ++ l ∷ [])) → Acts boxes (m ∷ ls ++ l ∷ [])
unfolding act_test
push_at boxes m ls l true e h k more = acts_next boxes m (ls ++ l ∷ []) e (more h)
push_at boxes m ls l false e h k more =
    let both : (false_in boxes ls && not (is_within (box_of boxes m.0) m.1)) ≡ true =
    sym (some_cond (false_in boxes ls && not (is_within (box_of boxes m.0) m.1)) (m.0, meet m.1 (box_of boxes m.0))) ∙ h in
    let p = and_parts (false_in boxes ls) (not (is_within (box_of boxes m.0) m.1)) both in
    let out : is_within (box_of boxes m.0) m.1 ≡ false = let q = p.1 in grind arith in
    acts_first boxes m (ls ++ l ∷ []) (false_push boxes ls l p.0 k) out

pub acts_push : (boxes : Boxes) (ls : Literals) (l : Literal) → Acts boxes ls → is_disjoint l.1 (box_of boxes l.0) ≡ true → Acts boxes (ls ++ l ∷ [])
unfolding act_test
acts_push boxes [] l h k = acts_next boxes l [] k h
acts_push boxes (m ∷ ls) l h k = push_at boxes m ls l (is_disjoint m.1 (box_of boxes m.0)) refl h k (λ a. acts_push boxes ls l a k)
