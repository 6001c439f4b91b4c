-- Literals that keep variables out of what is left of them.
use Rattle.std.proofs.Common.{◌≡◌, ℕ, zero, suc, Bool, true, false, not, ◌||◌, cond, List, [], ◌∷◌, ◌++◌, All, refl, arith, subst, sym, ◌∙◌}
use Rattle.std.specs.Prelude.{◌==◌}
use Rattle.std.proofs.lemmas.Bool.Decides.{nat_tests}
use Rattle.std.proofs.lemmas.Bool.{and_parts, false_from_ne_true}
use Rattle.signed_clause.specs.Ranges.{Ranges, is_nil}
use Rattle.signed_clause.specs.SetAlgebra.{less}
use Rattle.signed_clause.specs.Clauses.{Boxes, Literals, box_of, set_of}
use Rattle.ground_form.specs.Meaning.{clause_vars}
use Rattle.rule_law.specs.Reasons.{has_number, no_repeat, kept_one, kept}

pub one_append : (x : ℕ) (s : Ranges) (rest : Literals) → kept_one x s [] ++ rest ≡ kept_one x s rest
one_append x s rest = elim (is_nil s) as (λ t. cond t [] ((x, s) ∷ []) ++ rest ≡ cond t rest ((x, s) ∷ rest)) [ true ↦ refl | false ↦ refl ]

head_stands : (x : ℕ) (xs : List ℕ) → has_number x (x ∷ xs) ≡ true
head_stands x xs = let e : (x == x) ≡ true = grind (arith, nat_tests) in rw e refl

tail_stands : (y x : ℕ) (xs : List ℕ) → has_number y xs ≡ true → has_number y (x ∷ xs) ≡ true
tail_stands y x xs h = grind arith

-- ---- what holds of each literal

abbrev Each : (ℕ → Ranges → Type 0) → Literals → Type 0
Each P ls = All (λ l. P l.0 l.1) ls

each_first : (P : ℕ → Ranges → Type 0) (x : ℕ) (s : Ranges) (rest : Literals) → P x s → Each P rest → Each P ((x, s) ∷ rest)
each_first P x s rest h r zero d lt = h
each_first P x s rest h r (suc k) d lt = r k d (omega arith)

each_one : (P : ℕ → Ranges → Type 0) (x : ℕ) (s : Ranges) (rest : Literals) → (is_nil s ≡ false → P x s) → Each P rest → Each P (kept_one x s rest)
each_one P x s rest h r =
    (elim (is_nil s) as (λ t. is_nil s ≡ t → Each P (cond t rest ((x, s) ∷ rest))) [ true ↦ λ e. r | false ↦ λ e. each_first P x s rest (h e) r ]) refl

pub each_kept : (P : ℕ → Ranges → Type 0) (domains : Boxes) (leaves : ℕ → Ranges) (xs : List ℕ) →
    ((x : ℕ) → has_number x xs ≡ true → is_nil (less (box_of domains x) (leaves x)) ≡ false → P x (less (box_of domains x) (leaves x))) → Each P (kept domains leaves xs)
each_kept P domains leaves [] h k d lt = absurd (omega arith)
each_kept P domains leaves (x ∷ xs) h k d lt =
    each_one P x (less (box_of domains x) (leaves x)) (kept domains leaves xs) (h x (head_stands x xs)) (each_kept P domains leaves xs (λ y q. h y (tail_stands y x xs q))) k d lt

-- ---- no variable stands twice

one_vars : (x y : ℕ) (s : Ranges) (rest : Literals) → has_number y (clause_vars (kept_one x s rest)) ≡ true → (x == y || has_number y (clause_vars rest)) ≡ true
one_vars x y s rest = elim (is_nil s) as (λ t. has_number y (clause_vars (cond t rest ((x, s) ∷ rest))) ≡ true → (x == y || has_number y (clause_vars rest)) ≡ true) [ true ↦ λ h. (let k = h in grind arith) | false ↦ λ h. h ]

kept_vars : (domains : Boxes) (leaves : ℕ → Ranges) (xs : List ℕ) (y : ℕ) → has_number y (clause_vars (kept domains leaves xs)) ≡ true → has_number y xs ≡ true
kept_vars domains leaves [] y h = h
kept_vars domains leaves (x ∷ xs) y h =
    let one = one_vars x y (less (box_of domains x) (leaves x)) (kept domains leaves xs) h in
    let more = kept_vars domains leaves xs y in grind arith

one_differ : (x : ℕ) (s : Ranges) (rest : Literals) → has_number x (clause_vars rest) ≡ false → no_repeat (clause_vars rest) ≡ true → no_repeat (clause_vars (kept_one x s rest)) ≡ true
one_differ x s rest h k = elim (is_nil s) as (λ t. no_repeat (clause_vars (cond t rest ((x, s) ∷ rest))) ≡ true) [ true ↦ k | false ↦ grind arith ]

pub kept_differ : (domains : Boxes) (leaves : ℕ → Ranges) (xs : List ℕ) → no_repeat xs ≡ true → no_repeat (clause_vars (kept domains leaves xs)) ≡ true
kept_differ domains leaves [] h = refl
kept_differ domains leaves (x ∷ xs) h =
    let parts = and_parts (not (has_number x xs)) (no_repeat xs) h in
    one_differ x (less (box_of domains x) (leaves x)) (kept domains leaves xs)
    (false_from_ne_true (has_number x (clause_vars (kept domains leaves xs))) (λ q. let there = kept_vars domains leaves xs x q in grind arith)) (kept_differ domains leaves xs parts.1)

-- ---- the set of a variable

one_set_here : (x : ℕ) (s : Ranges) (rest : Literals) → (is_nil s ≡ true → set_of rest x ≡ []) → set_of (kept_one x s rest) x ≡ s
one_set_here x [] rest h = h refl
one_set_here x (r ∷ s) rest h = let e : (x == x) ≡ true = grind (arith, nat_tests) in rw e refl

one_set_other : (x y : ℕ) (s : Ranges) (rest : Literals) → (x == y) ≡ false → set_of (kept_one x s rest) y ≡ set_of rest y
one_set_other x y s rest h = elim (is_nil s) as (λ t. set_of (cond t rest ((x, s) ∷ rest)) y ≡ set_of rest y) [ true ↦ refl | false ↦ rw h refl ]

pub kept_none : (domains : Boxes) (leaves : ℕ → Ranges) (xs : List ℕ) (y : ℕ) → has_number y xs ≡ false → set_of (kept domains leaves xs) y ≡ []
kept_none domains leaves [] y h = refl
kept_none domains leaves (x ∷ xs) y h =
    let other : (x == y) ≡ false = grind arith in let rest : has_number y xs ≡ false = grind arith in
    one_set_other x y (less (box_of domains x) (leaves x)) (kept domains leaves xs) other ∙ kept_none domains leaves xs y rest

nil_is : (s : Ranges) → is_nil s ≡ true → s ≡ []
nil_is [] h = refl
nil_is (r ∷ s) h = absurd cc

kept_rest : (domains : Boxes) (leaves : ℕ → Ranges) (xs : List ℕ) (y : ℕ) → is_nil (less (box_of domains y) (leaves y)) ≡ true → set_of (kept domains leaves xs) y ≡ []
kept_rest domains leaves [] y n = refl
kept_rest domains leaves (x ∷ xs) y n =
    let P : Bool → Type 0 = λ t. (x == y) ≡ t → set_of (kept domains leaves (x ∷ xs)) y ≡ [] in
    (elim (x == y) as P [
      | true ↦ λ e. let same : x ≡ y = grind (arith, nat_tests) in
          let none : is_nil (less (box_of domains x) (leaves x)) ≡ true = subst (λ (z : ℕ). is_nil (less (box_of domains z) (leaves z)) ≡ true) (sym same) n in
          rw none (kept_rest domains leaves xs y n)
      | false ↦ λ e. one_set_other x y (less (box_of domains x) (leaves x)) (kept domains leaves xs) e ∙ kept_rest domains leaves xs y n
    ]) refl

pub kept_set : (domains : Boxes) (leaves : ℕ → Ranges) (xs : List ℕ) (y : ℕ) → has_number y xs ≡ true → set_of (kept domains leaves xs) y ≡ less (box_of domains y) (leaves y)
kept_set domains leaves [] y h = absurd (grind arith)
kept_set domains leaves (x ∷ xs) y h =
    let P : Bool → Type 0 = λ t. (x == y) ≡ t → set_of (kept domains leaves (x ∷ xs)) y ≡ less (box_of domains y) (leaves y) in
    (elim (x == y) as P [
      | true ↦ λ e. let same : x ≡ y = grind (arith, nat_tests) in
          subst (λ (z : ℕ). set_of (kept domains leaves (x ∷ xs)) z ≡ less (box_of domains z) (leaves z)) same
          (one_set_here x (less (box_of domains x) (leaves x)) (kept domains leaves xs) (λ n. kept_rest domains leaves xs x n))
      | false ↦ λ e. let rest : has_number y xs ≡ true = grind arith in one_set_other x y (less (box_of domains x) (leaves x)) (kept domains leaves xs) e ∙ kept_set domains leaves xs y rest
    ]) refl
