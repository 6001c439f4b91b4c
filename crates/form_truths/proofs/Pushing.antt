-- A disjunction with a truth more.
use Rattle.std.proofs.Common.{length, ◌+◌, ◌≤◌, ◌≡◌, ℕ, ◌<◌, Bool, true, false, ◌||◌, List, ℤ, refl, sym, ap, ◌∙◌, subst, arith}
use Rattle.signed_clause.specs.Ranges.{Ranges, has, IsValid}
use Rattle.signed_clause.specs.Clauses.{Literals, clause_true, IsClause}
use Rattle.ground_form.specs.Meaning.{value_of}
use Rattle.form_build.specs.declared.form.Truth.{Truth}
use Rattle.form_build.specs.declared.form.Truth.TheVariants.{In}
use Rattle.form_build.specs.Forms.{truth_at, HasVariable}
use Rattle.form_truths.specs.Disjunctions.{with_literal, disjunction_at, IsWithin}
use Rattle.form_truths.proofs.Inserting.{with_literal_true, with_literal_there, with_literal_length}

or_middle : (h p q : Bool) → (h || (p || q)) ≡ (p || (h || q))
or_middle true true q = refl
or_middle true false q = refl
or_middle false p q = refl

pub push_value : (h : Bool) (ls ms : Literals) (d : Bool × Literals) (x : ℕ) (s : Ranges) (t : Truth) (a : List ℤ) → (h, ls) ≡ d → t ≡ In x s → ms ≡ with_literal x s ls → IsClause ls → IsValid s → disjunction_at (h, ms) a ≡ (truth_at t a || disjunction_at d a)
push_value h ls ms d x s t a e f g c v =
    ap (λ (z : Literals). h || clause_true z a) g
    ∙ ap (λ (b : Bool). h || b) (with_literal_true x 0 s ls a c v)
    ∙ or_middle h (has s (value_of a x)) (clause_true ls a)
    ∙ ap (λ (u : Truth). truth_at u a || disjunction_at (h, ls) a) (sym f)
    ∙ ap (λ (z : Bool × Literals). truth_at t a || disjunction_at z a) e

pub push_there : (h : Bool) (ls ms : Literals) (d : Bool × Literals) (x : ℕ) (s : Ranges) (t : Truth) (n : ℕ) → (h, ls) ≡ d → t ≡ In x s → ms ≡ with_literal x s ls → HasVariable n t → IsWithin n d.1 → IsWithin n ms
push_there h ls ms d x s t n e f g there w =
    let lt : x < n = subst (λ (u : Truth). HasVariable n u) f there in
    let old : IsWithin n ls = subst (λ (z : Bool × Literals). IsWithin n z.1) (sym e) w in
    subst (λ (z : Literals). IsWithin n z) (sym g) (with_literal_there x n s ls lt old)

pub push_few : (h : Bool) (ls ms : Literals) (d : Bool × Literals) (x : ℕ) (s : Ranges) → (h, ls) ≡ d → ms ≡ with_literal x s ls → length ms ≤ length d.1 + 1
push_few h ls ms d x s e g =
    let more = with_literal_length x s ls in
    let here = ap (λ (z : Literals). length z) g in
    let there = ap (λ (z : Bool × Literals). length z.1) e in
    omega (arith, more, here, there)
