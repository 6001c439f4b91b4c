-- A clause with one more literal is a clause.
use Rattle.std.proofs.Common.{◌≡◌, ℕ, suc, ◌<◌, ◌≤◌, true, false, cond, [], ◌∷◌, refl, arith, subst, nat_lt, ◌==◌}
use Rattle.std.proofs.lemmas.Bool.{ltb-true, ltb-false, eqb-true, eqb-false}
use Rattle.signed_clause.specs.Ranges.{Ranges, IsValid, is_nil}
use Rattle.signed_clause.specs.SetAlgebra.{join}
use Rattle.signed_clause.specs.Clauses.{Literals, IsClauseFrom}
use Rattle.signed_clause.proofs.ClauseLaws.{join-some}
use Rattle.signed_clause.proofs.RangeSteps.{IsValid-join}
use Rattle.log_form.specs.Acceptance.{with_literal}

pub with_form : (n : ℕ) (x : ℕ) (s : Ranges) (c : Literals) → n ≤ x → IsValid s → IsClauseFrom n c → IsClauseFrom n (with_literal x s c)
with_form n x s [] h v f =
    elim (is_nil s) as (λ b. is_nil s ≡ b → IsClauseFrom n (cond b [] ((x, s) ∷ []))) [ true ↦ λ e. tt | false ↦ λ e. (h, e, v, tt) ] refl
with_form n x s (l ∷ c) h v f =
    elim (is_nil s) as (λ b. is_nil s ≡ b → IsClauseFrom n (cond b (l ∷ c) (cond (nat_lt x l.0) ((x, s) ∷ l ∷ c) (cond (l.0 == x) ((x, join l.1 s) ∷ c) (l ∷ with_literal x s c))))) [
      | true ↦ λ e. f
      | false ↦ λ e. (elim (nat_lt x l.0) as (λ b. nat_lt x l.0 ≡ b → IsClauseFrom n (cond b ((x, s) ∷ l ∷ c) (cond (l.0 == x) ((x, join l.1 s) ∷ c) (l ∷ with_literal x s c)))) [
        | true ↦ λ p. let lt = ltb-true x l.0 p in (h, e, v, (omega arith, f.1, f.2, f.3))
        | false ↦ λ p. (elim (l.0 == x) as (λ b. l.0 == x ≡ b → IsClauseFrom n (cond b ((x, join l.1 s) ∷ c) (l ∷ with_literal x s c))) [
          | true ↦ λ q. let same = eqb-true l.0 x q in (h, join-some l.1 s f.1, IsValid-join l.1 s f.2 v, subst (λ (m : ℕ). IsClauseFrom (suc m) c) same f.3)
          | false ↦ λ q. let apart = eqb-false l.0 x q in let ge = ltb-false x l.0 p in (f.0, f.1, f.2, with_form (suc l.0) x s c (omega arith) v f.3)
        ]) refl
      ]) refl
    ] refl
