-- Clauses that are the same.
use Rattle.std.proofs.Common.{◌≡◌, ◌↔◌, IsTrue, Bool, true, false, refl, sym, subst}
use Rattle.signed_clause.specs.Clauses.{Literals}
use Rattle.log_form.specs.Acceptance.{same_clause}
use Rattle.log_check.proofs.Steps.{same_clause-equal, same_clause-self}

pub same_is : (r : Bool) (c d : Literals) → (IsTrue r ↔ (c ≡ d)) → r ≡ same_clause c d
same_is true c d h =
    let e = h.0 refl in
    sym (subst (λ (z : Literals). same_clause c z ≡ true) e (same_clause-self c))
same_is false c d h =
    elim (same_clause c d) as (λ b. same_clause c d ≡ b → false ≡ b) [
      | true ↦ λ e. let wrong = h.1 (same_clause-equal c d e) in wrong
      | false ↦ λ e. refl
    ] refl
