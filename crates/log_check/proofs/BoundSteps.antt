-- The empty clause among clauses with one more.
use Rattle.std.proofs.Common.{◌≡◌, true, false, ◌||◌, List, [], ◌∷◌, ◌++◌, refl}
use Rattle.signed_clause.specs.Ranges.{is_nil}
use Rattle.signed_clause.specs.Clauses.{Literals}
use Rattle.log_form.specs.Acceptance.{has_empty}

pub has_empty_more : (cs : List Literals) (c : Literals) → has_empty (cs ++ c ∷ []) ≡ (has_empty cs || is_nil c)
has_empty_more [] c = (elim (is_nil c) as (λ b. (b || false) ≡ b) [ true ↦ refl | false ↦ refl ])
has_empty_more (d ∷ cs) c =
    elim (is_nil d) as (λ b. (b || has_empty (cs ++ c ∷ [])) ≡ ((b || has_empty cs) || is_nil c)) [ true ↦ refl | false ↦ has_empty_more cs c ]
