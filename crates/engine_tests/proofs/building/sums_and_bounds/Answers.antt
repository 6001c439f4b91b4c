use Rattle.std.proofs.Common.{◌≡◌, ℕ, ◌+◌, ◌^◌, ◌≤◌, List, [], ◌∷◌, ◌++◌, ℤ, pos, arith, sym, ap, ◌∙◌, subst}
use Rattle.signed_clause.specs.Ranges.{Ranges}
use Rattle.signed_clause.specs.Clauses.{Boxes}
use Rattle.ground_form.specs.declared.con.Con.TheVariants.{LinDef}
use Rattle.ground_form.specs.declared.ground.Ground.{Ground}
use Rattle.ground_form.specs.Bounds.{term_weight, least_term, greatest_term}
use Rattle.ground_build.specs.Growing.{over_cells, IsDefined}
use Rattle.ground_build.specs.NewDomains.{linear_domain}
use Rattle.engine_tests.proofs.building.sums_and_bounds.Goals as goal

-- the terms of the sum
abbrev Sum : List (ℤ × ℕ)
Sum = (pos 1, 0) ∷ (pos 2, 1) ∷ []

-- the sum of two values of 0..3 is at most 14
small : (g new : Ground) (x : ℕ) (r s : Ranges) → r ≡ (pos 0, pos 3) ∷ [] → s ≡ (pos 0, pos 3) ∷ [] → g ≡ over_cells (r ∷ s ∷ []) → IsDefined g new x (linear_domain Sum (pos 5) g.domains) (LinDef x Sum (pos 5)) →
    term_weight (pos 1, 2) new.domains + 0 ≤ 2 ^ 60
unfolding term_weight least_term greatest_term
small g new x r s er es eg d =
    let cells : g.domains ≡ ((pos 0, pos 3) ∷ []) ∷ ((pos 0, pos 3) ∷ []) ∷ [] = ap (λ (h : Ground). h.domains) eg ∙ ap (λ (z : Ranges). z ∷ s ∷ []) er ∙ ap (λ (z : Ranges). ((pos 0, pos 3) ∷ []) ∷ z ∷ []) es in
    let grown : new.domains ≡ ((pos 0, pos 3) ∷ []) ∷ ((pos 0, pos 3) ∷ []) ∷ ((pos 5, pos 14) ∷ []) ∷ [] =
    ap (λ (h : Ground). h.domains) d.grown ∙ ap (λ (z : Boxes). z ++ linear_domain Sum (pos 5) z ∷ []) cells in
    subst (λ (z : Boxes). term_weight (pos 1, 2) z + 0 ≤ 2 ^ 60) (sym grown) (omega arith)

pub at_most-requires-clause-bounded : goal.at_most-requires-clause-bounded
at_most-requires-clause-bounded c = small _ _ _ _ _ c.range.ensures.list c.range-2.ensures.list c.in_ok-b.ensures c.in_ok-sum.ensures.ok

start : (g : Ground) (r s : Ranges) → r ≡ (pos 0, pos 3) ∷ [] → s ≡ (pos 0, pos 3) ∷ [] → g ≡ over_cells (r ∷ s ∷ []) → term_weight (pos 1, 0) g.domains + (term_weight (pos 2, 1) g.domains + 0) + 5 ≤ 2 ^ 60
unfolding term_weight
start g r s er es eg =
    let cells : g.domains ≡ ((pos 0, pos 3) ∷ []) ∷ ((pos 0, pos 3) ∷ []) ∷ [] = ap (λ (h : Ground). h.domains) eg ∙ ap (λ (z : Ranges). z ∷ s ∷ []) er ∙ ap (λ (z : Ranges). ((pos 0, pos 3) ∷ []) ∷ z ∷ []) es in
    subst (λ (z : Boxes). term_weight (pos 1, 0) z + (term_weight (pos 2, 1) z + 0) + 5 ≤ 2 ^ 60) (sym cells) (omega arith)

pub linear-requires-clause-bounded : goal.linear-requires-clause-bounded
linear-requires-clause-bounded c = start _ _ _ c.range.ensures.list c.range-2.ensures.list c.in_ok-b.ensures
