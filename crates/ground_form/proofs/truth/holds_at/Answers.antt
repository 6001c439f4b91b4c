use Rattle.std.proofs.Common.{All, ◌<◌, ℕ, length, subst, sym, List, ℤ, Bool, ◌∷◌, ◌∙◌, arith}
use Rattle.signed_clause.specs.Clauses.{Literals}
use Rattle.ground_form.specs.declared.con.Con.{Con}
use Rattle.ground_form.specs.Meaning.{vars_of, term_vars}
use Rattle.ground_form.proofs.VarLists.{all_terms, all_parts, all_literals, all_places, all_sizes, all_rooms, all_tail}
use Rattle.ground_form.proofs.truth.holds_at.Goals as goal

-- every variable of the constraint, as it was found, has a value
abbrev Named : Con → ℕ → Type 0
Named con n = All (λ x. x < n) (vars_of con)

pub sum_is_at_most-requires-clause-variables : goal.sum_is_at_most-requires-clause-variables
sum_is_at_most-requires-clause-variables c =
    let n = length c.args.values.now in
    subst (λ (ts : List (ℤ × ℕ)). All (λ t. t.1 < n) ts) (sym c.items.ensures) (all_terms c.in-LinLe.terms n (subst (λ (con : Con). Named con n) c.in-LinLe.is c.requires.variables))

pub is_sum-requires-clause-variables : goal.is_sum-requires-clause-variables
is_sum-requires-clause-variables c =
    let n = length c.args.values.now in
    subst (λ (ts : List (ℤ × ℕ)). All (λ t. t.1 < n) ts) (sym c.items-in-LinDef.ensures) (all_terms c.in-LinDef.terms n (all_tail _ _ n (subst (λ (con : Con). Named con n) c.in-LinDef.is c.requires.variables)))

pub sum_is_at_most-requires-in-ReifLe-clause-variables : goal.sum_is_at_most-requires-in-ReifLe-clause-variables
sum_is_at_most-requires-in-ReifLe-clause-variables c =
    let n = length c.args.values.now in
    subst (λ (ts : List (ℤ × ℕ)). All (λ t. t.1 < n) ts) (sym c.items-in-ReifLe.ensures) (all_terms c.in-ReifLe.terms n (all_tail _ _ n (subst (λ (con : Con). Named con n) c.in-ReifLe.is c.requires.variables)))

pub parts_hold-requires : goal.parts_hold-requires
parts_hold-requires c =
    let n = length c.args.values.now in
    subst (λ (ps : List (ℕ × Bool)). All (λ p. p.0 < n) ps) (sym c.items-in-AndDef.ensures) (all_parts c.in-AndDef.parts n (all_tail _ _ n (subst (λ (con : Con). Named con n) c.in-AndDef.is c.requires.variables)))

pub is_picked-requires-clause-variables : goal.is_picked-requires-clause-variables
is_picked-requires-clause-variables c =
    let n = length c.args.values.now in
    subst (λ (ts : List (ℤ × ℕ)). All (λ t. t.1 < n) ts) (sym c.items-in-ElementDef.ensures) (all_terms c.in-ElementDef.items n (all_tail c.in-ElementDef.index _ n (all_tail c.in-ElementDef.out (c.in-ElementDef.index ∷ term_vars c.in-ElementDef.items) n (subst (λ (con : Con). Named con n) c.in-ElementDef.is c.requires.variables))))

pub is_picked-requires-clause-index : goal.is_picked-requires-clause-index
is_picked-requires-clause-index c = (subst (λ (con : Con). Named con (length c.args.values.now)) c.in-ElementDef.is c.requires.variables) 1 0 (omega arith)

pub clause_holds-requires : goal.clause_holds-requires
clause_holds-requires c =
    let n = length c.args.values.now in
    subst (λ (ls : Literals). All (λ l. l.0 < n) ls) (sym (c.literals.ensures.items ∙ c.clause.ensures)) (all_literals c.in-ClauseCon.clause n (subst (λ (con : Con). Named con n) c.in-ClauseCon.is c.requires.variables))

pub all_fit-requires-clause-places : goal.all_fit-requires-clause-places
all_fit-requires-clause-places c =
    let n = length c.args.values.now in
    subst (λ (is : List (ℕ × ℕ × ℕ)). All (λ i. i.0 < n) is) (sym c.items-in-Pack.ensures) (all_places c.in-Pack.items n (subst (λ (con : Con). Named con n) c.in-Pack.is c.requires.variables))

pub all_fit-requires-clause-sizes : goal.all_fit-requires-clause-sizes
all_fit-requires-clause-sizes c =
    let n = length c.args.values.now in
    subst (λ (is : List (ℕ × ℕ × ℕ)). All (λ i. i.1 < n) is) (sym c.items-in-Pack.ensures) (all_sizes c.in-Pack.items n (subst (λ (con : Con). Named con n) c.in-Pack.is c.requires.variables))

pub all_fit-requires-clause-rooms : goal.all_fit-requires-clause-rooms
all_fit-requires-clause-rooms c =
    let n = length c.args.values.now in
    subst (λ (is : List (ℕ × ℕ × ℕ)). All (λ i. i.2 < n) is) (sym c.items-in-Pack.ensures) (all_rooms c.in-Pack.items n (subst (λ (con : Con). Named con n) c.in-Pack.is c.requires.variables))
