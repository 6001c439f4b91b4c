use Rattle.std.proofs.Common.{◌≡◌, Some, true, List, arith, subst, sym, slice_get}
use Rattle.signed_clause.specs.Clauses.{Boxes, Literals}
use Rattle.ground_form.specs.declared.con.Con.{Con}
use Rattle.ground_form.specs.declared.con.Con.TheVariants.{ClauseCon}
use Rattle.ground_form.specs.WellMade.{IsWellMadeCon}
use Rattle.rule_law.specs.Answers.{IsPruning}
use Rattle.clause_watches.specs.Watching.{acts}
use Rattle.prop_queue.proofs.FitLaws.{con_at, slice_below}
use Rattle.prop_queue.proofs.ClauseLaws.{some_one}
use Rattle.prop_queue.proofs.clauses.reason_of.Goals as goal

-- the clause that is taken out is the constraint's
is_clause-here : (c : goal.After-items-2) → c.clause_at-clause.result.now ≡ c.requires.acting.clause
is_clause-here c =
    c.clause_at-clause.ensures (ClauseCon c.requires.acting.clause)
    (subst (λ (z : List Con). slice_get z c.args.n ≡ Some (ClauseCon c.requires.acting.clause))
    (sym c.items.ensures) c.requires.acting.at)

is_clause-again : (c : goal.In_ok-reason) →
    c.clause_at-clause.result.now ≡ c.requires.acting.clause
is_clause-again c =
    c.clause_at-clause.ensures (ClauseCon c.requires.acting.clause)
    (subst (λ (z : List Con). slice_get z c.args.n ≡ Some (ClauseCon c.requires.acting.clause))
    (sym c.items.ensures) c.requires.acting.at)

pub own_reason-requires-clause-well_made : goal.own_reason-requires-clause-well_made
own_reason-requires-clause-well_made c =
    let g = c.args.g.now in
    let it = c.requires.acting in
    let made = con_at g.cons g.domains c.args.n (ClauseCon it.clause)
    c.requires.well_made.constraints it.at in
    subst (λ (z : Boxes). IsWellMadeCon z (ClauseCon c.clause_at-clause.result.now))
    (sym c.items-2.ensures)
    (subst (λ (z : Literals). IsWellMadeCon g.domains (ClauseCon z)) (sym (is_clause-here c)) made)

pub own_reason-requires-clause-acts : goal.own_reason-requires-clause-acts
own_reason-requires-clause-acts c =
    subst (λ (z : Literals). acts c.args.boxes.now z ≡ true) (sym (is_clause-here c))
    c.requires.acting.acting

pub overflow_cast-result : goal.overflow_cast-result
overflow_cast-result c =
    let there = slice_below c.args.g.now.cons c.args.n _ c.requires.acting.at in
    let few = c.requires.well_made.few_constraints in omega arith

pub returns-clause-there : goal.returns-clause-there
returns-clause-there c = slice_below c.args.g.now.cons c.args.n _ c.requires.acting.at

pub returns-clause-pruning : goal.returns-clause-pruning
returns-clause-pruning c con at =
    let g = c.args.g.now in
    let it = c.requires.acting in
    let boxes = c.args.boxes.now in
    let reason = c.in_ok-reason.reason in
    let same : ClauseCon it.clause ≡ con =
    some_one g.cons c.args.n (ClauseCon it.clause) con it.at at in
    let own = subst (λ (z : Boxes). IsPruning (ClauseCon c.clause_at-clause.result.now) z boxes
    reason) c.items-2.ensures c.in_ok-reason.ensures.pruning in
    subst (λ (z : Con). IsPruning z g.domains boxes reason) same
    (subst (λ (z : Literals). IsPruning (ClauseCon z) g.domains boxes reason) (is_clause-again c)
    own)
