use Rattle.std.proofs.lemmas.List.{get_or_default}
use Rattle.std.proofs.Common.{◌≡◌, ◌+◌, ◌-◌, ◌/◌, ◌<◌, [], length, slice_index_or, nat_lt, sym, ap, ◌∙◌, arith}
use Rattle.signed_clause.specs.Clauses.{Literal}
use Rattle.signed_clause.proofs.ClauseForm.{look_upper, look_none, literal_valid}
use Rattle.signed_clause.proofs.clause.Clause.set_of.Goals as goal
use Rattle.signed_clause.proofs.clause.Clause.set_of.Goals.{else-low-lits-via-then-low-lits+else-lits-low, else-low-lits-via-else-low-lits}

pub loop-low-preserved-then-comes_before : goal.loop-low-preserved-then-comes_before
loop-low-preserved-then-comes_before c =
    let middle = c.loop-low.low + (c.loop-low.high - c.loop-low.low) / 2 in
    let at = get_or_default c.literals-lits.result.now middle (0, []) c.index-lits-middle.result (omega arith) in
    let test = ap (λ (l : Literal). nat_lt l.0 c.args.x) (at ∙ sym c.index-lits-middle.is) ∙ sym c.comes_before.ensures ∙ c.if-comes_before.true in
    let past = look_upper c.args.self.now c.literals-lits.result.now middle c.args.x c.literals-lits.ensures.form c.literals-lits.ensures.items (omega arith) test in
    record { set = past.0; var = past.1; reached = c.loop-low.invariant.reached; ordered = omega arith; in_range = omega arith }

pub returns-else-low-lits-clause-variant : goal.returns-else-low-lits-clause-variant
returns-else-low-lits-clause-variant c =
    let xs = c.literals-lits.result.now in
    let other : c.loop-low.low < length xs → (slice_index_or xs c.loop-low.low (0, [])).0 ≡ c.args.x → ⊥ =
    elim c.else-low-lits.branch [ else-low-lits-via-then-low-lits+else-lits-low w ↦ (λ h e. w.if-lits-low.false (ap (λ (l : Literal). l.0) (get_or_default xs c.loop-low.low w.index-lits-low.result (0, []) h) ∙ e)) | else-low-lits-via-else-low-lits w ↦ (λ h e. omega arith) ] in
    let none = look_none c.args.self.now xs c.loop-low.low c.loop-low.high c.args.x c.literals-lits.ensures.form c.literals-lits.ensures.items
    c.loop-low.invariant.var c.loop-low.invariant.ordered c.loop-low-test.false c.loop-low.invariant.reached other in
    ((λ h. absurd cc), (λ h. absurd cc))

pub returns-then-lits-low-clause-valid : goal.returns-then-lits-low-clause-valid
returns-then-lits-low-clause-valid c = literal_valid c.args.self.now c.literals-lits.result.now c.loop-low.low _ c.literals-lits.ensures.form c.literals-lits.ensures.items c.if-low-lits.true
