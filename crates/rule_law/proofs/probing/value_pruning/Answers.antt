use Rattle.std.proofs.Common.{sym, subst}
use Rattle.signed_clause.specs.Clauses.{Literals}
use Rattle.rule_law.specs.Reasons.{IsReason}
use Rattle.rule_law.proofs.ProbeLaws.{boxes_vars, boxes_named, boxes_bounded, fixing_reason, once_from, once_all, once_has}
use Rattle.rule_law.proofs.probing.value_pruning.Goals as goal

pub first_culprit-found-requires-clause-named : goal.first_culprit-found-requires-clause-named
first_culprit-found-requires-clause-named c = boxes_named c.args.con.now c.args.domains.now c.args.boxes.now c.requires.boxes c.requires.well_made

pub first_culprit-found-requires-clause-bounded : goal.first_culprit-found-requires-clause-bounded
first_culprit-found-requires-clause-bounded c = boxes_bounded c.args.con.now c.args.domains.now c.args.boxes.now c.requires.boxes c.requires.sets c.requires.well_made

pub value_literals-requires-clause-domains : goal.value_literals-requires-clause-domains
value_literals-requires-clause-domains c =
    let once = once_from c.args.con.now _ _ _ c.in_ok-named.ensures c.distinct-vars.ensures.differ c.distinct-vars.ensures.same c.as_slice-2.ensures.value in
    once_all c.args.con.now c.as_slice-2.result.now _ once c.requires.well_made.named

pub value_literals-requires-clause-vars : goal.value_literals-requires-clause-vars
value_literals-requires-clause-vars c =
    let once = once_from c.args.con.now _ _ _ c.in_ok-named.ensures c.distinct-vars.ensures.differ c.distinct-vars.ensures.same c.as_slice-2.ensures.value in
    once_all c.args.con.now c.as_slice-2.result.now _ once (boxes_vars c.args.con.now c.args.domains.now c.args.boxes.now c.requires.boxes c.requires.well_made)

pub pruning-clause-requires : goal.pruning-clause-requires
pruning-clause-requires c =
    let once = once_from c.args.con.now _ _ _ c.in_ok-named.ensures c.distinct-vars.ensures.differ c.distinct-vars.ensures.same c.as_slice-2.ensures.value in
    let vars = boxes_vars c.args.con.now c.args.domains.now c.args.boxes.now c.requires.boxes c.requires.well_made in
    let has = once_has c.args.con.now c.as_slice-2.result.now _ _ _ once c.in_ok-named.ensures c.as_slice.ensures.value c.first_culprit-found.ensures.var in
    record {
      reason = subst (λ (ls : Literals). IsReason c.args.con.now c.args.domains.now c.args.boxes.now ls) (sym c.in_ok-literals.ensures)
          (fixing_reason c.args.con.now c.args.domains.now c.args.boxes.now _ _ c.as_slice-2.result.now c.requires.boxes c.requires.sets vars once has c.first_culprit-found.ensures.culprit);
    }
