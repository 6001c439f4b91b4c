use Rattle.std.proofs.Common.{sym, subst}
use Rattle.signed_clause.specs.Clauses.{Literals}
use Rattle.rule_law.specs.Reasons.{IsReason}
use Rattle.rule_law.proofs.ProbeLaws.{boxes_vars, boxes_reason, once_from, once_all}
use Rattle.rule_law.proofs.probing.refuted_pruning.Goals as goal

pub box_literals-requires-clause-domains : goal.box_literals-requires-clause-domains
box_literals-requires-clause-domains c =
    let once = once_from c.args.con.now _ _ _ c.in_ok-all_vars.ensures c.distinct-vars.ensures.differ c.distinct-vars.ensures.same c.as_slice.ensures.value in
    once_all c.args.con.now c.as_slice.result.now _ once c.requires.well_made.named

pub box_literals-requires-clause-vars : goal.box_literals-requires-clause-vars
box_literals-requires-clause-vars c =
    let once = once_from c.args.con.now _ _ _ c.in_ok-all_vars.ensures c.distinct-vars.ensures.differ c.distinct-vars.ensures.same c.as_slice.ensures.value in
    once_all c.args.con.now c.as_slice.result.now _ once (boxes_vars c.args.con.now c.args.domains.now c.args.boxes.now c.requires.boxes c.requires.well_made)

pub pruning-clause-requires : goal.pruning-clause-requires
pruning-clause-requires c =
    let once = once_from c.args.con.now _ _ _ c.in_ok-all_vars.ensures c.distinct-vars.ensures.differ c.distinct-vars.ensures.same c.as_slice.ensures.value in
    let vars = boxes_vars c.args.con.now c.args.domains.now c.args.boxes.now c.requires.boxes c.requires.well_made in
    record {
      reason = subst (λ (ls : Literals). IsReason c.args.con.now c.args.domains.now c.args.boxes.now ls) (sym c.in_ok-literals.ensures)
          (boxes_reason c.args.con.now c.args.domains.now c.args.boxes.now c.as_slice.result.now c.requires.boxes c.requires.sets vars once c.requires.refuted);
    }
