use Rattle.std.proofs.Common.{◌≡◌, arith, ◌∙◌}
use Rattle.std.proofs.lemmas.Grind.{common_steps}
use Rattle.signed_clause.specs.Clauses.{box_of}
use Rattle.element_prop.proofs.ElementLaws.{element}
use Rattle.element_prop.proofs.OutLaws.{IsOutPlanned, out_asked}
use Rattle.element_prop.proofs.element.prune_out.Goals as goal

planned : (c : goal.After-as_slice) → IsOutPlanned c.args.subject.con.now c.args.subject.domains.now c.args.subject.boxes.now c.as_slice.result.now
planned c =
    let con = c.args.subject.con.now in let domains = c.args.subject.domains.now in let boxes = c.args.subject.boxes.now in let vars = c.args.vars in let items = c.args.items.now in
    let domain : c.index-domains-vars.result ≡ box_of domains vars.0 = grind (arith, common_steps) in
    let index : c.index-boxes-vars.result ≡ box_of boxes vars.1 = grind (arith, common_steps) in
    out_asked con domains boxes vars.0 vars.1 items c.args.at.value c.index-domains-vars.result c.index-boxes-vars.result c.in_ok-rest.rest c.as_slice.result.now
    (element con domains boxes vars.0 vars.1 items c.requires.is c.requires.well_made c.requires.boxes c.requires.sets) c.requires.items c.requires.differ c.requires.member c.requires.unoffered domain index
    c.in_ok-rest.ensures (c.as_slice.ensures.value ∙ c.in_ok-plan.ensures)

pub planned_pruning-requires-clause-reason : goal.planned_pruning-requires-clause-reason
planned_pruning-requires-clause-reason c = (planned c).reason

pub planned_pruning-requires-clause-variables : goal.planned_pruning-requires-clause-variables
planned_pruning-requires-clause-variables c = (planned c).named
