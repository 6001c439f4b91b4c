use Rattle.std.proofs.Common.{◌≡◌, arith}
use Rattle.std.proofs.lemmas.Grind.{common_steps}
use Rattle.signed_clause.specs.Clauses.{box_of}
use Rattle.element_prop.proofs.ElementLaws.{element}
use Rattle.element_prop.proofs.IndexLaws.{index_asked}
use Rattle.element_prop.proofs.element.prune_index.Goals as goal

pub planned_pruning-requires-clause-reason : goal.planned_pruning-requires-clause-reason
planned_pruning-requires-clause-reason c =
    let con = c.args.subject.con.now in let domains = c.args.subject.domains.now in let boxes = c.args.subject.boxes.now in let vars = c.args.vars in let items = c.args.items.now in
    let domain : c.index-domains-vars.result ≡ box_of domains vars.1 = grind (arith, common_steps) in
    index_asked con domains boxes vars.0 vars.1 items c.index-domains-vars.result c.in_ok-rest.rest
    (element con domains boxes vars.0 vars.1 items c.requires.is c.requires.well_made c.requires.boxes c.requires.sets) domain c.in_ok-rest.ensures c.requires.more
