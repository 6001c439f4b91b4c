use Rattle.signed_clause.specs.Clauses.{box_of}
use Rattle.bound_search.proofs.BoundLaws.{single_is}
use Rattle.bound_search.proofs.bounding.solution.Goals as goal

pub fixpoint_is_solution-requires-clause-decided :
    goal.fixpoint_is_solution-requires-clause-decided
fixpoint_is_solution-requires-clause-decided c = λ x lt.
    single_is (box_of c.args.boxes.now x) (c.requires.single x lt)
