use Rattle.std.proofs.Common.{ap, ◌∙◌, arith}
use Rattle.numbered_clauses.specs.Coded.{clause_in}
use Rattle.numbered_clauses.proofs.PackedLaws.{found_is}
use Rattle.numbered_clauses.proofs.packed.PackedClauses.get.Goals as goal

pub returns-clause-clause : goal.returns-clause-clause
returns-clause-clause c =
    found_is c.self.inside.bytes.items c.self.inside.places.items c.as_slice.result.now c.as_slice-places.result.now c.args.self.now c.args.k 0 c.in_ok-clause.clause
    c.self.view_is c.as_slice.ensures.value c.as_slice-places.ensures.value (omega arith) (c.in_ok-clause.ensures ∙ ap clause_in c.from_place.ensures)
