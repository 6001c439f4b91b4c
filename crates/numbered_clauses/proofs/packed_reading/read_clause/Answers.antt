use Rattle.std.proofs.Common.{◌≡◌, sym, true, false}
use Rattle.numbered_clauses.proofs.ReadSteps.{sets_are_valid, passes}
use Rattle.numbered_clauses.specs.Coded.{clause_in}
use Rattle.numbered_clauses.proofs.packed_reading.read_clause.Goals as goal

pub read_literals-requires : goal.read_literals-requires
read_literals-requires c =
    rw (c.read_number-count.ensures.number, c.read_number-count.ensures.behind) (sets_are_valid (clause_in c.args.text.now) c.requires)

pub unreachable-requires : goal.unreachable-requires
unreachable-requires c =
    let same : c.in_ok-literals.literals.items ≡ clause_in c.args.text.now = rw (sym c.read_number-count.ensures.number, sym c.read_number-count.ensures.behind) c.in_ok-literals.ensures in
    let wrong : false ≡ true = c.in-Err.ensures.variant.1 (passes (clause_in c.args.text.now) c.in_ok-literals.literals.items c.requires same) in
    absurd cc
