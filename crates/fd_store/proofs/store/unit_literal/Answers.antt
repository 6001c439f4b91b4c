use Rattle.fd_store.proofs.StackLaws.{narrows_if}
use Rattle.fd_store.proofs.store.unit_literal.Goals as goal

pub returns-clause-narrows : goal.returns-clause-narrows
returns-clause-narrows c =
    narrows_if c.args.c.now c.args.boxes.now _ c.literals-literals.ensures.form c.requires.sets
    c.requires.vars c.in_ok-unit.ensures.value
