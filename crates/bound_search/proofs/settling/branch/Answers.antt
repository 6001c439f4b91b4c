use Rattle.std.proofs.Common.{sym, subst}
use Rattle.signed_clause.specs.Clauses.{Boxes}
use Rattle.branch_choice.specs.Picks.{IsAsked, AreAllSingle}
use Rattle.bound_search.proofs.Splits.{asked_at}
use Rattle.bound_search.proofs.settling.branch.Goals as goal

pub choose-requires : goal.choose-requires
choose-requires g c =
    subst (λ (b : Boxes). IsAsked b c.args.hints.now c.args.g.now.search)
    (sym c.boxes.ensures.boxes) (asked_at c.args.g.now c.args.journal.now.lines c.args.e.now
    c.args.hints.now c.requires.at c.requires.hints)

pub record_solution-requires-clause-single : goal.record_solution-requires-clause-single
record_solution-requires-clause-single g c =
    subst (λ (b : Boxes). AreAllSingle b c.args.g.now.search) c.boxes.ensures.boxes
    (c.choose.ensures.none c.in-None.is)
