use Rattle.std.proofs.Common.{subst, sym}
use Rattle.clause_watches.specs.Watching as watches
use Rattle.prop_queue.specs.Work.{Work}
use Rattle.prop_queue.proofs.queue.Queue.note_wider.Goals as goal

pub returns-clause-clauses : goal.returns-clause-clauses
returns-clause-clauses c a b known wide =
    c.note_wider.ensures.fits a b
    (subst (λ (w : Work). watches.Fits a w.clauses) (sym c.self.view_is) known) wide
