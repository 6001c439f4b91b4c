use Rattle.std.proofs.Common.{subst, sym}
use Rattle.clause_watches.specs.Watching as watches
use Rattle.prop_queue.specs.Work.{Work}
use Rattle.prop_queue.proofs.FitLaws.{fits_quiet}
use Rattle.prop_queue.proofs.queue.Queue.note_return.Goals as goal

pub returns-clause-fits : goal.returns-clause-fits
returns-clause-fits c g b known quiet =
    record {
      others = fits_quiet g c.list_none.new.listing.marks b quiet;
      clauses =
          subst (λ (w : Work). watches.Fits b w.clauses) (sym c.self.view_is) known;
    }
