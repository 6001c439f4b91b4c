use Rattle.std.proofs.Common.{◌≡◌, subst, sym}
use Rattle.clause_watches.specs.Watching as watches
use Rattle.prop_queue.specs.Work.{Work, others_from}
use Rattle.prop_queue.proofs.FitLaws.{fits_any, row_marked}
use Rattle.prop_queue.proofs.queue.Queue.note_undo.Goals as goal

pub returns-clause-fits : goal.returns-clause-fits
returns-clause-fits c g b over known =
    let old = c.self.inside in
    let marks = c.list_row.new.listing.marks in
    let others = subst (λ (w : Work). w.others ≡ others_from 0 g.cons) (sym c.self.view_is)
    over.others in
    record {
      others = fits_any g marks old.others.items b others
          (row_marked old.listing.marks marks c.as_slice.result.now old.others.items
          c.as_slice.ensures.value c.list_row.ensures.marks);
      clauses =
          subst (λ (w : Work). watches.Fits b w.clauses) (sym c.self.view_is) known;
    }
