use Rattle.std.proofs.Common.{◌≡◌, ◌||◌, ℕ, subst, sym}
use Rattle.rule_law.specs.Reasons.{has_number}
use Rattle.clause_watches.specs.Watching as watches
use Rattle.prop_queue.specs.Work.{Work, is_marked, row_of}
use Rattle.prop_queue.proofs.FitLaws.{fits_changed, marks_by}
use Rattle.prop_queue.proofs.queue.Queue.note_narrower.Goals as goal

pub returns-clause-fits : goal.returns-clause-fits
returns-clause-fits c g a b made over size same fits d =
    let known = subst (λ (w : Work). watches.Fits a w.clauses) (sym c.self.view_is) fits.clauses in
    let old = c.self.inside in
    let x = c.args.x in
    let marks = c.list_row.new.listing.marks in
    let more = subst (λ (w : Work). (k : ℕ) → is_marked marks k ≡
    (is_marked w.marks k || has_number k (row_of w.rows x))) c.self.view_is
    (marks_by old.listing.marks marks c.row.result.now (row_of old.rows x) c.row.ensures
    c.list_row.ensures.marks) in
    record {
      others = fits_changed g c.args.self.now marks x a b more made over size fits.others same d.others;
      clauses = c.note_narrower.ensures.fits a b known d;
    }
