use Rattle.std.proofs.Common.{◌∙◌, ap, map, subst, sym}
use Rattle.clause_watches.specs.Watching.{Watching, Fits, touched}
use Rattle.clause_watches.proofs.WatchingLaws.{map_touched, fits_touched}
use Rattle.clause_watches.proofs.watches.Watches.note_narrower.Goals as goal

pub returns-clause-rests : goal.returns-clause-rests
returns-clause-rests c =
    let t = c.self.inside.table in
    map_touched c.args.x t.changed c.add.new.self t.rests c.add.ensures.marks
    ∙ ap (λ (w : Watching). map (touched c.args.x) w.rests) c.self.view_is

pub returns-clause-fits : goal.returns-clause-fits
returns-clause-fits c = λ a b fits d.
    let t = c.self.inside.table in
    fits_touched a b t.added.items _ _ c.args.x c.self.invariant.clauses.forms
    (map_touched c.args.x t.changed c.add.new.self t.rests c.add.ensures.marks) d
    (subst (λ (w : Watching). Fits a w) (sym c.self.view_is) fits)
