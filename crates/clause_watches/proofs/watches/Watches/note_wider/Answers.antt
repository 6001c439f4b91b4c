use Rattle.std.proofs.Common.{rules, ◌≡◌, ◌∙◌, ℕ, Bool, List, ap, length, map, subst, sym, true, false}
use Rattle.signed_clause.specs.Clauses.{Literals}
use Rattle.clause_watches.specs.Rows.{seen}
use Rattle.clause_watches.specs.Watching.{Watching, Fits, IsKnown, clause_of, holds, rest_of, is_listed}
use Rattle.clause_watches.proofs.WatchingLaws.{seen_kept, seen_freed, fits_freed, map_size}
use Rattle.clause_watches.proofs.watches.Watches.note_wider.Goals as goal

pub returns-clause-size : goal.returns-clause-size
returns-clause-size c =
    let t = c.self.inside.table in
    let now = c.free_all.new.table in
    map_size (seen now.changed) now.rests ∙ c.free_all.ensures.size
    ∙ sym (map_size (seen t.changed) t.rests)
    ∙ ap (λ (w : Watching). length w.rests) c.self.view_is

pub returns-clause-others : goal.returns-clause-others
returns-clause-others c = λ i h.
    let t = c.self.inside.table in
    let now = c.free_all.new.table in
    let same = c.free_all.ensures.changed in
    let was : holds (rest_of (map (seen t.changed) t.rests) i) c.args.x ≡ false =
    subst (λ (w : Watching). holds (rest_of w.rests i) c.args.x ≡ false) (sym c.self.view_is) h in
    ap (λ (m : List Bool). rest_of (map (seen m) now.rests) i) same
    ∙ seen_kept t.changed t.rests now.rests i c.args.x (c.free_all.ensures.rests i) was
    ∙ ap (λ (w : Watching). rest_of w.rests i) c.self.view_is

pub returns-clause-freed : goal.returns-clause-freed
returns-clause-freed c = λ i h.
    let t = c.self.inside.table in
    let now = c.free_all.new.table in
    let same = c.free_all.ensures.changed in
    let was : holds (rest_of (map (seen t.changed) t.rests) i) c.args.x ≡ true =
    subst (λ (w : Watching). holds (rest_of w.rests i) c.args.x ≡ true) (sym c.self.view_is) h in
    ap (λ (m : List Bool). is_listed (rest_of (map (seen m) now.rests) i)) same
    ∙ seen_freed t.changed t.rests now.rests i c.args.x (c.free_all.ensures.rests i) was

pub returns-clause-fits : goal.returns-clause-fits
returns-clause-fits c = λ a b fits wide.
    let t = c.self.inside.table in
    let now = c.free_all.new.table in
    let known = subst (λ (w : Watching). Fits a w) (sym c.self.view_is) fits in
    let added : now.added.items ≡ t.added.items = search rules in
    let fit = fits_freed a b t.added.items t.rests now.rests t.changed c.args.x
    c.self.invariant.clauses.forms c.free_all.ensures.rests wide known in λ i.
    subst (λ (l : List (ℕ × Literals)). IsKnown b (clause_of l i)
    (rest_of (map (seen now.changed) now.rests) i)) (sym added)
    (subst (λ (m : List Bool). IsKnown b (clause_of t.added.items i)
    (rest_of (map (seen m) now.rests) i)) (sym c.free_all.ensures.changed) (fit i))
