use Rattle.std.proofs.Common.{◌∙◌, ap}
use Rattle.clause_watches.specs.Watching.{is_listed}
use Rattle.clause_watches.proofs.WatchingLaws.{known_fits, fits_now, rest_none, none_acts_now, unmarked_still}
use Rattle.clause_watches.proofs.next.next_acting.Goals as goal

pub visit_rows-requires-clause-known : goal.visit_rows-requires-clause-known
visit_rows-requires-clause-known c = known_fits c.args.boxes.now c.args.table.now c.requires.fits

pub returns-in_err-i-clause-fits : goal.returns-in_err-i-clause-fits
returns-in_err-i-clause-fits c =
    let t = c.find_acting.new.table in
    fits_now c.args.boxes.now t.added.items t.rests t.changed
    (λ x. unmarked_still _ _ x c.find_acting.ensures.changed (c.visit_rows.ensures.changed x))
    c.find_acting.ensures.known

pub returns-in-Some-clause-fits : goal.returns-in-Some-clause-fits
returns-in-Some-clause-fits c =
    let t = c.find_acting.new.table in
    fits_now c.args.boxes.now t.added.items t.rests t.changed
    (λ x. unmarked_still _ _ x c.find_acting.ensures.changed (c.visit_rows.ensures.changed x))
    c.find_acting.ensures.known

pub returns-in-None-clause-fits : goal.returns-in-None-clause-fits
returns-in-None-clause-fits c =
    let t = c.find_acting.new.table in
    fits_now c.args.boxes.now t.added.items t.rests t.changed
    (λ x. unmarked_still _ _ x c.find_acting.ensures.changed (c.visit_rows.ensures.changed x))
    c.find_acting.ensures.known

pub returns-in-None-clause-none : goal.returns-in-None-clause-none
returns-in-None-clause-none c = λ i there.
    let t = c.find_acting.new.table in
    let none = rw c.in-None.is at c.in_ok-i.ensures.none in
    none_acts_now c.args.boxes.now t.added.items t.rests i c.find_acting.ensures.known
    (none i there)

pub returns-in-None-clause-none_listed : goal.returns-in-None-clause-none_listed
returns-in-None-clause-none_listed c = λ i there.
    let t = c.find_acting.new.table in
    let none = rw c.in-None.is at c.in_ok-i.ensures.none in
    ap is_listed
    (rest_none t.changed t.rests i
    (λ x. unmarked_still _ _ x c.find_acting.ensures.changed
    (c.visit_rows.ensures.changed x)))
    ∙ none i there
