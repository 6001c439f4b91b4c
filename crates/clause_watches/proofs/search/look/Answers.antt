use Rattle.std.proofs.Common.{◌≡◌, ◌<◌, ℕ, List, subst, sym, slice_set}
use Rattle.clause_watches.specs.declared.rest.Rest.{Rest}
use Rattle.clause_watches.specs.Watching.{rest_of}
use Rattle.clause_watches.specs.Looking.{linked, left_in}
use Rattle.clause_watches.proofs.VisitLaws.{clause_form}
use Rattle.clause_watches.proofs.LookLaws.{left_linked, left_held, acts_left}
use Rattle.clause_watches.proofs.PackLaws.{packed_same}
use Rattle.clause_watches.proofs.search.look.Goals as goal

pub returns-in_ok-add_link-in-Some-clause-less : goal.returns-in_ok-add_link-in-Some-clause-less
returns-in_ok-add_link-in-Some-clause-less c = λ _.
    let rests = c.args.table.now.rests in
    let l = c.in-Some.link in
    let less = left_linked rests c.args.i l.variable c.requires.there c.requires.listed in
    let same : l.watch.clause ≡ c.args.i = c.in-Some.ensures.some.clause in
    let is = c.in_ok-add_link-in-Some.ensures.ok in
    let news = subst
    (λ (k : ℕ). c.add_link.new.table.rests ≡ slice_set rests k
    (linked l.variable (rest_of rests k))) same is in
    subst (λ (q : List Rest). left_in q < left_in rests) (sym news) less

pub returns-in_ok-hold-in-Some-find_holding-clause-less : goal.returns-in_ok-hold-in-Some-find_holding-clause-less
returns-in_ok-hold-in-Some-find_holding-clause-less c = λ _.
    let rests = c.args.table.now.rests in
    let x = c.in-Some-find_holding.x in
    subst (λ (q : List Rest). left_in q < left_in rests) (sym c.in_ok-hold-in-Some-find_holding.ensures.ok)
    (left_held rests c.args.i x c.requires.there c.in-Some-find_holding.ensures.some)

pub returns-in-None-find_holding-clause-acts : goal.returns-in-None-find_holding-clause-acts
returns-in-None-find_holding-clause-acts c = λ _.
    let t = c.args.table.now in
    acts_left c.args.boxes.now _ (rest_of t.rests c.args.i)
    (clause_form t.added.items c.args.i c.requires.sound.clauses.forms)
    c.requires.listed (c.requires.known c.args.i) c.in-None.ensures.none
    c.in-None-find_holding.ensures.none

pub returns-in_ok-add_link-in-Some-clause-sound : goal.returns-in_ok-add_link-in-Some-clause-sound
returns-in_ok-add_link-in-Some-clause-sound c =
    let t = c.add_link.new.table in
    let sound = c.in_ok-add_link-in-Some.ensures.sound in
    record {
      leasts_size = sound.leasts_size;
      held_size = sound.held_size;
      changed_size = sound.changed_size;
      clauses = sound.clauses;
      packed = packed_same t.leasts.items t.added.items t.packed.items c.note_met.new.packed.items
          sound.packed c.note_met.ensures.size c.note_met.ensures.same;
      fit = sound.fit;
    }
