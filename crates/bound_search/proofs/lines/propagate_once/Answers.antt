use Rattle.std.proofs.Common.{rules, ◌≡◌, ◌<◌, ◌∙◌, ℕ, false, List, length, refl, sym, ap, subst, All}
use Rattle.signed_clause.specs.Clauses.{Boxes, Literals, IsWithinBoxes}
use Rattle.fd_store.specs.Levels.{Stack}
use Rattle.prop_queue.specs.Work.{AreAllQuiet}
use Rattle.clause_watches.specs.Watching.{Watching, acts, clause_of}
use Rattle.run_law.specs.Replay.{Going}
use Rattle.bound_search.specs.declared.engine.Engine.{Engine}
use Rattle.bound_search.specs.Engines.{added_of}
use Rattle.bound_search.proofs.MoreLines.{boxes_at}
use Rattle.bound_search.proofs.Turning.{shows_asked, asked_there, all_idle}
use Rattle.bound_search.proofs.lines.propagate_once.Goals as goal

pub next_cause-requires-clause-boxes : goal.next_cause-requires-clause-boxes
next_cause-requires-clause-boxes g c =
    let e = c.args.e.now in
    boxes_at c.args.g.now c.args.journal.now.lines e.clauses e.board.store (added_of e)
    Going c.requires.at.at

pub first_acting-requires : goal.first_acting-requires
first_acting-requires g c =
    let e = c.args.e.now in
    let same = c.boxes.ensures.boxes ∙ ap (λ (k : Stack). k.top.now)
    (c.next_clause.ensures.store ∙ c.next_cause.ensures.store) in
    subst (λ (ps : List (ℕ × Literals)). All (λ p. IsWithinBoxes p.1 c.boxes.result.now) ps)
    (sym c.as_slice.ensures.value)
    (asked_there c.args.g.now c.args.journal.now.lines e Going c.boxes.result.now c.requires.at same)

pub returns-in-None-clause-at : goal.returns-in-None-clause-at
returns-in-None-clause-at g c =
    let d = c.args.e.now in
    let now = c.next_clause.new.self in
    let lines = c.args.journal.now.lines in
    let store = c.next_clause.ensures.store ∙ c.next_cause.ensures.store in
    let e : Engine = record {
      alloc = d.alloc;
      board = now;
      clauses = d.clauses;
      asked = d.asked;
      sure = d.sure;
      repeated = d.repeated;
      running = d.running;
    } in
    let shows = shows_asked c.args.g.now lines d e Going c.requires.at (record {
      store = store;
      added = c.next_clause.ensures.added
          ∙ ap (λ (w : Watching). w.added) c.next_cause.ensures.watches;
      asked = refl;
      sure = refl;
      clauses = refl;
      table = refl;
      board = c.next_clause.ensures.board;
    }) in
    let is_quiet : AreAllQuiet c.args.g.now now.store.top.now = search rules in
    let watched : (i : ℕ) → i < length now.watches.added →
    acts now.store.top.now (clause_of now.watches.added i) ≡ false = search rules in
    let none = c.in-None.ensures.none in
    let here : (i : ℕ) → i < length d.asked.items →
    acts c.boxes.result.now (clause_of d.asked.items i) ≡ false =
    subst (λ (ps : List (ℕ × Literals)). (i : ℕ) → i < length ps →
    acts c.boxes.result.now (clause_of ps i) ≡ false) c.as_slice.ensures.value none in
    let asked : (i : ℕ) → i < length d.asked.items →
    acts now.store.top.now (clause_of d.asked.items i) ≡ false =
    subst (λ (b : Boxes). (i : ℕ) → i < length d.asked.items →
    acts b (clause_of d.asked.items i) ≡ false) c.boxes.ensures.boxes here in
    (shows, all_idle c.args.g.now lines e Going shows is_quiet watched asked)
