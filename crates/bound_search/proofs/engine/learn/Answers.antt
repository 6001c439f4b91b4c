use Rattle.std.proofs.Common.{◌≡◌, ◌∙◌, ◌<◌, ◌++◌, ◌∷◌, [], cond, length, refl, sym, ap, subst, arith}
use Rattle.signed_clause.specs.Clauses.{Literals}
use Rattle.log_form.specs.declared.line.Line.TheVariants.{Chain}
use Rattle.bound_search.specs.Awaited.{keeping, is_sure}
use Rattle.bound_search.specs.declared.engine.Engine.{Engine}
use Rattle.bound_search.specs.Engines.{added_of, MayBackjump, IsBackjumped}
use Rattle.bound_search.proofs.Steps.{alike}
use Rattle.bound_search.proofs.Turning.{awaited_same}
use Rattle.bound_search.proofs.Learning.{conflict_known, IsLesson, lesson_kept, lesson_closes, may_backjump, lesson_reached, lesson_falls, taken_same, taken_table}
use Rattle.bound_search.proofs.engine.learn.Goals as goal

pub analyse-requires-clause-exists : goal.analyse-requires-clause-exists
analyse-requires-clause-exists c =
    let e = c.args.e.now in
    (conflict_known c.args.g.now c.args.journal.now.lines e.clauses e.board.store
    (added_of e) c.args.n c.requires.at.at).exists

pub analyse-requires-clause-is_false : goal.analyse-requires-clause-is_false
analyse-requires-clause-is_false c =
    let e = c.args.e.now in
    (conflict_known c.args.g.now c.args.journal.now.lines e.clauses e.board.store
    (added_of e) c.args.n c.requires.at.at).is_false

pub analyse-requires-clause-within : goal.analyse-requires-clause-within
analyse-requires-clause-within c =
    let e = c.args.e.now in
    (conflict_known c.args.g.now c.args.journal.now.lines e.clauses e.board.store
    (added_of e) c.args.n c.requires.at.at).within

pub analyse-requires-clause-came : goal.analyse-requires-clause-came
analyse-requires-clause-came c =
    let e = c.args.e.now in
    (conflict_known c.args.g.now c.args.journal.now.lines e.clauses e.board.store
    (added_of e) c.args.n c.requires.at.at).came

pub returns-then-learnt-eq0-clause-kept : goal.returns-then-learnt-eq0-clause-kept
returns-then-learnt-eq0-clause-kept c =
    let e = c.args.e.now in
    let l = c.in_ok-learnt.learnt in
    let lines = c.args.journal.now.lines in
    let copy = c.in_ok-copy.ensures ∙ c.in_ok-handle.ensures in
    let lesson : IsLesson e.clauses e.board.store c.args.n l.chain l.clause l.level = record {
      explained = record {
        first = c.in_ok-learnt.ensures.first;
        walked = c.in_ok-learnt.ensures.walk;
        form = c.in_ok-learnt.ensures.form;
      };
      within = c.in_ok-learnt.ensures.within;
      closes = c.in_ok-learnt.ensures.closes;
      drops = c.in_ok-learnt.ensures.drops;
    } in
    lesson_kept c.args.g.now c.args.journal.now c.push.new.self e c.args.n l.chain l.clause l.level
    c.requires.at lesson (record {
      lines = c.in_ok-push.ensures.ok
          ∙ ap (λ (d : Literals). lines ++ Chain l.chain d ∷ []) copy;
      problem = c.in_ok-push.ensures.ground;
      rounds = c.in_ok-push.ensures.rounds;
    })

pub returns-then-learnt-eq0-clause-at : goal.returns-then-learnt-eq0-clause-at
returns-then-learnt-eq0-clause-at c =
    let e = c.args.e.now in
    let l = c.in_ok-learnt.learnt in
    let lines = c.args.journal.now.lines in
    let copy = c.in_ok-copy.ensures ∙ c.in_ok-handle.ensures in
    let lesson : IsLesson e.clauses e.board.store c.args.n l.chain l.clause l.level = record {
      explained = record {
        first = c.in_ok-learnt.ensures.first;
        walked = c.in_ok-learnt.ensures.walk;
        form = c.in_ok-learnt.ensures.form;
      };
      within = c.in_ok-learnt.ensures.within;
      closes = c.in_ok-learnt.ensures.closes;
      drops = c.in_ok-learnt.ensures.drops;
    } in
    lesson_closes c.args.g.now c.args.journal.now c.push.new.self e c.args.n l.chain l.clause
    l.level c.requires.at lesson (record {
      lines = c.in_ok-push.ensures.ok
          ∙ ap (λ (d : Literals). lines ++ Chain l.chain d ∷ []) copy;
      problem = c.in_ok-push.ensures.ground;
      rounds = c.in_ok-push.ensures.rounds;
    }) c.if-learnt-eq0.true

pub returns-then-learnt-eq0-clause-alike : goal.returns-then-learnt-eq0-clause-alike
returns-then-learnt-eq0-clause-alike c =
    let l = c.in_ok-learnt.learnt in
    alike c.args.journal.now.lines c.push.new.self.lines (Chain l.chain c.in_ok-copy.field-0)
    c.in_ok-push.ensures.ok refl

pub backjump-requires-clause-level : goal.backjump-requires-clause-level
backjump-requires-clause-level c =
    let e = c.args.e.now in
    let l = c.in_ok-learnt.learnt in
    let lines = c.args.journal.now.lines in
    let copy = c.in_ok-copy.ensures ∙ c.in_ok-handle.ensures in
    let lesson : IsLesson e.clauses e.board.store c.args.n l.chain l.clause l.level = record {
      explained = record {
        first = c.in_ok-learnt.ensures.first;
        walked = c.in_ok-learnt.ensures.walk;
        form = c.in_ok-learnt.ensures.form;
      };
      within = c.in_ok-learnt.ensures.within;
      closes = c.in_ok-learnt.ensures.closes;
      drops = c.in_ok-learnt.ensures.drops;
    } in
    let some = c.if-learnt-eq0.false in
    let lt : 0 < l.level = omega (arith, some) in
    let may = may_backjump c.args.g.now lines e c.args.n l.chain l.clause l.level c.requires.at lesson
    lt in
    subst (λ (d : Literals). MayBackjump c.args.g.now e.board.store d l.level)
    (sym c.in_ok-handle.ensures) may

pub returns-in_err-after-clause-kept : goal.returns-in_err-after-clause-kept
returns-in_err-after-clause-kept c =
    let e = c.args.e.now in
    let l = c.in_ok-learnt.learnt in
    let lines = c.args.journal.now.lines in
    let copy = c.in_ok-copy.ensures ∙ c.in_ok-handle.ensures in
    let lesson : IsLesson e.clauses e.board.store c.args.n l.chain l.clause l.level = record {
      explained = record {
        first = c.in_ok-learnt.ensures.first;
        walked = c.in_ok-learnt.ensures.walk;
        form = c.in_ok-learnt.ensures.form;
      };
      within = c.in_ok-learnt.ensures.within;
      closes = c.in_ok-learnt.ensures.closes;
      drops = c.in_ok-learnt.ensures.drops;
    } in
    lesson_kept c.args.g.now c.args.journal.now c.push.new.self e c.args.n l.chain l.clause l.level
    c.requires.at lesson (record {
      lines = c.in_ok-push.ensures.ok
          ∙ ap (λ (d : Literals). lines ++ Chain l.chain d ∷ []) copy;
      problem = c.in_ok-push.ensures.ground;
      rounds = c.in_ok-push.ensures.rounds;
    })

pub returns-clause-kept : goal.returns-clause-kept
returns-clause-kept c =
    let e = c.args.e.now in
    let l = c.in_ok-learnt.learnt in
    let lines = c.args.journal.now.lines in
    let copy = c.in_ok-copy.ensures ∙ c.in_ok-handle.ensures in
    let lesson : IsLesson e.clauses e.board.store c.args.n l.chain l.clause l.level = record {
      explained = record {
        first = c.in_ok-learnt.ensures.first;
        walked = c.in_ok-learnt.ensures.walk;
        form = c.in_ok-learnt.ensures.form;
      };
      within = c.in_ok-learnt.ensures.within;
      closes = c.in_ok-learnt.ensures.closes;
      drops = c.in_ok-learnt.ensures.drops;
    } in
    lesson_kept c.args.g.now c.args.journal.now c.push.new.self e c.args.n l.chain l.clause l.level
    c.requires.at lesson (record {
      lines = c.in_ok-push.ensures.ok
          ∙ ap (λ (d : Literals). lines ++ Chain l.chain d ∷ []) copy;
      problem = c.in_ok-push.ensures.ground;
      rounds = c.in_ok-push.ensures.rounds;
    })

-- the backjump, told of the engine before the analysis
taken : (c : goal.In_ok-after) → IsBackjumped c.args.g.now c.args.e.now c.backjump.new.e
    c.in_ok-learnt.learnt.clause c.in_ok-learnt.learnt.level c.in_ok-after.after
taken c =
    let g = c.args.g.now in
    let d = c.args.e.now in
    let l = c.in_ok-learnt.learnt in
    let a = c.in_ok-after.after in
    let t = c.in_ok-after.ensures in
    let f : Engine = record {
      alloc = d.alloc;
      board = d.board;
      clauses = d.clauses;
      asked = d.asked;
      sure = d.sure;
      repeated = d.repeated;
      running = c.analyse.new.running;
    } in
    let now = c.backjump.new.e in
    let sure = is_sure now.board.store c.in_ok-handle.handle in
    let waits : added_of now ≡ keeping sure (length d.clauses) c.in_ok-handle.handle (added_of d) =
    awaited_same now.board.watches.added (cond sure d.board.watches.added
    (d.board.watches.added ++ (length d.clauses, c.in_ok-handle.handle) ∷ [])) now.asked.items
    d.asked.items now.sure.items
    (cond sure (d.sure.items ++ c.in_ok-handle.handle ∷ []) d.sure.items) t.watched
    t.asked t.sure in
    let told : IsBackjumped g f c.backjump.new.e c.in_ok-handle.handle l.level a = record {
      applied = record { mode = t.mode; store = t.store; board = t.board };
      engine = record { clauses_are = t.numbered; added_are = waits; table = t.table };
    } in
    taken_table g d f c.backjump.new.e l.clause l.level a refl refl refl
    c.in_ok-learnt.ensures.len
    (taken_same g f c.backjump.new.e c.in_ok-handle.handle l.clause l.level a
    c.in_ok-handle.ensures told)

pub returns-clause-at : goal.returns-clause-at
returns-clause-at c =
    let e = c.args.e.now in
    let l = c.in_ok-learnt.learnt in
    let lines = c.args.journal.now.lines in
    let copy = c.in_ok-copy.ensures ∙ c.in_ok-handle.ensures in
    let lesson : IsLesson e.clauses e.board.store c.args.n l.chain l.clause l.level = record {
      explained = record {
        first = c.in_ok-learnt.ensures.first;
        walked = c.in_ok-learnt.ensures.walk;
        form = c.in_ok-learnt.ensures.form;
      };
      within = c.in_ok-learnt.ensures.within;
      closes = c.in_ok-learnt.ensures.closes;
      drops = c.in_ok-learnt.ensures.drops;
    } in
    let some = c.if-learnt-eq0.false in
    let lt : 0 < l.level = omega (arith, some) in
    let may = may_backjump c.args.g.now lines e c.args.n l.chain l.clause l.level c.requires.at lesson
    lt in
    lesson_reached c.args.g.now c.args.journal.now c.push.new.self e _ c.args.n l.chain l.clause
    l.level c.in_ok-after.after c.requires.at lesson (record {
      lines = c.in_ok-push.ensures.ok
          ∙ ap (λ (d : Literals). lines ++ Chain l.chain d ∷ []) copy;
      problem = c.in_ok-push.ensures.ground;
      rounds = c.in_ok-push.ensures.rounds;
    }) lt
    (taken c)

pub returns-clause-fall : goal.returns-clause-fall
returns-clause-fall c =
    let e = c.args.e.now in
    let l = c.in_ok-learnt.learnt in
    let lines = c.args.journal.now.lines in
    let copy = c.in_ok-copy.ensures ∙ c.in_ok-handle.ensures in
    let lesson : IsLesson e.clauses e.board.store c.args.n l.chain l.clause l.level = record {
      explained = record {
        first = c.in_ok-learnt.ensures.first;
        walked = c.in_ok-learnt.ensures.walk;
        form = c.in_ok-learnt.ensures.form;
      };
      within = c.in_ok-learnt.ensures.within;
      closes = c.in_ok-learnt.ensures.closes;
      drops = c.in_ok-learnt.ensures.drops;
    } in
    let some = c.if-learnt-eq0.false in
    let lt : 0 < l.level = omega (arith, some) in
    let may = may_backjump c.args.g.now lines e c.args.n l.chain l.clause l.level c.requires.at lesson
    lt in
    lesson_falls c.args.g.now e _ l.clause l.level c.in_ok-after.after may
    (taken c)

pub returns-clause-alike : goal.returns-clause-alike
returns-clause-alike c =
    let l = c.in_ok-learnt.learnt in
    alike c.args.journal.now.lines c.push.new.self.lines (Chain l.chain c.in_ok-copy.field-0)
    c.in_ok-push.ensures.ok refl
