use Rattle.std.proofs.Common.{◌∙◌, ◌++◌, ◌∷◌, [], List, ℕ, refl, ap, length}
use Rattle.signed_clause.specs.Clauses.{Literals}
use Rattle.fd_store.specs.Levels.{reacted}
use Rattle.log_form.specs.declared.line.Line.TheVariants.{Axiom}
use Rattle.run_law.specs.Replay.{mode_by}
use Rattle.bound_search.specs.Awaited.{awaited}
use Rattle.bound_search.proofs.UseAxiom.{IsStep, axiom_step, axiom_kept}
use Rattle.bound_search.proofs.engine.add_axiom.Goals as goal

step : (c : goal.In_ok-push-2) → IsStep c.args.g.now c.args.journal.now c.push.new.self c.args.e.now
    (record {
      alloc = c.args.e.now.alloc;
      board = c.apply.new.self;
      clauses = c.push-2.new.self;
      asked = c.args.e.now.asked;
      sure = c.args.e.now.sure;
      repeated = c.note.new.self;
      running = c.args.e.now.running;
    }) c.in_ok-after.after
step c =
    let e = c.args.e.now in
    let levels = e.board.store in
    let k = c.args.k in
    let lines = c.args.journal.now.lines in
    let handle = c.in_ok-handle.ensures in
    let copy = c.in_ok-copy.ensures ∙ handle in
    let applied = c.clause.ensures ∙ handle in
    axiom_step c.args.g.now c.args.journal.now c.push.new.self e _ k c.args.c
    c.in_ok-after.after c.requires.at c.requires.reason
    (record {
      lines = c.in_ok-push.ensures.ok ∙ ap (λ (d : Literals). lines ++ Axiom k d ∷ []) copy;
      problem = c.in_ok-push.ensures.ground;
      rounds = c.in_ok-push.ensures.rounds;
    })
    (record {
      clauses_are = c.in_ok-push-2.ensures.ok
          ∙ ap (λ (d : Literals). e.clauses ++ d ∷ []) handle;
      added_are = ap (λ (ps : List (ℕ × Literals)). awaited ps e.asked.items e.sure.items)
          c.in_ok-after.ensures.added;
      table = refl;
    })
    (record {
      mode = c.in_ok-after.ensures.mode
          ∙ ap (λ (n : ℕ). mode_by levels.top.now n c.clause.result.now) c.count-n.ensures
          ∙ ap (λ (d : Literals). mode_by levels.top.now (length e.clauses) d) applied;
      store = c.in_ok-after.ensures.store
          ∙ ap (λ (n : ℕ). reacted n c.clause.result.now levels) c.count-n.ensures
          ∙ ap (λ (d : Literals). reacted (length e.clauses) d levels) applied;
      board = c.in_ok-after.ensures.board;
    })

pub returns-clause-kept : goal.returns-clause-kept
returns-clause-kept c = (step c).kept

pub returns-clause-at : goal.returns-clause-at
returns-clause-at c = (step c).at

pub returns-clause-turn : goal.returns-clause-turn
returns-clause-turn c = (step c).turn

pub returns-clause-alike : goal.returns-clause-alike
returns-clause-alike c = (step c).alike

pub returns-in_err-after-clause-kept : goal.returns-in_err-after-clause-kept
returns-in_err-after-clause-kept c =
    let k = c.args.k in
    let lines = c.args.journal.now.lines in
    let copy = c.in_ok-copy.ensures ∙ c.in_ok-handle.ensures in
    axiom_kept c.args.g.now c.args.journal.now c.push.new.self c.args.e.now k c.args.c
    c.requires.at c.requires.reason (record {
      lines = c.in_ok-push.ensures.ok ∙ ap (λ (d : Literals). lines ++ Axiom k d ∷ []) copy;
      problem = c.in_ok-push.ensures.ground;
      rounds = c.in_ok-push.ensures.rounds;
    })

pub returns-in_err-push-2-clause-kept : goal.returns-in_err-push-2-clause-kept
returns-in_err-push-2-clause-kept c =
    let k = c.args.k in
    let lines = c.args.journal.now.lines in
    let copy = c.in_ok-copy.ensures ∙ c.in_ok-handle.ensures in
    axiom_kept c.args.g.now c.args.journal.now c.push.new.self c.args.e.now k c.args.c
    c.requires.at c.requires.reason (record {
      lines = c.in_ok-push.ensures.ok ∙ ap (λ (d : Literals). lines ++ Axiom k d ∷ []) copy;
      problem = c.in_ok-push.ensures.ground;
      rounds = c.in_ok-push.ensures.rounds;
    })

pub returns-in_err-note-clause-kept : goal.returns-in_err-note-clause-kept
returns-in_err-note-clause-kept c =
    let k = c.args.k in
    let lines = c.args.journal.now.lines in
    let copy = c.in_ok-copy.ensures ∙ c.in_ok-handle.ensures in
    axiom_kept c.args.g.now c.args.journal.now c.push.new.self c.args.e.now k c.args.c
    c.requires.at c.requires.reason (record {
      lines = c.in_ok-push.ensures.ok ∙ ap (λ (d : Literals). lines ++ Axiom k d ∷ []) copy;
      problem = c.in_ok-push.ensures.ground;
      rounds = c.in_ok-push.ensures.rounds;
    })
