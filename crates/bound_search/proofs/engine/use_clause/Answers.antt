use Rattle.std.proofs.Common.{◌≡◌, List, ℕ, refl, sym, ap, subst, true}
use Rattle.signed_clause.specs.Clauses.{Literals, IsWithinBoxes}
use Rattle.run_law.specs.Replay.{acts}
use Rattle.bound_search.specs.Awaited.{awaited}
use Rattle.bound_search.specs.Engines.{added_of}
use Rattle.bound_search.proofs.Steps.{known_clause}
use Rattle.bound_search.proofs.UseAxiom.{IsStep, use_step, use_kept}
use Rattle.bound_search.proofs.engine.use_clause.Goals as goal

pub apply-requires-clause-vars : goal.apply-requires-clause-vars
apply-requires-clause-vars c =
    let e = c.args.e.now in
    let at = c.requires.at.at in
    let known = known_clause c.args.g.now c.args.journal.now.lines e.clauses e.board.store
    (added_of e) _ c.args.n at in
    subst (λ (d : Literals). IsWithinBoxes d e.board.store.top.now) (sym c.in-Some.ensures.clause)
    known.vars

step : (c : goal.In_ok-after) → IsStep c.args.g.now c.args.journal.now c.push.new.self c.args.e.now
    (record {
      alloc = c.args.e.now.alloc;
      board = c.apply.new.self;
      clauses = c.args.e.now.clauses;
      asked = c.args.e.now.asked;
      sure = c.args.e.now.sure;
      repeated = c.args.e.now.repeated;
      running = c.args.e.now.running;
    }) c.in_ok-after.after
step c =
    let e = c.args.e.now in
    let is = sym c.in-Some.ensures.clause in
    use_step c.args.g.now c.args.journal.now c.push.new.self e _ c.args.n c.in-Some.clause.now
    c.in_ok-after.after c.requires.at
    (record { exists = c.requires.exists; is = is; acting = subst (λ (d : Literals). acts e.board.store.top.now d ≡ true) is c.requires.acting })
    (record {
      lines = c.in_ok-push.ensures.ok;
      problem = c.in_ok-push.ensures.ground;
      rounds = c.in_ok-push.ensures.rounds;
    })
    (record {
      clauses_are = refl;
      added_are = ap (λ (ps : List (ℕ × Literals)). awaited ps e.asked.items e.sure.items)
          c.in_ok-after.ensures.added;
      table = refl;
    })
    (record {
      mode = c.in_ok-after.ensures.mode;
      store = c.in_ok-after.ensures.store;
      board = c.in_ok-after.ensures.board;
    })

pub returns-clause-kept : goal.returns-clause-kept
returns-clause-kept c = (step c).kept

pub returns-clause-at : goal.returns-clause-at
returns-clause-at c = (step c).at

pub returns-clause-turn : goal.returns-clause-turn
returns-clause-turn c = (step c).turn

pub returns-clause-alike : goal.returns-clause-alike
returns-clause-alike c = (step c).alike

pub returns-in_err-after-clause-kept : goal.returns-in_err-after-clause-kept
returns-in_err-after-clause-kept c =
    let e = c.args.e.now in
    let is = sym c.in-Some.ensures.clause in
    use_kept c.args.g.now c.args.journal.now c.push.new.self e c.args.n c.in-Some.clause.now
    c.requires.at (record {
      exists = c.requires.exists;
      is = is;
      acting = subst (λ (d : Literals). acts e.board.store.top.now d ≡ true) is c.requires.acting;
    }) (record {
      lines = c.in_ok-push.ensures.ok;
      problem = c.in_ok-push.ensures.ground;
      rounds = c.in_ok-push.ensures.rounds;
    })
