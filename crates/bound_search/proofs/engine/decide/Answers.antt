use Rattle.std.proofs.Common.{◌∙◌, ◌++◌, ◌∷◌, [], List, ℕ, ℤ, refl, ap, arith}
use Rattle.log_form.specs.declared.line.Line.TheVariants.{Decide}
use Rattle.run_law.specs.Decisions.{decisions}
use Rattle.signed_clause.specs.Clauses.{Literals}
use Rattle.bound_search.specs.Awaited.{awaited}
use Rattle.bound_search.proofs.Steps.{decisions-behind}
use Rattle.bound_search.proofs.Learning.{decide_step, decide_kept}
use Rattle.bound_search.proofs.engine.decide.Goals as goal

pub returns-clause-kept : goal.returns-clause-kept
returns-clause-kept c = λ order hints by.
    let lines = c.args.journal.now.lines in
    let x = c.args.x in
    decide_kept c.args.g.now order hints c.args.journal.now c.push.new.self c.args.e.now x
    c.args.half.now c.requires.at c.requires.fixed c.requires.decision (record {
      lines = c.in_ok-push.ensures.ok
          ∙ ap (λ (s : List (ℤ × ℤ)). lines ++ Decide x s ∷ []) c.in_ok-copy.ensures.list;
      problem = c.in_ok-push.ensures.ground;
      rounds = c.in_ok-push.ensures.rounds;
    }) by

pub returns-in_err-decide-clause-kept : goal.returns-in_err-decide-clause-kept
returns-in_err-decide-clause-kept c = λ order hints by.
    let lines = c.args.journal.now.lines in
    let x = c.args.x in
    decide_kept c.args.g.now order hints c.args.journal.now c.push.new.self c.args.e.now x
    c.args.half.now c.requires.at c.requires.fixed c.requires.decision (record {
      lines = c.in_ok-push.ensures.ok
          ∙ ap (λ (s : List (ℤ × ℤ)). lines ++ Decide x s ∷ []) c.in_ok-copy.ensures.list;
      problem = c.in_ok-push.ensures.ground;
      rounds = c.in_ok-push.ensures.rounds;
    }) by

pub returns-clause-at : goal.returns-clause-at
returns-clause-at c =
    let lines = c.args.journal.now.lines in
    let x = c.args.x in
    (decide_step c.args.g.now c.args.journal.now c.push.new.self c.args.e.now _ x c.args.half.now
    c.requires.at c.requires.fixed c.requires.decision (record {
      lines = c.in_ok-push.ensures.ok
          ∙ ap (λ (s : List (ℤ × ℤ)). lines ++ Decide x s ∷ []) c.in_ok-copy.ensures.list;
      problem = c.in_ok-push.ensures.ground;
      rounds = c.in_ok-push.ensures.rounds;
    }) (record {
      clauses_are = refl;
      added_are = ap (λ (ps : List (ℕ × Literals)).
          awaited ps c.args.e.now.asked.items c.args.e.now.sure.items)
          c.in_ok-decide.ensures.added;
      table = refl;
    })
    c.in_ok-decide.ensures.store c.in_ok-decide.ensures.board).at

pub returns-clause-more : goal.returns-clause-more
returns-clause-more c =
    let long = decisions-behind c.args.journal.now.lines (Decide c.args.x c.in_ok-copy.field-0) in
    let same = ap decisions c.in_ok-push.ensures.ok in
    omega (arith, long, same)
