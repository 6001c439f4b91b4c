use Rattle.std.proofs.Common.{◌<◌, ◌∙◌, ◌++◌, ℕ, ap, arith, get_or, length, refl, rules, subst, sym}
use Rattle.std.proofs.lemmas.List.{append-nil}
use Rattle.signed_clause.specs.Clauses.{Literals}
use Rattle.running_clause.specs.Running.{AreNoted}
use Rattle.signed_clause.proofs.RangeSteps.{left_none}
use Rattle.running_clause.proofs.RunningLaws.{move_step, noted_step, noted_none, listed_none}
use Rattle.running_clause.proofs.running.move_literals.Goals as goal

pub loop-x-preserved : goal.loop-x-preserved
loop-x-preserved c =
    let before = c.loop-x.invariant in let moved = c.move_literal.ensures in
    let sets = c.loop-x.sets.items in let used = c.args.used.now in let i = c.loop-x.x-index in
    let x : ℕ = get_or used i 0 in
    let var : x < length sets = rw before.len (c.requires.within i 0 c.loop-x-test.true) in
    record {
      list = move_step sets _ used i x c.loop-x.out.items _ _ c.loop-x-test.true refl c.requires.sorted before.noted moved.sets moved.list before.list;
      noted = noted_step sets _ used i x c.loop-x-test.true refl var before.noted moved.sets;
      len = search rules;
      count = omega arith;
      room = search rules;
    }

pub returns-clause-list : goal.returns-clause-list
returns-clause-list c =
    let sets = c.loop-x.sets.items in let out = c.loop-x.out.items in let used = c.args.used.now in
    let none = left_none used c.loop-x.x-index (omega arith) in
    let empty = noted_none sets (subst (AreNoted sets) none c.loop-x.invariant.noted) in
    sym (append-nil out) ∙ ap (λ (z : Literals). out ++ z) (sym (listed_none sets empty)) ∙ c.loop-x.invariant.list
