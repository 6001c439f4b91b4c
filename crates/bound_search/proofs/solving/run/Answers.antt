use Rattle.std.proofs.Common.{Option, ap, subst, arith, rules}
use Rattle.branch_choice.specs.declared.split.Split.{Split}
use Rattle.run_law.specs.Decisions.{decisions}
use Rattle.bound_search.specs.Engines.{SettledOf, IsDue}
use Rattle.bound_search.proofs.Splits.{due_may_decide}
use Rattle.bound_search.proofs.solving.run.Goals as goal

pub decisions-init : goal.decisions-init
decisions-init g c =
    let none = ap decisions c.requires.lines in
    let below = c.in_ok-e.ensures.below in
    record {
      at = search rules;
      kept = search rules;
      decided = omega (arith, none);
      below = omega (arith, below);
    }

pub returns-then-left-eq0-clause-ends : goal.returns-then-left-eq0-clause-ends
returns-then-left-eq0-clause-ends g c =
    let lines = c.until_decision.new.journal.lines in
    let order = c.args.chooser.now.order in
    let hints = c.args.hints.now in
    let split = c.in-Some.split in
    let due : IsDue c.args.g.now lines order hints c.until_decision.new.e split =
    subst (λ (o : Option Split). SettledOf c.args.g.now lines order hints c.until_decision.new.e o)
    c.in-Some.is c.in_ok-until_decision.ensures.settled in
    let decided = c.decisions.invariant.decided in
    let alike = c.in_ok-until_decision.ensures.alike in
    let none = c.if-left-eq0.true in (
      omega (arith, decided, alike, none),
      due_may_decide c.args.g.now lines order hints c.until_decision.new.e split due c.know_half.ensures,
    )
