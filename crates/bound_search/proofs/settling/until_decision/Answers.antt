use Rattle.std.proofs.Common.{◌∙◌, arith, subst}
use Rattle.bound_search.specs.declared.settling.Step.{Step}
use Rattle.bound_search.specs.Engines.{StepOf}
use Rattle.bound_search.proofs.UseAxiom.{kept_both}
use Rattle.bound_search.proofs.settling.until_decision.Goals as goal

pub returns-in_err-now-in-Conflict-clause-kept : goal.returns-in_err-now-in-Conflict-clause-kept
returns-in_err-now-in-Conflict-clause-kept g c =
    kept_both c.args.g.now c.args.journal.now c.turns.journal c.learn.new.journal
    c.turns.invariant.kept c.learn.ensures.kept

pub turns-preserved-in-Conflict : goal.turns-preserved-in-Conflict
turns-preserved-in-Conflict g c =
    let less = c.in_ok-now-in-Conflict.ensures.fall.fewer_levels in
    let below = c.turns.invariant.below in
    record {
      at = c.in_ok-now-in-Conflict.ensures.at;
      kept = kept_both c.args.g.now c.args.journal.now c.turns.journal c.learn.new.journal
          c.turns.invariant.kept c.learn.ensures.kept;
      below = omega (arith, less, below);
      alike = c.in_ok-now-in-Conflict.ensures.alike ∙ c.turns.invariant.alike;
    }

pub returns-in_err-split-in-Going-clause-kept : goal.returns-in_err-split-in-Going-clause-kept
returns-in_err-split-in-Going-clause-kept g c =
    kept_both c.args.g.now c.args.journal.now c.turns.journal c.advance.new.journal
    c.turns.invariant.kept c.advance.ensures.kept

pub returns-in-Split-clause-kept : goal.returns-in-Split-clause-kept
returns-in-Split-clause-kept g c =
    kept_both c.args.g.now c.args.journal.now c.turns.journal c.advance.new.journal
    c.turns.invariant.kept c.advance.ensures.kept

pub turns-preserved : goal.turns-preserved
turns-preserved g c =
    let step = subst (λ (s : Step). StepOf c.args.g.now c.advance.new.journal.lines
    c.args.chooser.now.order c.args.hints.now c.advance.new.e s) c.in-Then.is
    c.in_ok-split-in-Going.ensures.step in
    let same = c.in_ok-split-in-Going.ensures.below in
    let below = c.turns.invariant.below in
    record {
      at = step.0;
      kept = kept_both c.args.g.now c.args.journal.now c.turns.journal c.advance.new.journal
          c.turns.invariant.kept c.advance.ensures.kept;
      below = omega (arith, same, below);
      alike = c.in_ok-split-in-Going.ensures.alike ∙ c.turns.invariant.alike;
    }
