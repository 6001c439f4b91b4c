use Rattle.std.proofs.Common.{◌∙◌, Option, Some, ap, subst}
use Rattle.bound_search.specs.declared.after.After.{After}
use Rattle.bound_search.specs.Engines.{TurnOf}
use Rattle.bound_search.proofs.UseAxiom.{kept_both}
use Rattle.bound_search.proofs.lines.propagate.Goals as goal

pub returns-in_err-propagate_once-clause-kept : goal.returns-in_err-propagate_once-clause-kept
returns-in_err-propagate_once-clause-kept g c =
    kept_both c.args.g.now c.args.journal.now c.lines.journal c.propagate_once.new.journal
    c.lines.invariant.kept c.propagate_once.ensures.kept

pub returns-in-None-clause-kept : goal.returns-in-None-clause-kept
returns-in-None-clause-kept g c =
    kept_both c.args.g.now c.args.journal.now c.lines.journal c.propagate_once.new.journal
    c.lines.invariant.kept c.propagate_once.ensures.kept

pub returns-in-Some-Conflict-clause-kept : goal.returns-in-Some-Conflict-clause-kept
returns-in-Some-Conflict-clause-kept g c =
    kept_both c.args.g.now c.args.journal.now c.lines.journal c.propagate_once.new.journal
    c.lines.invariant.kept c.propagate_once.ensures.kept

pub returns-in-Some-Closed-clause-kept : goal.returns-in-Some-Closed-clause-kept
returns-in-Some-Closed-clause-kept g c =
    kept_both c.args.g.now c.args.journal.now c.lines.journal c.propagate_once.new.journal
    c.lines.invariant.kept c.propagate_once.ensures.kept

pub lines-preserved : goal.lines-preserved
lines-preserved g c = record {
  at = subst (λ (o : Option After). TurnOf c.args.g.now c.propagate_once.new.journal.lines c.propagate_once.new.e o)
      (c.in-Some-Going.is ∙ ap Some c.in-Some-Going.field-0-is) c.in_ok-propagate_once.ensures.at;
  kept = kept_both c.args.g.now c.args.journal.now c.lines.journal c.propagate_once.new.journal
      c.lines.invariant.kept c.propagate_once.ensures.kept;
  below = c.in_ok-propagate_once.ensures.below ∙ c.lines.invariant.below;
  alike = c.in_ok-propagate_once.ensures.alike ∙ c.lines.invariant.alike;
}
