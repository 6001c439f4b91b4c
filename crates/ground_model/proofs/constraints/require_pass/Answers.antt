use Rattle.std.proofs.lemmas.List.Elements.{All-nil}
use Rattle.conf_eval.proofs.CallLaws.{nth_of_all}
use Rattle.form_build.specs.Worlds.{AreKnown}
use Rattle.ground_model.specs.Fixing.{holds_in}
use Rattle.ground_model.specs.Stated.{IsReadyConstraint}
use Rattle.ground_model.specs.WholesStand.{HasWholesIn}
use Rattle.ground_model.proofs.KnownCells.{known_still}
use Rattle.ground_model.proofs.Steps.{requires_none, requires_next, requires_all}
use Rattle.ground_model.proofs.WholeSteps.{next_wholes, all_wholes}
use Rattle.ground_model.proofs.constraints.require_pass.Goals as goal

pub loop-constraint-init : goal.loop-constraint-init
loop-constraint-init c = record {
  says = requires_none c.args.known.now c.args.maker.now (λ values. holds_in c.args.fixing c.args.objects.now values) c.args.list.now;
  whole = All-nil (HasWholesIn c.args.fixing c.args.objects.now c.args.maker.now (AreKnown c.args.known.now));
}

pub require_in_pass-requires-clause-ready : goal.require_in_pass-requires-clause-ready
require_in_pass-requires-clause-ready c =
    nth_of_all (IsReadyConstraint c.args.objects.now) c.args.list.now c.loop-constraint.constraint-index c.constraint-item.result c.loop-constraint-test.true c.constraint-item.is c.requires.ready

pub require_in_pass-requires-clause-known : goal.require_in_pass-requires-clause-known
require_in_pass-requires-clause-known c = known_still c.args.objects.now c.args.known.now c.args.maker.now c.loop-constraint.maker c.loop-constraint.invariant.says.grows c.requires.known

pub loop-constraint-preserved : goal.loop-constraint-preserved
loop-constraint-preserved c = record {
  says = requires_next c.args.known.now c.args.maker.now c.loop-constraint.maker c.require_in_pass.new.maker (λ values. holds_in c.args.fixing c.args.objects.now values) c.args.list.now c.loop-constraint.constraint-index c.constraint-item.result
      c.loop-constraint-test.true c.constraint-item.is c.loop-constraint.invariant.says c.in_ok-require_in_pass.ensures.says;
  whole = next_wholes c.args.objects.now c.args.known.now c.args.fixing c.loop-constraint.maker c.require_in_pass.new.maker c.args.list.now c.loop-constraint.constraint-index c.constraint-item.result c.in_ok-require_in_pass.ensures.says.grows
      c.loop-constraint-test.true c.constraint-item.is c.loop-constraint.invariant.whole c.in_ok-require_in_pass.ensures.whole;
}

pub returns : goal.returns
returns c = record {
  says = requires_all c.args.known.now c.args.maker.now c.loop-constraint.maker (λ values. holds_in c.args.fixing c.args.objects.now values) c.args.list.now c.loop-constraint.constraint-index c.loop-constraint-test.false c.loop-constraint.invariant.says;
  whole = all_wholes c.args.objects.now c.args.known.now c.args.fixing c.loop-constraint.maker c.args.list.now c.loop-constraint.constraint-index c.loop-constraint-test.false c.loop-constraint.invariant.whole;
}
