use Rattle.std.proofs.Common.{[], Some, ℕ}
use Rattle.std.proofs.lemmas.List.Elements.{All-nil}
use Rattle.conf_eval.proofs.CallLaws.{nth_of_all}
use Rattle.form_build.specs.Worlds.{AreKnown}
use Rattle.ground_expr.specs.Asked.{holds_for}
use Rattle.ground_expr.specs.StandsWhole.{StandsWhole}
use Rattle.ground_model.specs.Stated.{IsReady}
use Rattle.ground_model.proofs.KnownCells.{known_still}
use Rattle.ground_model.proofs.Steps.{requires_none, requires_next, requires_all}
use Rattle.ground_model.proofs.WholeSteps.{next_stands, all_stand}
use Rattle.ground_model.proofs.constraints.require_each.Goals as goal

pub loop-i-init : goal.loop-i-init
loop-i-init c = record {
  says = requires_none c.args.known.now c.args.maker.now (λ values n. holds_for c.args.objects.now values c.args.constraint.now (Some n)) c.args.members.now;
  whole = All-nil (λ (n : ℕ). StandsWhole c.args.objects.now c.args.maker.now (AreKnown c.args.known.now) c.args.constraint.now.tree (Some n) []);
}

pub require_for-requires-clause-ready : goal.require_for-requires-clause-ready
require_for-requires-clause-ready c =
    nth_of_all (λ (n : ℕ). IsReady c.args.objects.now c.args.constraint.now.tree (Some n)) c.args.members.now c.loop-i.i c.number_at.result c.loop-i-test.true (c.number_at.ensures c.number_at.result) c.requires.ready

pub require_for-requires-clause-known : goal.require_for-requires-clause-known
require_for-requires-clause-known c = known_still c.args.objects.now c.args.known.now c.args.maker.now c.loop-i.maker c.loop-i.invariant.says.grows c.requires.known

pub loop-i-preserved : goal.loop-i-preserved
loop-i-preserved c = record {
  says = requires_next c.args.known.now c.args.maker.now c.loop-i.maker c.require_for.new.maker (λ values n. holds_for c.args.objects.now values c.args.constraint.now (Some n)) c.args.members.now c.loop-i.i c.number_at.result
      c.loop-i-test.true (c.number_at.ensures c.number_at.result) c.loop-i.invariant.says c.in_ok-require_for.ensures.says;
  whole = next_stands c.args.objects.now c.args.known.now c.args.constraint.now.tree c.loop-i.maker c.require_for.new.maker c.args.members.now c.loop-i.i c.number_at.result c.in_ok-require_for.ensures.says.grows c.loop-i-test.true (c.number_at.ensures c.number_at.result)
      c.loop-i.invariant.whole c.in_ok-require_for.ensures.whole;
}

pub returns : goal.returns
returns c = record {
  says = requires_all c.args.known.now c.args.maker.now c.loop-i.maker (λ values n. holds_for c.args.objects.now values c.args.constraint.now (Some n)) c.args.members.now c.loop-i.i c.loop-i-test.false c.loop-i.invariant.says;
  whole = all_stand c.args.objects.now c.args.known.now c.args.constraint.now.tree c.loop-i.maker c.args.members.now c.loop-i.i c.loop-i-test.false c.loop-i.invariant.whole;
}
