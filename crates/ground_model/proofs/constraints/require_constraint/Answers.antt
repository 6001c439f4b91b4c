use Rattle.std.proofs.Common.{sym, ap, ◌∙◌}
use Rattle.conf_types.specs.Resolved.{ResolvedConstraint}
use Rattle.form_build.specs.Worlds.{AreKnown}
use Rattle.ground_model.proofs.ReadyModels.{class_ready, class_low, top_ready}
use Rattle.ground_model.proofs.Steps.{requires_class, requires_top}
use Rattle.ground_model.proofs.WholeSteps.{class_stands, top_stands}
use Rattle.ground_model.proofs.constraints.require_constraint.Goals as goal

pub require_in-requires-clause-class : goal.require_in-requires-clause-class
require_in-requires-clause-class c =
    class_low c.args.objects.now c.args.constraint.now c.in-Some.class (ap (λ (k : ResolvedConstraint). k.class) (sym c.constraint.view_is) ∙ c.in-Some.is) c.requires.ready

pub require_in-requires-clause-ready : goal.require_in-requires-clause-ready
require_in-requires-clause-ready c =
    class_ready c.args.objects.now c.args.constraint.now c.in-Some.class (ap (λ (k : ResolvedConstraint). k.class) (sym c.constraint.view_is) ∙ c.in-Some.is) c.requires.ready

pub returns-in_ok-require_in-in-Some : goal.returns-in_ok-require_in-in-Some
returns-in_ok-require_in-in-Some c = record {
  says = requires_class c.args.known.now c.args.objects.now c.args.constraint.now c.in-Some.class c.args.maker.now c.require_in.new.maker (ap (λ (k : ResolvedConstraint). k.class) (sym c.constraint.view_is) ∙ c.in-Some.is) c.in_ok-require_in-in-Some.ensures.says;
  whole = class_stands c.args.objects.now c.require_in.new.maker (AreKnown c.args.known.now) c.args.constraint.now c.in-Some.class (ap (λ (k : ResolvedConstraint). k.class) (sym c.constraint.view_is) ∙ c.in-Some.is) c.in_ok-require_in-in-Some.ensures.whole;
}

pub require_for-requires-clause-ready : goal.require_for-requires-clause-ready
require_for-requires-clause-ready c =
    top_ready c.args.objects.now c.args.constraint.now (ap (λ (k : ResolvedConstraint). k.class) (sym c.constraint.view_is) ∙ c.in-None.is) c.requires.ready

pub returns-in_ok-require_for-in-None : goal.returns-in_ok-require_for-in-None
returns-in_ok-require_for-in-None c = record {
  says = requires_top c.args.known.now c.args.objects.now c.args.constraint.now c.args.maker.now c.require_for.new.maker (ap (λ (k : ResolvedConstraint). k.class) (sym c.constraint.view_is) ∙ c.in-None.is) c.in_ok-require_for-in-None.ensures.says;
  whole = top_stands c.args.objects.now c.require_for.new.maker (AreKnown c.args.known.now) c.args.constraint.now (ap (λ (k : ResolvedConstraint). k.class) (sym c.constraint.view_is) ∙ c.in-None.is) c.in_ok-require_for-in-None.ensures.whole;
}
