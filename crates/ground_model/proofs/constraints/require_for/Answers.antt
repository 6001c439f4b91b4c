use Rattle.std.proofs.Common.{[], sym, subst}
use Rattle.conf_types.specs.Resolved.{ResolvedConstraint}
use Rattle.form_build.specs.Worlds.{AreKnown}
use Rattle.ground_expr.specs.Asked.{holds_for}
use Rattle.ground_expr.specs.StandsWhole.{StandsWhole}
use Rattle.ground_model.specs.Requiring.{Requires}
use Rattle.ground_model.specs.Stated.{IsReady}
use Rattle.ground_model.proofs.constraints.require_for.Goals as goal

pub require_tree-requires-clause-ready : goal.require_tree-requires-clause-ready
require_tree-requires-clause-ready c = subst (λ (k : ResolvedConstraint). IsReady c.args.objects.now k.tree c.args.this) (sym c.constraint.view_is) c.requires.ready

pub returns : goal.returns
returns c = record {
  says = subst (λ (k : ResolvedConstraint). Requires c.args.known.now c.args.maker.now c.require_tree.new.maker (λ values. holds_for c.args.objects.now values k c.args.this)) c.constraint.view_is c.in_ok-require_tree.ensures.says;
  whole = subst (λ (k : ResolvedConstraint). StandsWhole c.args.objects.now c.require_tree.new.maker (AreKnown c.args.known.now) k.tree c.args.this []) c.constraint.view_is c.in_ok-require_tree.ensures.whole;
}
