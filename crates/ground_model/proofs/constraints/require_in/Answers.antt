use Rattle.std.proofs.Common.{Some, ℕ, List, [], ◌∙◌, sym, subst}
use Rattle.std.specs.List.{All, list_all}
use Rattle.form_build.specs.Worlds.{AreKnown}
use Rattle.ground_expr.specs.Asked.{holds_for}
use Rattle.ground_expr.specs.StandsWhole.{StandsWhole}
use Rattle.ground_model.specs.Requiring.{Requires}
use Rattle.ground_model.specs.Stated.{IsReady}
use Rattle.ground_model.proofs.constraints.require_in.Goals as goal

pub require_members-requires-clause-ready : goal.require_members-requires-clause-ready
require_members-requires-clause-ready c =
    subst (All (λ (n : ℕ). IsReady c.args.objects.now c.args.constraint.now.tree (Some n))) (sym (c.items.ensures.items ∙ c.in_ok-members.ensures.extent)) c.requires.ready

pub returns : goal.returns
returns c = record {
  says = subst (λ (ys : List ℕ). Requires c.args.known.now c.args.maker.now c.require_members.new.maker (λ values. list_all (λ n. holds_for c.args.objects.now values c.args.constraint.now (Some n)) ys)) (c.items.ensures.items ∙ c.in_ok-members.ensures.extent) c.in_ok-require_members.ensures.says;
  whole = subst (All (λ (n : ℕ). StandsWhole c.args.objects.now c.require_members.new.maker (AreKnown c.args.known.now) c.args.constraint.now.tree (Some n) [])) (c.items.ensures.items ∙ c.in_ok-members.ensures.extent) c.in_ok-require_members.ensures.whole;
}
