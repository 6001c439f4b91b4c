use Rattle.std.proofs.Common.{not, ◌||◌, ◌&&◌, List, ℤ, Some, sym, ap, ◌∙◌}
use Rattle.std.specs.List.{list_all}
use Rattle.conf_types.specs.Resolved.{ResolvedConstraint}
use Rattle.form_build.specs.Worlds.{AreKnown}
use Rattle.ground_expr.specs.Asked.{holds_for}
use Rattle.ground_model.specs.WholesStand.{compares}
use Rattle.ground_model.proofs.KnownCells.{known_still}
use Rattle.ground_model.proofs.RowSteps.{once_more}
use Rattle.ground_model.proofs.Steps.{requires_more, requires_same}
use Rattle.ground_model.proofs.WholeSteps.{told, none_compared}
use Rattle.ground_model.proofs.constraints.require_members.Goals as goal

pub require_each-requires-clause-known : goal.require_each-requires-clause-known
require_each-requires-clause-known c = known_still c.args.objects.now c.args.known.now c.args.maker.now c.require_packed.new.maker c.in_ok-packs.ensures.says.grows c.requires.known

pub returns-then-is_told : goal.returns-then-is_told
returns-then-is_told c =
    let packs = c.in_ok-packs.packs in
    let o = c.args.objects.now in
    let new = c.require_packed.new.maker in
    let all = λ (values : List ℤ). list_all (λ n. holds_for o values c.args.constraint.now (Some n)) c.args.members.now in
    record {
      says = requires_same c.args.known.now c.args.maker.now new (λ values. not packs || all values) all (λ values. told packs (all values) (c.is_told.ensures.packs c.if-is_told.true)) c.in_ok-packs.ensures.says;
      whole = none_compared o new (AreKnown c.args.known.now) c.args.constraint.now.tree c.args.members.now (sym (ap (λ (k : ResolvedConstraint). compares k.tree) c.constraint.view_is) ∙ c.is_told.ensures.compares c.if-is_told.true);
    }

pub returns : goal.returns
returns c =
    let packs = c.in_ok-packs.packs in
    record {
      says =
          requires_same c.args.known.now c.args.maker.now c.require_each.new.maker
          (λ values. (not packs || list_all (λ n. holds_for c.args.objects.now values c.args.constraint.now (Some n)) c.args.members.now) && list_all (λ n. holds_for c.args.objects.now values c.args.constraint.now (Some n)) c.args.members.now)
          (λ values. list_all (λ n. holds_for c.args.objects.now values c.args.constraint.now (Some n)) c.args.members.now)
          (λ values. once_more packs (list_all (λ n. holds_for c.args.objects.now values c.args.constraint.now (Some n)) c.args.members.now))
          (requires_more c.args.known.now c.args.maker.now c.require_packed.new.maker c.require_each.new.maker
          (λ values. not packs || list_all (λ n. holds_for c.args.objects.now values c.args.constraint.now (Some n)) c.args.members.now)
          (λ values. list_all (λ n. holds_for c.args.objects.now values c.args.constraint.now (Some n)) c.args.members.now)
          c.in_ok-packs.ensures.says c.in_ok-require_each.ensures.says);
      whole = c.in_ok-require_each.ensures.whole;
    }
