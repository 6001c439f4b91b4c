use Rattle.std.proofs.Common.{[], ◌∙◌, ap}
use Rattle.expr_forms.proofs.Configured.{cells_still}
use Rattle.ground_expr.specs.Asked.{is_full}
use Rattle.ground_model.specs.Sizes.{each_once}
use Rattle.ground_model.proofs.Steps.{requires_nothing, requires_from}
use Rattle.ground_model.proofs.SetSums.{surplus_linear, full_is}
use Rattle.ground_model.proofs.sets.require_full.Goals as goal

pub returns-in_default : goal.returns-in_default
returns-in_default c = record {
  says = requires_nothing [] c.args.maker.now (λ values. is_full c.args.objects.now values c.args.leaf) (λ values. c.in_default.ensures.none _);
}

pub state-requires-clause-test : goal.state-requires-clause-test
state-requires-clause-test c =
    let r = c.in-Some.ensures.some in
    surplus_linear c.args.objects.now c.count-count.ensures.sound c.args.leaf r.0 c.in-Some.size c.requires.leaf r.1 c.args.maker.now c.in_ok-f.f c.requires.cells c.count-count.ensures.limits.cells c.in_ok-f.ensures.small
    (c.in_ok-f.ensures.terms ∙ ap each_once c.own_cells-cells.ensures.cells) c.in_ok-f.ensures.offset

pub returns : goal.returns
returns c =
    let o = c.args.objects.now in
    let r = c.in-Some.ensures.some in
    let said = c.in_ok-state.ensures.says in
    let terms = c.in_ok-f.ensures.terms ∙ ap each_once c.own_cells-cells.ensures.cells in
    record {
      says = requires_from [] c.args.maker.now c.state.new.m _ (λ values. is_full o values c.args.leaf)
          (λ a w kn. full_is o c.count-count.ensures.sound c.args.leaf r.0 c.in-Some.size c.requires.leaf r.1 c.state.new.m c.in_ok-f.f a (cells_still o c.args.maker.now c.state.new.m said.grows c.requires.cells) w terms c.in_ok-f.ensures.offset)
          said;
    }
