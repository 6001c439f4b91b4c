use Rattle.std.proofs.Common.{List, ℕ, ℤ, All, take, length, sym, ap, ◌∙◌, subst}
use Rattle.conf_types.specs.Programs.{ResolvedGoal}
use Rattle.form_build.specs.Worlds.{IsWorld}
use Rattle.ground_form.specs.declared.ground.Ground.{Ground}
use Rattle.ground_form.specs.StandsFor.{AreGoalValues, StandsFor}
use Rattle.ground_form.specs.WellMade.{IsWellMade}
use Rattle.ground_build.specs.Growing.{with_goals}
use Rattle.ground_cells.specs.CellBoxes.{cell_boxes}
use Rattle.form_build.proofs.Growth.{grows_more, defines_more}
use Rattle.ground_expr.specs.Asked.{satisfied_by}
use Rattle.ground_expr.specs.Objectives.{functions}
use Rattle.ground_model.specs.Known.{HasKnown, AreFixed}
use Rattle.ground_model.specs.Stated.{IsReadyGoal}
use Rattle.ground_model.proofs.KnownCells.{known_still, fixed_still}
use Rattle.ground_model.proofs.Endings.{cells_first, whole_stands}
use Rattle.ground_model.proofs.WholeSteps.{solutions_still, wholes_aimed}
use Rattle.ground_model.proofs.problem.whole_problem.Goals as goal

pub require_model-requires-clause-cells : goal.require_model-requires-clause-cells
require_model-requires-clause-cells c = cells_first c.args.objects.now c.args.maker c.requires.cells

pub goals_of-requires-clause-ready : goal.goals_of-requires-clause-ready
goals_of-requires-clause-ready c = subst (λ (z : List ResolvedGoal). All (IsReadyGoal c.args.objects.now) z) (sym c.goals.ensures.goals) c.requires.ready.goals

pub goals_of-requires-clause-known : goal.goals_of-requires-clause-known
goals_of-requires-clause-known c =
    subst (λ (z : List (ℕ × ℤ)). HasKnown c.args.objects.now z c.add_packings.new.maker) (sym c.as_slice.ensures.value)
    (known_still c.args.objects.now c.in_ok-known.known.items c.require_model.new.maker c.add_packings.new.maker c.in_ok-add_packings.ensures.grows c.in_ok-known.ensures.known)

pub goals_of-requires-clause-fixed : goal.goals_of-requires-clause-fixed
goals_of-requires-clause-fixed c =
    subst (λ (z : List (ℕ × ℤ)). AreFixed z c.add_packings.new.maker) (sym c.as_slice.ensures.value)
    (fixed_still c.in_ok-known.known.items c.require_model.new.maker c.add_packings.new.maker c.in_ok-add_packings.ensures.grows c.in_ok-known.ensures.fixed)

pub returns : goal.returns
returns c =
    let o = c.args.objects.now in
    let gs = c.args.model.now.goals in
    let g = c.goals_of.new.maker in
    let goals = c.in_ok-goals.goals in
    let same = c.finish-g.ensures.problem ∙ ap (λ (z : Ground). with_goals z goals) c.into_builder.ensures in
    let made = subst IsWellMade same c.finish-g.ensures.well_made in
    let count = c.in_ok-goals.ensures.count ∙ ap length c.goals.ensures.goals in
    let values : (a : List ℤ) → IsWorld g a → AreGoalValues goals (functions o gs) (take g.search a) a =
    λ a w. subst (λ (z : List ResolvedGoal). AreGoalValues goals (functions o z) (take g.search a) a) c.goals.ensures.goals (c.in_ok-goals.ensures.values a w) in
    record {
      stands = subst (λ (z : Ground). StandsFor z (cell_boxes o) (satisfied_by o c.args.model.now.constraints) (functions o gs)) (sym same)
          (whole_stands o c.args.model.now.constraints gs c.args.maker c.require_model.new.maker g goals c.requires.cells c.in_ok-known.ensures.says (defines_more c.require_model.new.maker c.add_packings.new.maker g c.in_ok-add_packings.ensures c.in_ok-goals.ensures.adds) made count values);
      whole = wholes_aimed o g c.finish-g.result goals c.args.model.now.constraints same (solutions_still o c.require_model.new.maker g c.args.model.now.constraints (grows_more c.require_model.new.maker c.add_packings.new.maker g c.in_ok-add_packings.ensures.grows c.in_ok-goals.ensures.adds.grows) c.in_ok-known.ensures.whole);
    }
