use Rattle.std.proofs.Common.{[], List, All, ◌<◌, length, take, sym, ap, ◌∙◌, subst}
use Rattle.conf_types.specs.Resolved.{ResolvedGoal}
use Rattle.ground_form.specs.StandsFor.{AreGoalValues}
use Rattle.ground_expr.specs.Objectives.{functions}
use Rattle.form_build.proofs.Growth.{adds_nothing}
use Rattle.ground_form.specs.declared.ground.GroundGoal.{GroundGoal}
use Rattle.conf_eval.proofs.CallLaws.{nth_of_all}
use Rattle.ground_model.specs.Stated.{IsReadyGoal}
use Rattle.ground_model.proofs.KnownCells.{known_still, fixed_still}
use Rattle.ground_model.proofs.GoalSteps.{AreGoalsUpTo, no_goals, goals_next, goals_all, goals_count}
use Rattle.ground_model.proofs.goals.goals_of.Goals as goal

pub loop-goal-init : goal.loop-goal-init
loop-goal-init c =
    subst (λ (z : List GroundGoal). AreGoalsUpTo c.args.objects.now c.args.maker.now c.args.maker.now z c.args.list.now 0) (sym c.new-goals.ensures.items) (no_goals c.args.objects.now c.args.maker.now c.args.list.now (adds_nothing [] c.args.maker.now))

pub goal_variable-requires-clause-ready : goal.goal_variable-requires-clause-ready
goal_variable-requires-clause-ready c = nth_of_all (IsReadyGoal c.args.objects.now) c.args.list.now c.loop-goal.goal-index c.goal-item.result c.loop-goal-test.true c.goal-item.is c.requires.ready

pub goal_variable-requires-clause-known : goal.goal_variable-requires-clause-known
goal_variable-requires-clause-known c = known_still c.args.objects.now c.args.known.now c.args.maker.now c.loop-goal.maker c.loop-goal.invariant.adds.grows c.requires.known

pub goal_variable-requires-clause-fixed : goal.goal_variable-requires-clause-fixed
goal_variable-requires-clause-fixed c = fixed_still c.args.known.now c.args.maker.now c.loop-goal.maker c.loop-goal.invariant.adds.grows c.requires.fixed

pub loop-goal-preserved : goal.loop-goal-preserved
loop-goal-preserved c =
    let x = c.goal-item.result in
    let found = c.in_ok-var.ensures in
    goals_next c.args.objects.now c.args.maker.now c.loop-goal.maker c.goal_variable.new.maker c.loop-goal.goals.items c.push.new.self.items c.args.list.now c.loop-goal.goal-index x (record { var = c.in_ok-var.var; max = c.goal.inside.max })
    c.loop-goal-test.true c.goal-item.is c.loop-goal.invariant found.adds c.in_ok-push.ensures.items (ap (λ (g : ResolvedGoal). g.max) c.goal.view_is) found.exists found.value

pub returns-clause-exist : goal.returns-clause-exist
returns-clause-exist c = subst (λ (z : List GroundGoal). All (λ (d : GroundGoal). d.var < length c.loop-goal.maker.domains) z) (sym c.of.ensures) c.loop-goal.invariant.exist

pub returns-clause-values : goal.returns-clause-values
returns-clause-values c a w =
    subst (λ (z : List GroundGoal). AreGoalValues z (functions c.args.objects.now c.args.list.now) (take c.loop-goal.maker.search a) a) (sym c.of.ensures)
    (goals_all c.args.objects.now c.args.maker.now c.loop-goal.maker c.loop-goal.goals.items c.args.list.now c.loop-goal.goal-index c.loop-goal-test.false c.loop-goal.invariant a w)

pub returns-clause-count : goal.returns-clause-count
returns-clause-count c = ap length c.of.ensures ∙ goals_count c.args.objects.now c.args.maker.now c.loop-goal.maker c.loop-goal.goals.items c.args.list.now c.loop-goal.goal-index c.loop-goal-test.false c.loop-goal.invariant
