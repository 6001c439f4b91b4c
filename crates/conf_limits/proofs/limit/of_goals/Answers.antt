use Rattle.std.proofs.Common.{◌≡◌, ◌+◌, ◌*◌, ◌&&◌, refl, arith, sym, subst}
use Rattle.conf_types.specs.Resolved.{ResolvedGoal}
use Rattle.conf_types.specs.TreeOf.{tree_of}
use Rattle.conf_limits.specs.Limits.{IsGoalThere, IsTotal}
use Rattle.conf_limits.specs.Measures.{goal_weight, goal_narrow, narrow, weight}
use Rattle.conf_limits.proofs.TotalLaws.{step, done, first_there, rest_there}
use Rattle.conf_limits.proofs.limit.of_goals.Goals as goal

pub measured-requires : goal.measured-requires
measured-requires c =
    let there = first_there (IsGoalThere c.args.objects.now) c.args.list.now c.loop-goal.goal-index c.goal-item.result c.loop-goal-test.true c.goal-item.is c.loop-goal.invariant.there in
    record { there = subst (IsGoalThere c.args.objects.now) (sym c.goal.view_is) there }

pub loop-goal-preserved : goal.loop-goal-preserved
loop-goal-preserved c =
    let o = c.args.objects.now in
    let es = c.args.list.now in
    let k = c.loop-goal.goal-index in
    let e = c.goal-item.result in
    let t = tree_of c.goal.inside.expr in
    let n = c.with_stated-total.result in
    let on = c.loop-goal-test.true in
    let is = c.goal-item.is in
    let once : 1 * weight o t ≡ weight o t = omega arith in
    record {
      there = rest_there (IsGoalThere o) es k e on is c.loop-goal.invariant.there;
      total = step (goal_weight o) (goal_narrow o) es k e c.loop-goal.total n on is c.loop-goal.invariant.total
          (λ w b h. subst (λ (x : ResolvedGoal). IsTotal n (w + goal_weight o x) (b && goal_narrow o x)) c.goal.view_is
          (subst (λ x. IsTotal n (w + x) (b && narrow o t)) once (c.with_stated-total.ensures o t w 1 b refl c.measured.ensures.measure h)));
    }

pub returns : goal.returns
returns c = record { total = done (goal_weight c.args.objects.now) (goal_narrow c.args.objects.now) c.args.list.now c.loop-goal.goal-index c.loop-goal.total c.loop-goal-test.false c.loop-goal.invariant.total }
