use Rattle.std.proofs.Common.{ℕ, ◌+◌, ◌*◌, ◌&&◌, sym, subst}
use Rattle.conf_types.specs.Resolved.{ResolvedConstraint}
use Rattle.conf_types.specs.TreeOf.{tree_of}
use Rattle.conf_limits.specs.Limits.{IsConstraintThere, IsTotal}
use Rattle.conf_limits.specs.Measures.{constraint_weight, constraint_narrow, times_stated}
use Rattle.conf_limits.proofs.TotalLaws.{step, done, first_there, rest_there}
use Rattle.conf_limits.proofs.limit.of_constraints.Goals as goal

pub times_stated-times-requires : goal.times_stated-times-requires
times_stated-times-requires c =
    let there = first_there (IsConstraintThere c.args.objects.now) c.args.list.now c.loop-constraint.constraint-index c.constraint-item.result c.loop-constraint-test.true c.constraint-item.is c.loop-constraint.invariant.there in
    record { class = (subst (IsConstraintThere c.args.objects.now) (sym c.constraint.view_is) there).class }

pub measured-requires : goal.measured-requires
measured-requires c =
    let there = first_there (IsConstraintThere c.args.objects.now) c.args.list.now c.loop-constraint.constraint-index c.constraint-item.result c.loop-constraint-test.true c.constraint-item.is c.loop-constraint.invariant.there in
    record { there = (subst (IsConstraintThere c.args.objects.now) (sym c.constraint.view_is) there).tree }

pub loop-constraint-preserved : goal.loop-constraint-preserved
loop-constraint-preserved c =
    let o = c.args.objects.now in
    let es = c.args.list.now in
    let k = c.loop-constraint.constraint-index in
    let e = c.constraint-item.result in
    let seen = c.constraint.inside in
    let n = c.with_stated-total.result in
    let on = c.loop-constraint-test.true in
    let is = c.constraint-item.is in
    record {
      there = rest_there (IsConstraintThere o) es k e on is c.loop-constraint.invariant.there;
      total = step (constraint_weight o) (constraint_narrow o) es k e c.loop-constraint.total n on is c.loop-constraint.invariant.total
          (λ w b h. subst (λ (x : ResolvedConstraint). IsTotal n (w + constraint_weight o x) (b && constraint_narrow o x)) c.constraint.view_is
          (c.with_stated-total.ensures o (tree_of seen.expr) w (times_stated o seen.class) b c.times_stated-times.ensures c.measured.ensures.measure h));
    }

pub returns : goal.returns
returns c = record { total = done (constraint_weight c.args.objects.now) (constraint_narrow c.args.objects.now) c.args.list.now c.loop-constraint.constraint-index c.loop-constraint.total c.loop-constraint-test.false c.loop-constraint.invariant.total }
