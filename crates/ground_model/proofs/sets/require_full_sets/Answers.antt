use Rattle.std.proofs.Common.{[], ◌≡◌, ◌<◌, ◌≤◌, get_or, length, subst}
use Rattle.object_alloc.specs.Walk.{walk, leaves_in}
use Rattle.expr_forms.proofs.Configured.{cells_still}
use Rattle.ground_expr.specs.Asked.{is_full}
use Rattle.ground_model.proofs.Steps.{requires_none, requires_next, requires_never, requires_all}
use Rattle.ground_model.proofs.sets.require_full_sets.Goals as goal

pub loop-i-init : goal.loop-i-init
loop-i-init c = requires_none [] c.args.maker.now (λ values. is_full c.args.objects.now values) (leaves_in (walk c.args.objects.now))

pub require_full-requires-clause-cells : goal.require_full-requires-clause-cells
require_full-requires-clause-cells c = cells_still c.args.objects.now c.args.maker.now c.loop-i.maker c.loop-i.invariant.grows c.requires.cells

pub loop-i-preserved : goal.loop-i-preserved
loop-i-preserved c =
    let e = c.leaves-leaves.ensures.leaves in
    let i = c.loop-i.i in
    let x = c.leaf_at-leaf.result in
    requires_next [] c.args.maker.now c.loop-i.maker c.require_full.new.maker (λ values. is_full c.args.objects.now values) (leaves_in (walk c.args.objects.now)) i x
    (subst (λ ys. i < length ys) e c.loop-i-test.true) (subst (λ ys. x ≡ get_or ys i x) e (c.leaf_at-leaf.ensures x)) c.loop-i.invariant c.in_ok-require_full.ensures.says

pub returns : goal.returns
returns c =
    let e = c.leaves-leaves.ensures.leaves in
    let i = c.loop-i.i in
    record {
      says = requires_all [] c.args.maker.now c.loop-i.maker (λ values. is_full c.args.objects.now values) (leaves_in (walk c.args.objects.now)) i (subst (λ ys. length ys ≤ i) e c.loop-i-test.false) c.loop-i.invariant;
    }

pub returns-then-is_impossible : goal.returns-then-is_impossible
returns-then-is_impossible c =
    let e = c.leaves-leaves.ensures.leaves in
    let i = c.loop-i.i in
    let x = c.leaf_at-leaf.result in
    record {
      says = requires_never [] c.args.maker.now c.loop-i.maker c.require_full.new.maker (λ values. is_full c.args.objects.now values) (leaves_in (walk c.args.objects.now)) i x
          (subst (λ ys. i < length ys) e c.loop-i-test.true) (subst (λ ys. x ≡ get_or ys i x) e (c.leaf_at-leaf.ensures x)) (c.is_impossible.ensures c.if-is_impossible.true) c.loop-i.invariant c.in_ok-require_full.ensures.says;
    }
