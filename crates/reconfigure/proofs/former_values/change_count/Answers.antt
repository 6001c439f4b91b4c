use Rattle.std.proofs.Common.{◌≡◌, ◌<◌, ◌≤◌, ◌+◌, List, ℤ, ap, cond, drop, get_or, length, refl, subst, sym, take, ◌∙◌, arith}
use Rattle.object_alloc.specs.declared.object.Leaf.{Leaf}
use Rattle.object_alloc.specs.Changes.{changes, is_changed}
use Rattle.object_alloc.specs.Walk.{leaves_in, walk}
use Rattle.reconfigure.proofs.LeafLaws.{at_most, leaf_changes, left_next, within_cells}
use Rattle.reconfigure.proofs.former_values.change_count.Goals as goal

pub overflow_add-next : goal.overflow_add-next
overflow_add-next c =
    let o = c.args.objects.now in
    let e = c.leaves-leaves.ensures.leaves in
    let i = c.loop-i.i in
    let x = c.leaf_at.result in
    let within = within_cells o (leaves_in (walk o)) i c.loop-i.first c.cell_count.result x
    (subst (λ (ys : List Leaf). i < length ys) e c.loop-i-test.true) (subst (λ (ys : List Leaf). x ≡ get_or ys i x) e (c.leaf_at.ensures x)) c.cell_count.ensures c.loop-i.invariant.left in
    let few = c.count-count.ensures.limits.cells in
    omega (arith, within, few)

pub is_leaf_changed-requires : goal.is_leaf_changed-requires
is_leaf_changed-requires c =
    let o = c.args.objects.now in
    let e = c.leaves-leaves.ensures.leaves in
    let i = c.loop-i.i in
    let x = c.leaf_at.result in
    let within = within_cells o (leaves_in (walk o)) i c.loop-i.first c.cell_count.result x
    (subst (λ (ys : List Leaf). i < length ys) e c.loop-i-test.true) (subst (λ (ys : List Leaf). x ≡ get_or ys i x) e (c.leaf_at.ensures x)) c.cell_count.ensures c.loop-i.invariant.left in
    record {
      order = omega arith;
      hints = omega (arith, within, c.requires.hints);
      values = subst (λ (vs : List ℤ). c.loop-i.first + c.cell_count.result ≤ length vs) (sym c.items-values.ensures.values) (omega (arith, within, c.requires.values));
    }

pub loop-i-preserved : goal.loop-i-preserved
loop-i-preserved c =
    let o = c.args.objects.now in
    let ls = leaves_in (walk o) in
    let e = c.leaves-leaves.ensures.leaves in
    let i = c.loop-i.i in
    let first = c.loop-i.first in
    let x = c.leaf_at.result in
    let n = c.cell_count.result in
    let lt : i < length ls = subst (λ (ys : List Leaf). i < length ys) e c.loop-i-test.true in
    let is : x ≡ get_or ls i x = subst (λ (ys : List Leaf). x ≡ get_or ys i x) e (c.leaf_at.ensures x) in
    let there = c.loop-i.invariant in
    let changed = subst (λ (vs : List ℤ). c.is_leaf_changed.result ≡ is_changed (take n (drop first c.args.former.now)) (take n (drop first vs))) c.items-values.ensures.values (c.is_leaf_changed.ensures n refl) in
    record {
      left = left_next o ls i first n x lt is c.cell_count.ensures there.left;
      value = leaf_changes o ls i first n x c.args.former.now c.args.config.now c.loop-i.count c.count_if-count.result (changes o c.args.former.now c.args.config.now) lt is c.cell_count.ensures
          (c.count_if-count.ensures ∙ ap (λ b. c.loop-i.count + cond b 1 0) changed) there.value;
      few = omega (arith, at_most c.loop-i.count c.count_if-count.result c.is_leaf_changed.result c.count_if-count.ensures, there.few);
    }
