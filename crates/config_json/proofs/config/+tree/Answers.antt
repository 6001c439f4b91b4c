use Rattle.std.proofs.Common.{◌+◌, ◌≤◌, ◌∙◌, Some, length, drop, sym, ap, subst, arith}
use Rattle.std.specs.Prelude.{slice_index_or}
use Rattle.object_alloc.specs.Variables.{variables_of}
use Rattle.object_alloc.specs.Walk.{objects}
use Rattle.serde_json.specs.Data.{object, put}
use Rattle.serde_json.specs.View.{members_view}
use Rattle.serde_json.proofs.Views.{view-Object}
use Rattle.config_json.specs.Contained.{AreContained}
use Rattle.config_json.specs.Keys.{text_of}
use Rattle.config_json.specs.Tree.{leaf_data, object_data, with_variables}
use Rattle.config_json.proofs.ObjectLaws.{below_less, contained_at, leaf_is, object_made, parts_contained, variables_next, variables_done}
use Rattle.config_json.proofs.TreeLaws.{data_next, data_done}
use Rattle.config_json.proofs.config.+tree.Goals as goal

pub attribute_value-first_value-requires : goal.attribute_value-first_value-requires
attribute_value-first_value-requires t c =
    let o = c.args.objects.now in (
      omega (arith, c.decreases),
      subst (AreContained o c.args.owner) (sym c.parts.ensures.parts)
          (parts_contained o c.args.owner c.args.k),
    )

pub attribute_value-object_values-requires : goal.attribute_value-object_values-requires
attribute_value-object_values-requires t c =
    let o = c.args.objects.now in (
      omega (arith, c.decreases),
      subst (AreContained o c.args.owner)
          (sym c.parts-in-Many.ensures.parts) (parts_contained o c.args.owner c.args.k),
    )

pub attribute_value-returns-in_ok-value-in_default :
    goal.attribute_value-returns-in_ok-value-in_default
attribute_value-returns-in_ok-value-in_default t c =
    let o = c.args.objects.now in
    let of = object_data o c.args.values.now in
    record {
      value = c.in_ok-value-in_default.ensures.value
          ∙ ap (λ is. leaf_data o c.args.values.now is c.args.shape) c.own_cells.ensures.cells
          ∙ leaf_is of o c.args.values.now c.args.owner c.args.k c.args.shape c.in_default.not-One
          c.in_default.not-Many;
    }

pub object_value-returns : goal.object_value-returns
object_value-returns t c =
    let o = c.args.objects.now in
    let values = c.args.values.now in
    record {
      value = view-Object c.in_ok-members-2.members
          ∙ ap object (c.in_ok-members-2.ensures.members ∙ ap (with_variables (object_data o values) o values (Some c.args.n) 0 (variables_of o (Some c.args.n))) c.in_ok-members.ensures.members)
          ∙ object_made o values c.args.n c.requires.object;
    }

pub object_values-object_value-requires : goal.object_values-object_value-requires
object_values-object_value-requires t c =
    let o = c.args.objects.now in
    let there = contained_at o c.args.owner c.args.parts.now c.loop-n.n-index 0 c.requires.parts c.loop-n-test.true in
    let less = below_less (length (objects o)) c.args.owner (slice_index_or c.args.parts.now c.loop-n.n-index 0) there.0 there.1 in
    (omega (arith, c.decreases, less), there.1)

pub object_values-loop-n-preserved : goal.object_values-loop-n-preserved
object_values-loop-n-preserved t c =
    data_next (object_data c.args.objects.now c.args.values.now) c.args.parts.now c.loop-n.n-index 0
    c.loop-n.items.items c.push.new.self.items c.in_ok-item.item _ c.loop-n-test.true
    c.in_ok-item.ensures.value c.in_ok-push.ensures.items c.loop-n.invariant

pub object_values-returns : goal.object_values-returns
object_values-returns t c =
    record {
      items = data_done (object_data c.args.objects.now c.args.values.now) c.args.parts.now
          c.loop-n.n-index c.loop-n.items.items _ (omega (arith, c.loop-n-test.false, c.loop-n.auto))
          c.loop-n.invariant;
    }

pub with_variables-loop-k-preserved : goal.with_variables-loop-k-preserved
with_variables-loop-k-preserved t c =
    let o = c.args.objects.now in
    let values = c.args.values.now in
    let of = object_data o values in
    let vs = variables_of o c.args.owner in
    let old = members_view c.loop-k.members.entries in
    let name = c.variable_of-variable.result.name.now in
    let put_is = c.in_ok-put_value.ensures.members ∙ ap (λ d. put (text_of name) d old) c.in_ok-value.ensures.value in
    ap (with_variables of o values c.args.owner (c.loop-k.k + 1) (drop (c.loop-k.k + 1) vs)) put_is
    ∙ sym (variables_next of o values c.args.owner vs c.loop-k.k (record { name = name; shape = c.variable_of-variable.result.shape }) old c.variable_of-variable.ensures.variable)
    ∙ c.loop-k.invariant

pub with_variables-returns : goal.with_variables-returns
with_variables-returns t c =
    let o = c.args.objects.now in
    let values = c.args.values.now in
    let least : length (variables_of o c.args.owner) ≤ c.loop-k.k =
    omega (arith, c.loop-k-test.false, c.loop-k.auto, c.shape_count-k-end.ensures.count) in
    record { members = sym (variables_done (object_data o values) o values c.args.owner (variables_of o c.args.owner) c.loop-k.k (members_view c.loop-k.members.entries) least) ∙ c.loop-k.invariant }
