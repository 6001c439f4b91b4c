use Rattle.std.proofs.Common.{◌+◌, ◌*◌, ◌++◌, ◌∷◌, [], true, take, ◌-◌}
use Rattle.std.specs.List.{list_all}
use Rattle.conf_types.specs.declared.tree.RExpr.{RExpr}
use Rattle.conf_types.specs.TreeOf.{tree_of, trees_of, quant_tree, optional_tree}
use Rattle.conf_eval.specs.Evaluating.{IsRoom, height, bodies_height}
use Rattle.form_build.specs.Worlds.{Adds}
use Rattle.expr_forms.specs.declared.form.Member.{Member}
use Rattle.expr_forms.specs.Standing.{world_setting}
use Rattle.ground_expr.specs.Stated.{body_wanted, member_wanted}
use Rattle.ground_expr.proofs.statements.+statements.Given as goal

abbrev pub decreases-require_at : goal.decreases-require_at
decreases-require_at l = 16 * height (tree_of l.e.now)

abbrev pub decreases-require_quant : goal.decreases-require_quant
decreases-require_quant l = 16 * height (quant_tree l.quant.now 0) - 1

abbrev pub decreases-require_members : goal.decreases-require_members
decreases-require_members l = 16 * bodies_height (trees_of l.body.now) + 12

abbrev pub decreases-require_member : goal.decreases-require_member
decreases-require_member l = 16 * bodies_height (trees_of l.body.now) + 10

abbrev pub decreases-require_all : goal.decreases-require_all
decreases-require_all l = 16 * bodies_height (trees_of l.body.now) + 8

abbrev pub decreases-require_body : goal.decreases-require_body
decreases-require_body l = 16 * height (tree_of l.e.now) + 4

-- what was stated is that of the members passed
abbrev pub invariant-require_members-loop-m : goal.invariant-require_members-loop-m
invariant-require_members-loop-m l =
    let o = l.scene.objects.now in
    record {
      room : IsRoom l.scene.vars.now l.inner.items;
      says : Adds l.scene.known.now l.fn.maker l.maker (λ a. list_all (λ (m : Member). member_wanted m.is (optional_tree l.filter) (trees_of l.body) l.want (world_setting o l.maker a l.scene.this (l.scene.vars.now ++ m.object ∷ [])) a) (take l.m-index l.members));
    }

-- what was stated is that of the bodies passed
abbrev pub invariant-require_all-loop-e : goal.invariant-require_all-loop-e
invariant-require_all-loop-e l = record {
  says : Adds l.scene.known.now l.fn.maker l.maker (λ a. list_all (λ (e : RExpr). body_wanted l.is (optional_tree l.filter) (tree_of e) true (world_setting l.scene.objects.now l.maker a l.scene.this l.scene.vars.now) a) (take l.e-index l.body));
}
