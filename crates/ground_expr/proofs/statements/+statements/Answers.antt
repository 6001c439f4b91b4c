use Rattle.std.proofs.Common.{◌≡◌, ◌∙◌, ap, sym, arith, Bool, true, false, List, [], ◌∷◌, ◌++◌, subst, length}
use Rattle.std.specs.List.{All, list_all}
use Rattle.std.proofs.lemmas.Result.{on_ok_weaker}
use Rattle.conf_types.specs.declared.tree.RExpr.{RExpr}
use Rattle.conf_types.specs.declared.tree.RQuant as quant
use Rattle.conf_types.specs.Trees.{Tree}
use Rattle.conf_types.specs.TreeOf.{tree_of, node_tree, quant_tree, optional_tree, trees_of}
use Rattle.conf_types.specs.Trees as tree
use Rattle.conf_eval.specs.Evaluating.{height, bodies_height}
use Rattle.conf_eval.proofs.EvalLaws.{quant_is, quant_height, quant_moved, nth_evaluable, nth_low}
use Rattle.form_build.specs.Forms.{HasVariable}
use Rattle.form_build.specs.Worlds.{Adds}
use Rattle.expr_forms.specs.declared.form.Member.{Member}
use Rattle.expr_forms.specs.Standing.{IsStanding, HasCells, bare_setting, world_setting}
use Rattle.expr_forms.proofs.Configured.{cells_still}
use Rattle.expr_forms.proofs.Growing.{boxes_kept, variable_kept}
use Rattle.expr_forms.proofs.Inside.{in_right}
use Rattle.ground_expr.specs.Insides.{IsInside}
use Rattle.ground_expr.specs.Stated.{Says, asks_each, member_wanted}
use Rattle.ground_expr.proofs.InsideQuantifiers.{over_stands}
use Rattle.ground_expr.proofs.PartSteps.{at_scene, item_at, members_inside}
use Rattle.ground_expr.proofs.Stating.{says_at, says_moved, says_not, no_bodies, body_more, all_bodies, only_one, one_body, says_both, says_quant, says_each, no_members, member_more, all_members, none_there, always_kept, maybe_kept}
use Rattle.ground_expr.proofs.Steps.{stand_at}
use Rattle.ground_expr.proofs.statements.+statements.Goals as goal

pub require_at-require_at-requires-in-Some-2 : goal.require_at-require_at-requires-in-Some-2
require_at-require_at-requires-in-Some-2 t c =
    let o = c.args.scene.now.objects.now in
    let known = c.args.scene.now.known.now in
    let this = c.args.scene.now.this in
    let vars = c.args.scene.now.vars.now in
    let at = c.args.e.now.at in
    let l = tree_of c.deref-in-Some.result.now in
    let r = tree_of c.deref-in-Some-2.result.now in
    let is = ap (λ n. node_tree n at) c.in-Pair.is ∙ ap (λ x. tree.Pair at c.in-Pair.op (tree_of x) (tree_of c.in-Pair.right.value)) (sym c.deref-in-Some.ensures) ∙ ap (λ x. tree.Pair at c.in-Pair.op l (tree_of x)) (sym c.deref-in-Some-2.ensures) in
    let st = stand_at o known this vars (tree_of c.args.e.now) (tree.Pair at c.in-Pair.op l r) is c.requires.standing in
    let low = ap height is in
    (omega (arith, c.decreases, low), (in_right o this vars at c.in-Pair.op l r st, cells_still o c.args.maker.now c.require_at-in-Some.new.maker c.in_ok-require_at-in-Some.ensures.says.grows c.requires.cells))

pub require_at-returns-in-Not : goal.require_at-returns-in-Not
require_at-returns-in-Not t c =
    let o = c.args.scene.now.objects.now in
    let known = c.args.scene.now.known.now in
    let this = c.args.scene.now.this in
    let vars = c.args.scene.now.vars.now in
    let at = c.args.e.now.at in
    let inner = tree_of c.deref-in-Not.result.now in
    let is = ap (λ n. node_tree n at) c.in-Not.is ∙ ap (λ x. tree.Not at (tree_of x)) (sym c.deref-in-Not.ensures) in
    let old = c.args.maker.now in
    let new = c.require_at-in-Not.new.maker in
    record {
      says = on_ok_weaker c.require_at-in-Not.result (λ h. says_at o known this vars old new (tree_of c.args.e.now) (tree.Not at inner) c.args.want is (says_not o known this vars old new at inner c.args.want h)) c.require_at-in-Not.ensures.says;
    }

pub require_at-returns-in_ok-require_at-in-Some : goal.require_at-returns-in_ok-require_at-in-Some
require_at-returns-in_ok-require_at-in-Some t c =
    let o = c.args.scene.now.objects.now in
    let known = c.args.scene.now.known.now in
    let this = c.args.scene.now.this in
    let vars = c.args.scene.now.vars.now in
    let at = c.args.e.now.at in
    let l = tree_of c.deref-in-Some.result.now in
    let r = tree_of c.deref-in-Some-2.result.now in
    let is = ap (λ n. node_tree n at) c.in-Pair.is ∙ ap (λ x. tree.Pair at c.in-Pair.op (tree_of x) (tree_of c.in-Pair.right.value)) (sym c.deref-in-Some.ensures) ∙ ap (λ x. tree.Pair at c.in-Pair.op l (tree_of x)) (sym c.deref-in-Some-2.ensures) in
    let old = c.args.maker.now in
    let mid = c.require_at-in-Some.new.maker in
    let new = c.require_at-in-Some-2.new.maker in
    record {
      says = on_ok_weaker c.require_at-in-Some-2.result
          (λ h. says_at o known this vars old new (tree_of c.args.e.now) (tree.Pair at c.in-Pair.op l r) c.args.want is
          (says_both o known this vars old mid new at c.in-Pair.op l r c.args.want (c.in-Some.p, c.in-Some.q) c.in-Some.ensures.both c.in_ok-require_at-in-Some.ensures.says h)) c.require_at-in-Some-2.ensures.says;
    }

pub require_at-require_quant-requires : goal.require_at-require_quant-requires
require_at-require_quant-requires t c =
    let o = c.args.scene.now.objects.now in
    let known = c.args.scene.now.known.now in
    let this = c.args.scene.now.this in
    let vars = c.args.scene.now.vars.now in
    let at = c.args.e.now.at in
    let q = c.deref-then-asks_each.result.now in
    let is = ap (λ n. node_tree n at) c.in-Quant.is ∙ ap (λ q. quant_tree q at) (sym c.deref-then-asks_each.ensures) in
    let low = ap height is in
    let same = quant_height q at 0 in
    let high = ap height (quant_is q 0) in
    let st = quant_moved o [] (bare_setting o this vars) q at 0 (stand_at o known this vars (tree_of c.args.e.now) (quant_tree q at) is c.requires.standing) in
    let asks = subst (λ (z : quant.RQuant). asks_each (quant.out-RQuant z).kind c.args.want ≡ true) (c.deref-in-Quant.ensures ∙ sym c.deref-then-asks_each.ensures) (sym c.if-asks_each.ensures) in
    (omega (arith, c.decreases, low, same, high), (st, (asks, c.requires.cells)))

pub require_at-returns-then-asks_each : goal.require_at-returns-then-asks_each
require_at-returns-then-asks_each t c =
    let o = c.args.scene.now.objects.now in
    let known = c.args.scene.now.known.now in
    let this = c.args.scene.now.this in
    let vars = c.args.scene.now.vars.now in
    let at = c.args.e.now.at in
    let q = c.deref-then-asks_each.result.now in
    let is = ap (λ n. node_tree n at) c.in-Quant.is ∙ ap (λ q. quant_tree q at) (sym c.deref-then-asks_each.ensures) in
    let old = c.args.maker.now in
    let new = c.require_quant.new.maker in
    record {
      says = on_ok_weaker c.require_quant.result (λ h. says_at o known this vars old new (tree_of c.args.e.now) (quant_tree q at) c.args.want is (says_moved o known this vars old new q 0 at c.args.want h)) c.require_quant.ensures.says;
    }

pub require_members-require_member-requires : goal.require_members-require_member-requires
require_members-require_member-requires t c =
    let o = c.args.scene.now.objects.now in
    let this = c.args.scene.now.this in
    let vars = c.args.scene.now.vars.now in
    let f = optional_tree c.args.filter.now in
    let bs = trees_of c.args.body.now in
    let m = c.m-item.result in
    let set = c.set_last.ensures.set vars c.loop-m.invariant.room in
    let there = c.inside-inside.ensures in
    let at = there.vars ∙ c.deref.ensures.value ∙ set in
    let now = c.inside-inside.result in
    let grows = c.loop-m.invariant.says.grows in
    let here = item_at (λ (x : Member). IsInside o f bs this (vars ++ x.object ∷ [])) c.args.members.now c.loop-m.m-index m c.loop-m-test.true c.m-item.is c.requires.inside in (
      omega (arith, c.decreases),
      (
        at_scene (λ x y z. IsInside x f bs y z) o now.objects.now this now.this (vars ++ m.object ∷ []) now.vars.now there.objects there.this at here,
        (
          variable_kept c.args.maker.now.domains c.loop-m.maker.domains (boxes_kept c.args.maker.now c.loop-m.maker grows) m.is (item_at (λ (x : Member). HasVariable (length c.args.maker.now.domains) x.is) c.args.members.now c.loop-m.m-index m c.loop-m-test.true c.m-item.is c.requires.variables),
          at_scene (λ x y z. HasCells x c.loop-m.maker) o now.objects.now this now.this (vars ++ m.object ∷ []) now.vars.now there.objects there.this at (cells_still o c.args.maker.now c.loop-m.maker grows c.requires.cells),
        ),
      ),
    )

pub require_members-loop-m-init : goal.require_members-loop-m-init
require_members-loop-m-init t c =
    let scene = c.args.scene.now in
    record {
      room = c.in_ok-inner.ensures.room;
      says = no_members scene.objects.now scene.known.now scene.this scene.vars.now (optional_tree c.args.filter.now) (trees_of c.args.body.now) c.args.want c.args.maker.now c.args.members.now;
    }

pub require_members-loop-m-preserved : goal.require_members-loop-m-preserved
require_members-loop-m-preserved t c =
    let o = c.args.scene.now.objects.now in
    let this = c.args.scene.now.this in
    let vars = c.args.scene.now.vars.now in
    let known = c.args.scene.now.known.now in
    let f = optional_tree c.args.filter.now in
    let bs = trees_of c.args.body.now in
    let want = c.args.want in
    let m = c.m-item.result in
    let mid = c.loop-m.maker in
    let new = c.require_member.new.maker in
    let set = c.set_last.ensures.set vars c.loop-m.invariant.room in
    let there = c.inside-inside.ensures in
    let at = there.vars ∙ c.deref.ensures.value ∙ set in
    let now = c.inside-inside.result in
    let step = subst (λ ks. Adds ks mid new (λ a. member_wanted m.is f bs want (world_setting now.objects.now new a now.this now.vars.now) a)) there.known c.in_ok-require_member.ensures.says in
    record {
      room = record { last = m.object; is = set };
      says = member_more o known this vars f bs want c.args.maker.now mid new c.args.members.now c.loop-m.m-index m c.loop-m-test.true c.m-item.is c.loop-m.invariant.says
          (at_scene (λ x y z. Adds known mid new (λ a. member_wanted m.is f bs want (world_setting x new a y z) a)) now.objects.now o now.this this now.vars.now (vars ++ m.object ∷ []) (sym there.objects) (sym there.this) (sym at) step);
    }

pub require_members-returns : goal.require_members-returns
require_members-returns t c =
    let scene = c.args.scene.now in
    record {
      says = all_members scene.objects.now scene.known.now scene.this scene.vars.now (optional_tree c.args.filter.now) (trees_of c.args.body.now) c.args.want c.args.maker.now c.loop-m.maker c.args.members.now c.loop-m.m-index (omega (arith, c.loop-m-test.false)) c.loop-m.invariant.says;
    }

pub require_quant-list_at-requires-clause-standing : goal.require_quant-list_at-requires-clause-standing
require_quant-list_at-requires-clause-standing t c =
    let o = c.args.scene.now.objects.now in
    let this = c.args.scene.now.this in
    let vars = c.args.scene.now.vars.now in
    let q = quant.out-RQuant c.args.quant.now in
    let st = subst (λ (z : Tree). IsStanding o z this vars) (quant_is c.args.quant.now 0) c.requires.standing in
    (over_stands o this vars 0 q.kind (tree_of q.over) (optional_tree q.filter) (trees_of q.body.items) st).over

pub require_quant-require_members-requires : goal.require_quant-require_members-requires
require_quant-require_members-requires t c =
    let o = c.args.scene.now.objects.now in
    let this = c.args.scene.now.this in
    let vars = c.args.scene.now.vars.now in
    let known = c.args.scene.now.known.now in
    let q = quant.out-RQuant c.args.quant.now in
    let st = subst (λ (z : Tree). IsStanding o z this vars) (quant_is c.args.quant.now 0) c.requires.standing in
    let over = over_stands o this vars 0 q.kind (tree_of q.over) (optional_tree q.filter) (trees_of q.body.items) st in
    let low = ap height (quant_is c.args.quant.now 0) in
    let same = ap (λ (es : List RExpr). bodies_height (trees_of es)) c.deref.ensures.value in
    let g = c.list_at.new.maker in
    let ms = c.in_ok-members.members.items in
    let are = c.in_ok-members.ensures.members in
    let f = optional_tree q.filter in
    let inside = members_inside o known this vars g (tree_of q.over) f (trees_of q.body.items) ms over are in (
      omega (arith, c.decreases, low, same),
      (
        subst (λ (xs : List Member). All (λ (m : Member). IsInside o f (trees_of c.deref.result.now) this (vars ++ m.object ∷ [])) xs) (sym c.as_slice.ensures.value)
            (subst (λ (es : List RExpr). All (λ (m : Member). IsInside o f (trees_of es) this (vars ++ m.object ∷ [])) ms) (sym c.deref.ensures.value) inside),
        (
          subst (λ (xs : List Member). All (λ (m : Member). HasVariable (length g.domains) m.is) xs) (sym c.as_slice.ensures.value) are.variables,
          cells_still o c.args.maker.now g c.in_ok-members.ensures.adds.grows c.requires.cells,
        ),
      ),
    )

pub require_quant-returns : goal.require_quant-returns
require_quant-returns t c =
    let o = c.args.scene.now.objects.now in
    let this = c.args.scene.now.this in
    let vars = c.args.scene.now.vars.now in
    let known = c.args.scene.now.known.now in
    let q = quant.out-RQuant c.args.quant.now in
    let ms = c.in_ok-members.members.items in
    let f = optional_tree q.filter in
    let bs = trees_of q.body.items in
    let want = c.args.want in
    let old = c.args.maker.now in
    let mid = c.list_at.new.maker in
    let new = c.require_members.new.maker in
    let slices = subst (λ (xs : List Member). Adds known mid new (λ a. list_all (λ (m : Member). member_wanted m.is f (trees_of c.deref.result.now) want (world_setting o new a this (vars ++ m.object ∷ [])) a) xs)) c.as_slice.ensures.value c.in_ok-require_members.ensures.says in
    let says = subst (λ (es : List RExpr). Adds known mid new (λ a. list_all (λ (m : Member). member_wanted m.is f (trees_of es) want (world_setting o new a this (vars ++ m.object ∷ [])) a) ms)) c.deref.ensures.value slices in
    record {
      says = subst (λ (z : Tree). Says o known old new z this vars want) (sym (quant_is c.args.quant.now 0))
          (says_quant o known this vars old new 0 q.kind (tree_of q.over) f bs want c.requires.each
          (says_each o known this vars f bs want old mid new (tree_of q.over) ms c.in_ok-members.ensures.members c.in_ok-members.ensures.adds says));
    }

pub require_member-returns-then-want : goal.require_member-returns-then-want
require_member-returns-then-want t c =
    let scene = c.args.scene.now in
    let new = c.require_all.new.maker in
    record {
      says = subst (λ (b : Bool). Adds scene.known.now c.args.maker.now new (λ a. member_wanted c.args.is.now (optional_tree c.args.filter.now) (trees_of c.args.body.now) b (world_setting scene.objects.now new a scene.this scene.vars.now) a)) (sym c.if-want.true) c.in_ok-require_all.ensures.says;
    }

pub require_member-returns-in_ok-require_body-in-len1 : goal.require_member-returns-in_ok-require_body-in-len1
require_member-returns-in_ok-require_body-in-len1 t c =
    let scene = c.args.scene.now in
    let new = c.require_body.new.maker in
    let size : length c.args.body.now ≡ 1 = omega (arith, c.in-len1.len_at_least, c.in-len1.len_below) in
    let only = only_one c.args.body.now c.e-item.result size c.e-item.is in
    record {
      says = subst (λ (b : Bool). Adds scene.known.now c.args.maker.now new (λ a. member_wanted c.args.is.now (optional_tree c.args.filter.now) (trees_of c.args.body.now) b (world_setting scene.objects.now new a scene.this scene.vars.now) a)) (sym c.if-want.false)
          (one_body scene.objects.now scene.known.now scene.this scene.vars.now c.args.is.now (optional_tree c.args.filter.now) c.args.maker.now new c.args.body.now c.e-item.result false only c.in_ok-require_body-in-len1.ensures.says);
    }

pub require_all-loop-e-init : goal.require_all-loop-e-init
require_all-loop-e-init t c =
    let scene = c.args.scene.now in
    record { says = no_bodies scene.objects.now scene.known.now scene.this scene.vars.now c.args.is.now (optional_tree c.args.filter.now) c.args.maker.now c.args.body.now }

pub require_all-require_body-requires : goal.require_all-require_body-requires
require_all-require_body-requires t c =
    let o = c.args.scene.now.objects.now in
    let this = c.args.scene.now.this in
    let vars = c.args.scene.now.vars.now in
    let grows = c.loop-e.invariant.says.grows in
    let low = nth_low c.args.body.now c.loop-e.e-index c.e-item.result c.loop-e-test.true c.e-item.is in (
      omega (arith, c.decreases, low),
      (
        c.requires.inside.filter,
        (
          nth_evaluable o [] (bare_setting o this vars) c.args.body.now c.loop-e.e-index c.e-item.result c.loop-e-test.true c.e-item.is c.requires.inside.bodies,
          (
            variable_kept c.args.maker.now.domains c.loop-e.maker.domains (boxes_kept c.args.maker.now c.loop-e.maker grows) c.args.is.now c.requires.is,
            cells_still o c.args.maker.now c.loop-e.maker grows c.requires.cells,
          ),
        ),
      ),
    )

pub require_all-loop-e-preserved : goal.require_all-loop-e-preserved
require_all-loop-e-preserved t c =
    let scene = c.args.scene.now in
    record {
      says = body_more scene.objects.now scene.known.now scene.this scene.vars.now c.args.is.now (optional_tree c.args.filter.now) c.args.maker.now c.loop-e.maker c.require_body.new.maker c.args.body.now c.loop-e.e-index c.e-item.result c.loop-e-test.true c.e-item.is c.loop-e.invariant.says c.in_ok-require_body.ensures.says;
    }

pub require_all-returns : goal.require_all-returns
require_all-returns t c =
    let scene = c.args.scene.now in
    record {
      says = all_bodies scene.objects.now scene.known.now scene.this scene.vars.now c.args.is.now (optional_tree c.args.filter.now) c.args.maker.now c.loop-e.maker c.args.body.now c.loop-e.e-index (omega (arith, c.loop-e-test.false)) c.loop-e.invariant.says;
    }

pub require_body-require_at-requires : goal.require_body-require_at-requires
require_body-require_at-requires t c =
    (omega (arith, c.decreases), (c.requires.standing, cells_still c.args.scene.now.objects.now c.args.maker.now c.left_out.new.maker c.in_ok-some.ensures.adds.grows c.requires.cells))

pub require_body-returns-then-is_empty : goal.require_body-returns-then-is_empty
require_body-returns-then-is_empty t c =
    let scene = c.args.scene.now in
    record {
      says = always_kept scene.objects.now scene.known.now scene.this scene.vars.now c.args.maker.now c.left_out.new.maker c.args.is.now (optional_tree c.args.filter.now) (tree_of c.args.e.now) c.args.want c.in_ok-some.some
          c.in_ok-some.ensures.value c.in_ok-some.ensures.adds c.require_at.new.maker (sym c.if-holds.ensures) (none_there (length c.literals.result.now) c.in_ok-some.some.1 (ap length c.literals.ensures.items) c.if-is_empty.ensures) c.in_ok-require_at.ensures.says;
    }

pub require_body-push_at-requires-clause-cells : goal.require_body-push_at-requires-clause-cells
require_body-push_at-requires-clause-cells t c =
    cells_still c.args.scene.now.objects.now c.args.maker.now c.left_out.new.maker c.in_ok-some.ensures.adds.grows c.requires.cells

pub require_body-returns : goal.require_body-returns
require_body-returns t c =
    let scene = c.args.scene.now in
    record {
      says = maybe_kept scene.objects.now scene.known.now scene.this scene.vars.now c.args.maker.now c.left_out.new.maker c.args.is.now (optional_tree c.args.filter.now) (tree_of c.args.e.now) c.args.want c.in_ok-some.some
          c.in_ok-some.ensures.value c.in_ok-some.ensures.adds c.push_at.new.maker c.require.new.m c.push_at.new.some c.in_ok-push_at.ensures.pushes c.in_ok-require.ensures.says;
    }
