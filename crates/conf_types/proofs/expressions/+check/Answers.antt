use Rattle.std.proofs.Common.{◌≡◌, arith, sym, subst, ap, ◌∙◌, IfOk}
use Rattle.conf_syntax.specs.declared.tree.Quant as quant
use Rattle.conf_syntax.specs.Trees.{deepest, expr_depth}
use Rattle.conf_types.specs.Checked.{IsRead, scope_of, told}
use Rattle.std.specs.Prelude.{Contains}
use Rattle.std.proofs.Common.{true}
use Rattle.conf_types.specs.Programs.{OnFault}
use Rattle.conf_types.specs.Types.{meets}
use Rattle.conf_types.specs.Readings.{Reading, read, needed, needs, over_reading, right_reading, alone, list_class}
use Rattle.conf_types.specs.Scopes.{Nothing, within}
use Rattle.conf_types.proofs.CheckLaws.{in_first, in_attribute, depth_at, depth_left, depth_drop, faults_left, holds_left, trees_left, in_body, all_bodies, in_left, in_right, in_quant_over, in_quant_filter, parts_are}
use Rattle.conf_types.proofs.ReadingLaws.{quant_is, quant_depth_is}
use Rattle.conf_types.proofs.expressions.+check.Goals as goal

pub check_attribute-returns-in-Err-clause-fault : goal.check_attribute-returns-in-Err-clause-fault
check_attribute-returns-in-Err-clause-fault t c =
    let r = read c.args.table.now (scope_of c.args.scope.now) c.args.inner.now in
    in_attribute c.in-Err.fault c.args.table.now c.args.at r c.args.name.now r.type c.in-Err.ensures.fault

pub check_needed-returns-in-Err-clause-fault : goal.check_needed-returns-in-Err-clause-fault
check_needed-returns-in-Err-clause-fault t c =
    let r = read c.args.table.now (scope_of c.args.scope.now) c.args.expr.now in
    in_first c.in-Err.fault r.faults (needs c.args.need r.type r.first) c.in-Err.ensures.fault

pub check_over-returns-in-Class-clause-read : goal.check_over-returns-in-Class-clause-read
check_over-returns-in-Class-clause-read t c =
    let r = read c.args.table.now (scope_of c.args.scope.now) c.args.expr.now in
    subst (λ x. IsRead c.class.result (over_reading c.args.expr.now.at x r)) (sym (ap told c.in-Class.is) ∙ c.alone.ensures.sense) (c.class.ensures.read r)

pub check_pair-returns-in-Err-clause-fault : goal.check_pair-returns-in-Err-clause-fault
check_pair-returns-in-Err-clause-fault t c =
    let s = scope_of c.args.scope.now in
    in_left c.in-Err.fault c.args.at c.args.sides.op c.left_need.result (read c.args.table.now s c.args.sides.left.now) (right_reading c.args.sides.op c.args.sides.right.now.at (alone c.args.table.now c.args.sides.right.now.node s) (read c.args.table.now s c.args.sides.right.now)) c.left_need.ensures c.in-Err.ensures.fault

pub check_pair-returns-in-Err-check_right-clause-fault : goal.check_pair-returns-in-Err-check_right-clause-fault
check_pair-returns-in-Err-check_right-clause-fault t c =
    let s = scope_of c.args.scope.now in
    in_right c.in-Err-check_right.fault c.args.at c.args.sides.op (read c.args.table.now s c.args.sides.left.now) (right_reading c.args.sides.op c.args.sides.right.now.at (alone c.args.table.now c.args.sides.right.now.node s) (read c.args.table.now s c.args.sides.right.now)) c.in-Err-check_right.ensures.fault

pub check_bodies-check_needed-requires : goal.check_bodies-check_needed-requires
check_bodies-check_needed-requires t c =
    let s = scope_of c.args.scope.now in
    let body = c.args.body.now in
    let low = depth_at c.args.table.now s c.args.kind body body c.loop-k.k c.index-body-k.result c.loop-k-test.true c.index-body-k.is in
    let all = depth_drop c.args.table.now s c.args.kind body body c.loop-k.k in
    let d = c.decreases in
    (omega (arith, d, low, all), (c.requires.scope, omega (arith, low, c.loop-k.invariant.room)))

pub check_bodies-loop-k-preserved : goal.check_bodies-loop-k-preserved
check_bodies-loop-k-preserved t c =
    let o = c.args.table.now in
    let s = scope_of c.args.scope.now in
    let k = c.args.kind in
    let body = c.args.body.now in
    let e = c.index-body-k.result in
    let is = c.index-body-k.is in
    let on = c.loop-k-test.true in
    let low = depth_left o s k body body c.loop-k.k e on is in
    let met = subst (λ n. meets n c.in-Ok.x.kind ≡ true) c.body_need.ensures c.in-Ok.ensures.met in
    record {
      right = faults_left o s k body c.loop-k.k e c.in-Ok.x on is c.in-Ok.ensures.read met ∙ c.loop-k.invariant.right;
      hold = holds_left o s k body c.loop-k.k e c.in-Ok.x on is c.in-Ok.ensures.read met ∙ c.loop-k.invariant.hold;
      trees = trees_left o s k body c.loop-k.k e c.in-Ok.x on is c.in-Ok.ensures.read met c.loop-k.found.items c.push.new.self.items c.in_ok-push-in-Ok.ensures.items ∙ c.loop-k.invariant.trees;
      room = omega (arith, low, c.loop-k.invariant.room);
    }

pub check_bodies-returns-clause-read : goal.check_bodies-returns-clause-read
check_bodies-returns-clause-read t c = all_bodies c.args.table.now (scope_of c.args.scope.now) c.args.kind c.args.body.now c.loop-k.found.items c.loop-k.k c.loop-k-test.false c.loop-k.invariant.right c.loop-k.invariant.hold c.loop-k.invariant.trees

pub check_bodies-returns-in-Err-clause-fault : goal.check_bodies-returns-in-Err-clause-fault
check_bodies-returns-in-Err-clause-fault t c =
    let o = c.args.table.now in
    let s = scope_of c.args.scope.now in
    let e = c.index-body-k.result in
    let fault = subst (λ n. OnFault c.in-Err.fault (λ g. Contains (needed n (read o s e)) g)) c.body_need.ensures c.in-Err.ensures.fault in
    in_body o s c.args.kind c.args.body.now c.in-Err.fault c.loop-k.k e c.loop-k-test.true c.index-body-k.is c.loop-k.invariant.right fault

pub check_parts-check_over-requires : goal.check_parts-check_over-requires
check_parts-check_over-requires t c =
    let q = quant_depth_is c.args.quant.now in
    let d = c.decreases in
    (omega (arith, d, q), (c.requires.scope, omega (arith, q, c.requires.room)))

pub check_parts-check_filter-requires : goal.check_parts-check_filter-requires
check_parts-check_filter-requires t c =
    let q = quant_depth_is c.args.quant.now in
    let d = c.decreases in
    (omega (arith, d, q), (c.in_ok-inner.ensures.exists, omega (arith, q, c.requires.room, c.in_ok-inner.ensures.more)))

pub check_parts-check_bodies-requires : goal.check_parts-check_bodies-requires
check_parts-check_bodies-requires t c =
    let q = quant_depth_is c.args.quant.now in
    let d = c.decreases in
    let same = ap (deepest expr_depth) c.deref.ensures.value in
    (omega (arith, d, q, same), (c.in_ok-inner.ensures.exists, omega (arith, q, c.requires.room, c.in_ok-inner.ensures.more, same)))

pub check_parts-returns-clause-read : goal.check_parts-returns-clause-read
check_parts-returns-clause-read t c =
    let s = scope_of c.args.scope.now in
    let q = quant.out-Quant c.args.quant.now in
    let same = c.in_ok-inner.ensures.scope ∙ ap (λ x. within s q.var.name (list_class x)) (sym c.in-Ok.ensures.read.typed) in
    let nothing = sym c.in_default.ensures.nothing ∙ c.sense_of.ensures.sense in
    subst (λ r. IfOk c.quantifier.result (λ y. IsRead y r)) (parts_are c.args.table.now c.args.at s (scope_of c.in_ok-inner.inner) c.args.quant.now same Nothing c.deref.result.now nothing c.deref.ensures.value)
    (c.quantifier.ensures.read q.var.at _ _ _ c.in-Ok.ensures.read c.in-Ok-check_filter.ensures.read c.in-Ok-check_bodies.ensures.read)

pub check_parts-returns-in-Err-check_filter-clause-fault : goal.check_parts-returns-in-Err-check_filter-clause-fault
check_parts-returns-in-Err-check_filter-clause-fault t c =
    let s = scope_of c.args.scope.now in
    let q = quant.out-Quant c.args.quant.now in
    let same = c.in_ok-inner.ensures.scope ∙ ap (λ x. within s q.var.name (list_class x)) (sym c.in-Ok.ensures.read.typed) in
    in_quant_filter c.args.table.now c.args.at s (scope_of c.in_ok-inner.inner) c.args.quant.now same c.in-Err-check_filter.fault c.in-Err-check_filter.ensures.fault

pub check_parts-returns-in-Err-check_over-clause-fault : goal.check_parts-returns-in-Err-check_over-clause-fault
check_parts-returns-in-Err-check_over-clause-fault t c =
    in_quant_over c.in-Err-check_over.fault c.args.table.now c.args.at (scope_of c.args.scope.now) c.args.quant.now c.in-Err-check_over.ensures.fault

pub check_quant-check_parts-requires : goal.check_quant-check_parts-requires
check_quant-check_parts-requires t c = let d = c.decreases in (omega (arith, d), (c.requires.scope, c.requires.room))

pub check_quant-returns-in-Err-clause-fault : goal.check_quant-returns-in-Err-clause-fault
check_quant-returns-in-Err-clause-fault t c =
    subst (λ (r : Reading). OnFault c.in-Err.fault (λ g. Contains r.faults g)) (sym (quant_is c.args.quant.now c.args.table.now c.args.at (scope_of c.args.scope.now))) c.in-Err.ensures.fault

pub check_quant-returns-in-Ok-clause-read : goal.check_quant-returns-in-Ok-clause-read
check_quant-returns-in-Ok-clause-read t c = subst (IsRead c.in-Ok.x) (sym (quant_is c.args.quant.now c.args.table.now c.args.at (scope_of c.args.scope.now))) c.in-Ok.ensures.read
