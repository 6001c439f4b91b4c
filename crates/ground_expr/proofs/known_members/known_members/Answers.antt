use Rattle.std.proofs.Common.{subst, sym, arith}
use Rattle.expr_forms.specs.FormBounds.{IsMember}
use Rattle.ground_expr.proofs.MemberLaws.{member_step}
use Rattle.ground_expr.proofs.known_members.known_members.Goals as goal

pub loop-m-preserved : goal.loop-m-preserved
loop-m-preserved c =
    let i = c.loop-m.invariant in
    let k = c.loop-m.m-index in
    let next = c.in_ok-push_known.ensures in
    record {
      value = λ a kn. member_step c.args.members.now k c.m-item.result _ _ a c.loop-m-test.true c.m-item.is (next.value a kn) (i.value a kn);
      each = λ o boxes d all. next.each o boxes d (subst (IsMember o boxes d) (sym c.m-item.is) (all k c.m-item.result c.loop-m-test.true)) (i.each o boxes d all);
      few = (let one = next.few in let rest = i.few in omega (arith, one, rest));
    }
