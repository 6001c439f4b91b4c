use Rattle.std.proofs.Common.{arith}
use Rattle.std.proofs.lemmas.Result.{IfOk-weaker}
use Rattle.std.proofs.lemmas.Grind.{common_steps}
use Rattle.ground_build.proofs.Calls.{can_member}
use Rattle.ground_build.proofs.Means.{member_means}
use Rattle.ground_build.proofs.builder.Builder.member.Goals as goal

pub define-requires-clause-new : goal.define-requires-clause-new
define-requires-clause-new c =
    (can_member c.args.self.now c.truths-domain.result c.member_con-con.result c.next.result c.args.x c.args.set
    c.truths-domain.ensures.list c.member_con-con.ensures.value c.next.ensures c.requires.variable c.member_con-con.ensures.valid).fits

pub define-requires-clause-determined : goal.define-requires-clause-determined
define-requires-clause-determined c =
    (can_member c.args.self.now c.truths-domain.result c.member_con-con.result c.next.result c.args.x c.args.set
    c.truths-domain.ensures.list c.member_con-con.ensures.value c.next.ensures c.requires.variable c.member_con-con.ensures.valid).determines

pub returns-clause-ok : goal.returns-clause-ok
returns-clause-ok c = grind (arith, common_steps)

pub returns-clause-means : goal.returns-clause-means
returns-clause-means c = IfOk-weaker c.define.result _ _ (λ x d. member_means c.args.self.now c.define.new.self x c.args.x _ c.args.set d) (returns-clause-ok c)
