use Rattle.std.proofs.Common.{arith}
use Rattle.std.proofs.lemmas.Result.{IfOk-weaker}
use Rattle.std.proofs.lemmas.Grind.{common_steps}
use Rattle.ground_build.proofs.Calls.{can_same}
use Rattle.ground_build.proofs.Means.{same_means}
use Rattle.ground_build.proofs.builder.Builder.same.Goals as goal

pub define-requires-clause-new : goal.define-requires-clause-new
define-requires-clause-new c =
    (can_same c.args.self.now c.truths-domain.result c.same_con-con.result c.next.result c.args.l c.args.r
    c.truths-domain.ensures.list c.same_con-con.ensures c.next.ensures c.requires.left c.requires.right).fits

pub define-requires-clause-determined : goal.define-requires-clause-determined
define-requires-clause-determined c =
    (can_same c.args.self.now c.truths-domain.result c.same_con-con.result c.next.result c.args.l c.args.r
    c.truths-domain.ensures.list c.same_con-con.ensures c.next.ensures c.requires.left c.requires.right).determines

pub returns-clause-ok : goal.returns-clause-ok
returns-clause-ok c = grind (arith, common_steps)

pub returns-clause-means : goal.returns-clause-means
returns-clause-means c = IfOk-weaker c.define.result _ _ (λ x d. same_means c.args.self.now c.define.new.self x c.args.l c.args.r _ d) (returns-clause-ok c)
