use Rattle.std.proofs.Common.{arith}
use Rattle.std.proofs.lemmas.Result.{IfOk-weaker}
use Rattle.std.proofs.lemmas.Grind.{common_steps}
use Rattle.ground_build.proofs.Calls.{can_all_of}
use Rattle.ground_build.proofs.Means.{all_of_means}
use Rattle.ground_build.proofs.builder.Builder.all_of.Goals as goal

pub define-requires-clause-new : goal.define-requires-clause-new
define-requires-clause-new c =
    (can_all_of c.args.self.now c.truths-domain.result c.in_ok-con.con c.next.result c.args.parts.now
    c.truths-domain.ensures.list c.in_ok-con.ensures c.next.ensures c.requires.variables c.requires.flags).fits

pub define-requires-clause-determined : goal.define-requires-clause-determined
define-requires-clause-determined c =
    (can_all_of c.args.self.now c.truths-domain.result c.in_ok-con.con c.next.result c.args.parts.now
    c.truths-domain.ensures.list c.in_ok-con.ensures c.next.ensures c.requires.variables c.requires.flags).determines

pub returns-clause-ok : goal.returns-clause-ok
returns-clause-ok c = grind (arith, common_steps)

pub returns-clause-means : goal.returns-clause-means
returns-clause-means c = IfOk-weaker c.define.result _ _ (λ x d. all_of_means c.args.self.now c.define.new.self x _ c.args.parts.now d) (returns-clause-ok c)
