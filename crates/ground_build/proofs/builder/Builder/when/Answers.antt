use Rattle.std.proofs.Common.{arith}
use Rattle.std.proofs.lemmas.Result.{IfOk-weaker}
use Rattle.std.proofs.lemmas.Grind.{common_steps}
use Rattle.ground_build.proofs.Calls.{can_when}
use Rattle.ground_build.proofs.Means.{when_means}
use Rattle.ground_build.proofs.builder.Builder.when.Goals as goal

pub define-requires-clause-new : goal.define-requires-clause-new
define-requires-clause-new c =
    (can_when c.args.self.now c.domains.result.now c.in_ok-domain.domain c.when_con-con.result c.next.result c.args.flag c.args.item c.domains.ensures.well_made c.domains.ensures.items
    c.in_ok-domain.ensures.list c.in_ok-domain.ensures.valid c.when_con-con.ensures c.next.ensures c.requires.flag c.requires.item c.requires.truths).fits

pub define-requires-clause-determined : goal.define-requires-clause-determined
define-requires-clause-determined c =
    (can_when c.args.self.now c.domains.result.now c.in_ok-domain.domain c.when_con-con.result c.next.result c.args.flag c.args.item c.domains.ensures.well_made c.domains.ensures.items
    c.in_ok-domain.ensures.list c.in_ok-domain.ensures.valid c.when_con-con.ensures c.next.ensures c.requires.flag c.requires.item c.requires.truths).determines

pub returns-clause-ok : goal.returns-clause-ok
returns-clause-ok c = grind (arith, common_steps)

pub returns-clause-means : goal.returns-clause-means
returns-clause-means c = IfOk-weaker c.define.result _ _ (λ x d. when_means c.args.self.now c.define.new.self x c.args.flag c.args.item _ d) (returns-clause-ok c)
