use Rattle.std.proofs.Common.{arith}
use Rattle.std.proofs.lemmas.Result.{IfOk-weaker}
use Rattle.std.proofs.lemmas.Grind.{common_steps}
use Rattle.ground_build.proofs.Calls.{can_pick}
use Rattle.ground_build.proofs.Means.{pick_means}
use Rattle.ground_build.proofs.builder.Builder.pick.Goals as goal

pub define-requires-clause-new : goal.define-requires-clause-new
define-requires-clause-new c =
    (can_pick c.args.self.now c.domains.result.now c.in_ok-domain.domain c.in_ok-con.con c.next.result c.args.index c.args.items.now c.domains.ensures.well_made c.domains.ensures.items
    c.in_ok-domain.ensures.list c.in_ok-domain.ensures.valid c.in_ok-con.ensures c.next.ensures c.requires.index c.requires.variables c.requires.distinct c.requires.held).fits

pub define-requires-clause-determined : goal.define-requires-clause-determined
define-requires-clause-determined c =
    (can_pick c.args.self.now c.domains.result.now c.in_ok-domain.domain c.in_ok-con.con c.next.result c.args.index c.args.items.now c.domains.ensures.well_made c.domains.ensures.items
    c.in_ok-domain.ensures.list c.in_ok-domain.ensures.valid c.in_ok-con.ensures c.next.ensures c.requires.index c.requires.variables c.requires.distinct c.requires.held).determines

pub returns-clause-ok : goal.returns-clause-ok
returns-clause-ok c = grind (arith, common_steps)

pub returns-clause-means : goal.returns-clause-means
returns-clause-means c = IfOk-weaker c.define.result _ _ (λ x d. pick_means c.args.self.now c.define.new.self x c.args.index _ c.args.items.now c.requires.distinct d) (returns-clause-ok c)
