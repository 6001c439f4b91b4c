use Rattle.std.proofs.Common.{arith, SFits, w64}
use Rattle.std.proofs.lemmas.Int.{to_z-of_z}
use Rattle.std.proofs.lemmas.Result.{IfOk-weaker}
use Rattle.std.proofs.lemmas.Grind.{common_steps}
use Rattle.ground_build.proofs.Calls.{can_at_most}
use Rattle.ground_build.proofs.Means.{at_most_means}
use Rattle.ground_build.proofs.builder.Builder.at_most.Goals as goal

pub define-requires-clause-new : goal.define-requires-clause-new
define-requires-clause-new c =
    let fits : SFits w64 c.args.bound = c.ranges.bound in
    let con = simp to_z-of_z at c.in_ok-con.ensures in
    (can_at_most c.args.self.now c.truths-domain.result c.in_ok-con.con c.next.result c.args.terms.now c.args.bound
    c.truths-domain.ensures.list con c.next.ensures c.requires.variables c.requires.bounded).fits

pub define-requires-clause-determined : goal.define-requires-clause-determined
define-requires-clause-determined c =
    let fits : SFits w64 c.args.bound = c.ranges.bound in
    let con = simp to_z-of_z at c.in_ok-con.ensures in
    (can_at_most c.args.self.now c.truths-domain.result c.in_ok-con.con c.next.result c.args.terms.now c.args.bound
    c.truths-domain.ensures.list con c.next.ensures c.requires.variables c.requires.bounded).determines

pub returns-clause-ok : goal.returns-clause-ok
returns-clause-ok c = grind (arith, common_steps)

pub returns-clause-means : goal.returns-clause-means
returns-clause-means c = IfOk-weaker c.define.result _ _ (λ x d. at_most_means c.args.self.now c.define.new.self x _ c.args.terms.now c.args.bound d) (returns-clause-ok c)
