use Rattle.std.proofs.Common.{rules, w64}
use Rattle.std.proofs.lemmas.Int.{to_z-of_z}
use Rattle.stated_costs.proofs.SumLaws.{most_by}
use Rattle.stated_costs.proofs.sums.most_product.Goals as goal

pub returns : goal.returns
returns c v h k =
    most_by c.args.c c.args.least c.args.greatest v c.in_ok-low.low.value c.in_ok-high.high.value c.greater-most.result.value _ _ _ _
    (to_z-of_z w64 c.args.c (search rules)) (to_z-of_z w64 c.args.c (search rules)) (to_z-of_z w64 c.args.least (search rules)) (to_z-of_z w64 c.args.greatest (search rules))
    c.in_ok-low.ensures c.in_ok-high.ensures c.greater-most.ensures h k
