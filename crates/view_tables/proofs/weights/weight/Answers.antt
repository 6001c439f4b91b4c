use Rattle.std.proofs.Common.{◌≡◌, ◌∙◌, ◌+◌, ◌+ℤ◌, arith, drop, ap, to_z, of_z, w64}
use Rattle.std.specs.Int.{w128}
use Rattle.std.proofs.lemmas.Int.{ints}
use Rattle.serde_json.specs.View.{view}
use Rattle.view_plan.specs.Views.{lines_seen}
use Rattle.view_tables.proofs.LineLaws.{next_weight}
use Rattle.view_tables.specs.Weights.{weight}
use Rattle.view_tables.proofs.weights.weight.Goals as goal

pub loop-line-preserved : goal.loop-line-preserved
loop-line-preserved c =
    let lines = c.args.lines.now in
    let k = c.loop-line.line-index in
    let now = to_z w128 c.loop-line.sum-bits in
    let w = c.line_weight.result in
    let base : now +ℤ weight (view c.args.whole.now) c.args.name.now (lines_seen (drop k lines)) ≡ weight (view c.args.whole.now) c.args.name.now (lines_seen lines) = cc in
    let added : to_z w128 (of_z w128 (now +ℤ to_z w128 (of_z w128 (to_z w64 (of_z w64 w))))) ≡ now +ℤ w = omega (arith, ints) in (
      ap (λ v. v +ℤ weight (view c.args.whole.now) c.args.name.now (lines_seen (drop (k + 1) lines))) added
          ∙ next_weight (view c.args.whole.now) c.args.name.now lines k c.line-item.result w now _ c.loop-line-test.true c.line-item.is c.line_weight.ensures base,
      omega (arith, ints),
    )
