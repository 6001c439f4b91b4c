use Rattle.std.proofs.Common.{◌≡◌, ◌≤◌, ◌*◌, ◌^◌, ◌+ℤ◌, drop, unsigned_abs}
use Rattle.serde_json.specs.View.{view}
use Rattle.view_plan.specs.Views.{lines_seen}
use Rattle.view_tables.specs.Weights.{weight}
use Rattle.view_tables.proofs.weights.weight.Given as goal

-- the sum so far and that of what is left are that of all, and it is small
abbrev pub invariant-loop-line : goal.invariant-loop-line
invariant-loop-line l =
    (l.sum +ℤ weight (view l.whole) l.name (lines_seen (drop l.line-index l.lines))
    ≡ weight (view l.whole) l.name (lines_seen l.lines))
    × (unsigned_abs l.sum ≤ 2 ^ 63 * l.line-index)
