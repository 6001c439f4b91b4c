use Rattle.std.proofs.Common.{◌≡◌, ◌++◌, ◌-◌, None}
use Rattle.std.specs.Prelude.{replicate}
use Rattle.config_json.proofs.leaves.push_none.Given as goal

abbrev pub invariant-loop-cell : goal.invariant-loop-cell
invariant-loop-cell l = l.hints.items ++ replicate (l.count - l._cell) None ≡ l.initial.hints.items ++ replicate l.count None
