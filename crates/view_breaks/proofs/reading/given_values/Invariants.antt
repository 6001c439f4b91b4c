use Rattle.std.proofs.Common.{◌≡◌, ◌++◌, drop, map, Some, true, is_some}
use Rattle.std.specs.List.{list_all}
use Rattle.view_breaks.proofs.reading.given_values.Given as goal

abbrev pub invariant-loop-hint : goal.invariant-loop-hint
invariant-loop-hint l = (map Some l.values.items ++ drop l.hint-index l.hints ≡ l.hints) × (list_all is_some (drop l.hint-index l.hints) ≡ true)
