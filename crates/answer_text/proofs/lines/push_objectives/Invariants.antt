use Rattle.std.proofs.Common.{◌≡◌, ◌++◌, drop}
use Rattle.std.specs.List.{flat_map}
use Rattle.answer_text.proofs.lines.push_objectives.Given as goal
use Rattle.answer_text.specs.Texts.{objective_line}

abbrev pub invariant-loop-value : goal.invariant-loop-value
invariant-loop-value l = l.text.items ++ flat_map objective_line (drop l.value-index l.values) ≡ l.fn.text.items ++ flat_map objective_line l.values
