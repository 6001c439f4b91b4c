use Rattle.std.proofs.Common.{◌≡◌, ◌++◌, drop}
use Rattle.view_drawing.specs.Shapes.{escaped}
use Rattle.view_drawing.proofs.shapes.push_escaped.Given as goal

-- what is written and what is left to write are all
abbrev pub invariant-loop-byte : goal.invariant-loop-byte
invariant-loop-byte l =
    l.text.items ++ escaped (drop l.byte-index l.name) ≡ l.initial.text.items ++ escaped l.name
