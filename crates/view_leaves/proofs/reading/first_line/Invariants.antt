use Rattle.std.proofs.Common.{◌≡◌, ◌++◌, drop, take}
use Rattle.view_leaves.specs.Reading.{first_line}
use Rattle.view_leaves.proofs.reading.first_line.Given as goal

-- what was passed and what is left of the line are the line
abbrev pub invariant-loop-i : goal.invariant-loop-i
invariant-loop-i l = take l.i l.bytes ++ first_line (drop l.i l.bytes) ≡ first_line l.bytes
