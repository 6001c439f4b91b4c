use Rattle.std.proofs.Common.{◌≡◌, ◌+◌, drop}
use Rattle.object_alloc.specs.Named.{first_place}
use Rattle.object_alloc.proofs.finding.first_of.Given as goal

-- the place, from where the search stands
abbrev pub invariant-loop-i : goal.invariant-loop-i
invariant-loop-i l = l.i + first_place l.byte (drop l.i l.text) ≡ first_place l.byte l.text
