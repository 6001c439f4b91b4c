use Rattle.std.proofs.Common.{◌≡◌, ℤ, List, pos, take}
use Rattle.packed_rows.specs.Loads.{load_of}
use Rattle.stated_rows.specs.Following.{ArentThere}
use Rattle.stated_rows.proofs.guards.are_told.Given as goal

abbrev pub invariant-loop-load : goal.invariant-loop-load
invariant-loop-load l = record {
  left : (a : List ℤ) → ArentThere a l.others → ArentThere a l.rest;
  away : (a : List ℤ) → ArentThere a l.others → load_of l.bin.value (take l.load-index l.loads) a ≡ pos 0;
}
