use Rattle.std.proofs.Common.{◌≡◌, ◌++◌, drop}
use Rattle.view_steps.specs.Rooms.{all_taken}
use Rattle.view_steps.proofs.rooms.all_taken.Given as goal

-- the rooms so far and those of what is left are all
abbrev pub invariant-loop-number : goal.invariant-loop-number
invariant-loop-number l =
    l.left.items ++ all_taken (drop l.number l.rooms) (drop l.number l.amounts)
    ≡ all_taken l.rooms l.amounts
