use Rattle.std.proofs.Common.{◌≡◌, drop}
use Rattle.view_steps.specs.Rooms.{all_allowed}
use Rattle.view_steps.proofs.rooms.all_allowed.Given as goal

-- what is left decides
abbrev pub invariant-loop-number : goal.invariant-loop-number
invariant-loop-number l =
    all_allowed (drop l.number l.rooms) (drop l.number l.amounts) ≡ all_allowed l.rooms l.amounts
