use Rattle.std.proofs.Common.{◌≡◌, false, drop}
use Rattle.std.specs.List.{All}
use Rattle.view_steps.specs.Runs.{is_fit}
use Rattle.view_steps.proofs.run.first_fit.Given as goal

-- where none of what is left fits, none does
abbrev pub invariant-loop-number : goal.invariant-loop-number
invariant-loop-number l =
    All (λ m. is_fit l.run.rooms.entries m ≡ false) (drop l.number l.run.left.items)
    → All (λ m. is_fit l.run.rooms.entries m ≡ false) l.run.left.items
