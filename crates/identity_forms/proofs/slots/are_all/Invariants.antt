use Rattle.std.proofs.Common.{◌≡◌, take}
use Rattle.std.specs.List.{All}
use Rattle.identity_forms.proofs.slots.are_all.Given as goal

abbrev pub invariant-loop-t : goal.invariant-loop-t
invariant-loop-t l = All (λ t. t.1 ≡ l.x) (take l.t-index l.items)
