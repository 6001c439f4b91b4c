use Rattle.std.proofs.Common.{◌≡◌, ℕ, take, nat_eq}
use Rattle.std.specs.Map.{lookup}
use Rattle.identity_forms.proofs.slots.by_owner.Given as goal

abbrev pub invariant-loop-pair : goal.invariant-loop-pair
invariant-loop-pair l = (n : ℕ) → lookup (nat_eq n) l.noted.entries ≡ lookup (nat_eq n) (take l.pair-index l.cells)
