use Rattle.std.proofs.Common.{◌≡◌, ◌++◌, ℕ, drop, nat_eq}
use Rattle.identity_forms.specs.Choices.{values_where, group}
use Rattle.identity_forms.proofs.groups.grouped.Given as goal

-- with what is left each object has all its values
abbrev pub invariant-loop-pair : goal.invariant-loop-pair
invariant-loop-pair l =
    (n : ℕ) → group l.groups.entries n ++ values_where (λ m. nat_eq m n) (drop l.pair-index l.map) ≡ values_where (λ m. nat_eq m n) l.map
