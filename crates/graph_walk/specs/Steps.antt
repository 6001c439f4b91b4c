-- So many steps of a relation from one number to another.
use Rattle.std.specs.Prelude.{◌≡◌, ℕ, zero, suc}

abbrev pub StepsBy : (ℕ → ℕ → Type 0) → ℕ → ℕ → ℕ → Type 0
StepsBy R zero c d = c ≡ d
StepsBy R (suc n) c d = (e : ℕ) × R c e × StepsBy R n e d
