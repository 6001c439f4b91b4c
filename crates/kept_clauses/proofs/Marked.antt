-- Marks of clauses, each by its number.
use Rattle.std.proofs.Common.{◌≡◌, ℕ, zero, suc, ◌≤◌, Bool, false, List, [], ◌∷◌, length}
use Rattle.std.proofs.Common.{refl, arith}
use Rattle.std.specs.Prelude.{slice_index_or}

-- there is none past the end
pub none_past : (marks : List Bool) (j : ℕ) → length marks ≤ j →
    slice_index_or marks j false ≡ false
none_past [] zero h = refl
none_past [] (suc j) h = refl
none_past (m ∷ marks) zero h = absurd (omega arith)
none_past (m ∷ marks) (suc j) h = none_past marks j (omega arith)
