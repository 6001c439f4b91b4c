-- Clauses that are kept by handles, and packed ones behind them.
use Rattle.std.proofs.Common.{◌≡◌, ℕ, ◌+◌, ◌-◌, ◌<◌, ◌≤◌, List, [], ◌∷◌, ◌++◌, length, get_or, refl, sym, ap, ◌∙◌, arith}
use Rattle.std.proofs.lemmas.List.{append_assoc, append-nil, length-append, get_or_append_left, get_or-append_right}
use Rattle.signed_clause.specs.Clauses.{Literals}

-- how many there are
pub count_both : (kept packed : List Literals) → length (kept ++ packed) ≡ length kept + length packed
count_both kept packed = length-append kept packed

pub at_kept : (kept packed : List Literals) (k : ℕ) → k < length kept → get_or (kept ++ packed) k [] ≡ get_or kept k []
at_kept kept packed k h = get_or_append_left kept packed [] k h

pub at_packed : (kept packed : List Literals) (k : ℕ) → length kept ≤ k → get_or (kept ++ packed) k [] ≡ get_or packed (k - length kept) []
at_packed kept packed k h = get_or-append_right kept packed (length kept) k [] refl h

-- one more by its handle, where none is packed
pub with_kept : (kept packed now : List Literals) (c : Literals) → length packed ≡ 0 → now ≡ kept ++ c ∷ [] → now ++ packed ≡ (kept ++ packed) ++ c ∷ []
with_kept kept [] now c h e = append-nil now ∙ e ∙ ap (λ (z : List Literals). z ++ c ∷ []) (sym (append-nil kept))
with_kept kept (d ∷ ds) now c h e = absurd (omega arith)

-- one more that is packed
pub with_packed : (kept packed now : List Literals) (c : Literals) → now ≡ packed ++ c ∷ [] → kept ++ now ≡ (kept ++ packed) ++ c ∷ []
with_packed kept packed now c e = ap (λ (z : List Literals). kept ++ z) e ∙ sym (append_assoc kept packed (c ∷ []))
