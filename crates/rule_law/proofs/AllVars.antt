-- A list that is built by its indexes.
use Rattle.std.proofs.Common.{◌≡◌, ℕ, suc, ◌++◌, Some, List, [], ◌∷◌, drop, length, slice_get, append_assoc, arith, ap, sym, ◌∙◌}
use Rattle.ground_form.proofs.VarsAt.{next_var}

one_more : (out : List ℕ) (x : ℕ) → length (out ++ x ∷ []) ≡ suc (length out)
one_more [] x = omega arith
one_more (y ∷ out) x = let more = one_more out x in omega arith

-- out is the front of xs, and x comes next
pub front_grows : (out xs : List ℕ) (x : ℕ) → out ++ drop (length out) xs ≡ xs → slice_get xs (length out) ≡ Some x → (out ++ x ∷ []) ++ drop (length (out ++ x ∷ [])) xs ≡ xs
front_grows out xs x front is =
    append_assoc out (x ∷ []) (drop (length (out ++ x ∷ [])) xs) ∙ ap (λ (n : ℕ). out ++ (x ∷ drop n xs)) (one_more out x) ∙ sym (ap (λ (zs : List ℕ). out ++ zs) (next_var xs (length out) x is)) ∙ front
