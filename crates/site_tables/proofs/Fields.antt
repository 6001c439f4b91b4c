-- The fields of a record, one by one.
use Rattle.std.proofs.Common.{◌≡◌, ℕ, ◌+◌, ◌++◌, zero, suc, List, [], ◌∷◌, drop, Some, sym, ap, ◌∙◌, add-one, append_assoc}
use Rattle.std.specs.List.{enumerate_from}
use Rattle.csv.specs.Records.{field_at}

-- a field stands before those behind it
drop_field : (fs : List (List ℕ)) (k : ℕ) (f : List ℕ) → field_at fs k ≡ Some f
    → drop k fs ≡ f ∷ drop (suc k) fs
unfolding field_at
drop_field [] k f e = cc
drop_field (x ∷ fs) zero f e = let h : x ≡ f = cc in ap (λ y. y ∷ fs) h
drop_field (x ∷ fs) (suc k) f e = drop_field fs k f e

-- what was made with one field more, and those behind it
pub field_made : (fs : List (List ℕ)) (k : ℕ) (f : List ℕ) (done all : List (ℕ × List ℕ))
    → field_at fs k ≡ Some f → done ++ enumerate_from k (drop k fs) ≡ all
    → (done ++ (k, f) ∷ []) ++ enumerate_from (k + 1) (drop (k + 1) fs) ≡ all
field_made fs k f done all e h =
    let here : drop k fs ≡ f ∷ drop (k + 1) fs = drop_field fs k f e ∙ ap (λ n. f ∷ drop n fs) (sym (add-one k)) in
    append_assoc done ((k, f) ∷ []) (enumerate_from (k + 1) (drop (k + 1) fs))
    ∙ ap (λ xs. done ++ enumerate_from k xs) (sym here) ∙ h
