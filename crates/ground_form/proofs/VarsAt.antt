-- The variables of terms, parts, literals and items by their places, and walks over them.
use Rattle.std.proofs.Common.{◌≡◌, ℕ, suc, zero, ◌<◌, ◌≤◌, ◌+◌, ◌-◌, ◌*◌, Bool, Some, None, List, [], ◌∷◌, ℤ, drop, length, get_or, slice_get, add-one, arith, refl, ap, sym, ◌∙◌}
use Rattle.std.proofs.lemmas.Option.{slice_get_past, slice_get-get_or}
use Rattle.signed_clause.specs.Clauses.{Literal, Literals}
use Rattle.ground_form.specs.Meaning.{term_vars, part_vars, item_vars, clause_vars}

pub term_at : (ts : List (ℤ × ℕ)) (i : ℕ) (d : ℤ × ℕ) → i < length ts → slice_get (term_vars ts) i ≡ Some (get_or ts i d).1
term_at [] i d h = absurd (omega arith)
term_at (t ∷ ts) zero d h = refl
term_at (t ∷ ts) (suc i) d h = term_at ts i d (omega arith)

pub no_term : (ts : List (ℤ × ℕ)) (i : ℕ) → length ts ≤ i → slice_get (term_vars ts) i ≡ None
no_term [] i h = refl
no_term (t ∷ ts) zero h = absurd (omega arith)
no_term (t ∷ ts) (suc i) h = no_term ts i (omega arith)

pub part_at : (ts : List (ℕ × Bool)) (i : ℕ) (d : ℕ × Bool) → i < length ts → slice_get (part_vars ts) i ≡ Some (get_or ts i d).0
part_at [] i d h = absurd (omega arith)
part_at (t ∷ ts) zero d h = refl
part_at (t ∷ ts) (suc i) d h = part_at ts i d (omega arith)

pub no_part : (ts : List (ℕ × Bool)) (i : ℕ) → length ts ≤ i → slice_get (part_vars ts) i ≡ None
no_part [] i h = refl
no_part (t ∷ ts) zero h = absurd (omega arith)
no_part (t ∷ ts) (suc i) h = no_part ts i (omega arith)

pub literal_at : (ts : Literals) (i : ℕ) (d : Literal) → i < length ts → slice_get (clause_vars ts) i ≡ Some (get_or ts i d).0
literal_at [] i d h = absurd (omega arith)
literal_at (t ∷ ts) zero d h = refl
literal_at (t ∷ ts) (suc i) d h = literal_at ts i d (omega arith)

pub no_literal : (ts : Literals) (i : ℕ) → length ts ≤ i → slice_get (clause_vars ts) i ≡ None
no_literal [] i h = refl
no_literal (t ∷ ts) zero h = absurd (omega arith)
no_literal (t ∷ ts) (suc i) h = no_literal ts i (omega arith)

-- an item's variable of place, size or room
abbrev pub nth_of : ℕ → ℕ × ℕ × ℕ → ℕ
nth_of zero t = t.0
nth_of (suc zero) t = t.1
nth_of (suc (suc n)) t = t.2

pub item_at : (ts : List (ℕ × ℕ × ℕ)) (i q r : ℕ) (d : ℕ × ℕ × ℕ) → i ≡ q * 3 + r → r < 3 → q < length ts → slice_get (item_vars ts) i ≡ Some (nth_of r (get_or ts q d))
item_at [] i q r d e l h = absurd (omega arith)
item_at (t ∷ ts) zero zero zero d e l h = refl
item_at (t ∷ ts) zero zero (suc r) d e l h = absurd (omega arith)
item_at (t ∷ ts) (suc zero) zero zero d e l h = absurd (omega arith)
item_at (t ∷ ts) (suc zero) zero (suc zero) d e l h = refl
item_at (t ∷ ts) (suc zero) zero (suc (suc r)) d e l h = absurd (omega arith)
item_at (t ∷ ts) (suc (suc i)) zero zero d e l h = absurd (omega arith)
item_at (t ∷ ts) (suc (suc i)) zero (suc zero) d e l h = absurd (omega arith)
item_at (t ∷ ts) (suc (suc zero)) zero (suc (suc r)) d e l h = refl
item_at (t ∷ ts) (suc (suc (suc i))) zero (suc (suc r)) d e l h = absurd (omega arith)
item_at (t ∷ ts) zero (suc q) r d e l h = absurd (omega arith)
item_at (t ∷ ts) (suc zero) (suc q) r d e l h = absurd (omega arith)
item_at (t ∷ ts) (suc (suc zero)) (suc q) r d e l h = absurd (omega arith)
item_at (t ∷ ts) (suc (suc (suc i))) (suc q) r d e l h = item_at ts i q r d (omega arith) l (omega arith)

pub no_item : (ts : List (ℕ × ℕ × ℕ)) (i q r : ℕ) → i ≡ q * 3 + r → length ts ≤ q → slice_get (item_vars ts) i ≡ None
no_item [] i q r e h = refl
no_item (t ∷ ts) i zero r e h = absurd (omega arith)
no_item (t ∷ ts) zero (suc q) r e h = absurd (omega arith)
no_item (t ∷ ts) (suc zero) (suc q) r e h = absurd (omega arith)
no_item (t ∷ ts) (suc (suc zero)) (suc q) r e h = absurd (omega arith)
no_item (t ∷ ts) (suc (suc (suc i))) (suc q) r e h = no_item ts i q r (omega arith) (omega arith)

pub behind_at : (x : ℕ) (xs : List ℕ) (i : ℕ) → 0 < i → slice_get (x ∷ xs) i ≡ slice_get xs (i - 1)
behind_at x xs zero h = absurd (omega arith)
behind_at x xs (suc i) h = let e : suc i - 1 ≡ i = omega arith in rw e refl

-- ---- how many

pub count_terms : (ts : List (ℤ × ℕ)) → length (term_vars ts) ≡ length ts
count_terms [] = refl
count_terms (t ∷ ts) = let more = count_terms ts in omega arith

pub count_parts : (ts : List (ℕ × Bool)) → length (part_vars ts) ≡ length ts
count_parts [] = refl
count_parts (t ∷ ts) = let more = count_parts ts in omega arith

pub count_literals : (ts : Literals) → length (clause_vars ts) ≡ length ts
count_literals [] = refl
count_literals (t ∷ ts) = let more = count_literals ts in omega arith

pub count_items : (ts : List (ℕ × ℕ × ℕ)) → length (item_vars ts) ≡ length ts * 3
count_items [] = refl
count_items (t ∷ ts) = let more = count_items ts in omega arith

-- ---- walks

pub next_var : (xs : List ℕ) (i x : ℕ) → slice_get xs i ≡ Some x → drop i xs ≡ x ∷ drop (suc i) xs
next_var [] i x h = absurd cc
next_var (y ∷ xs) zero x h = cc
next_var (y ∷ xs) (suc i) x h = next_var xs i x h

pub no_var : (xs : List ℕ) (i : ℕ) → slice_get xs i ≡ None → drop i xs ≡ []
no_var [] zero h = refl
no_var [] (suc i) h = refl
no_var (y ∷ xs) zero h = absurd cc
no_var (y ∷ xs) (suc i) h = no_var xs i h

-- two lists that are the same from a place on, and at the one before
pub same_on : (i d : ℕ) (xs ys : List ℕ) → i < length xs → slice_get ys i ≡ Some (get_or xs i d) → drop (i + 1) xs ≡ drop (i + 1) ys → drop i xs ≡ drop i ys
same_on i d xs ys lt at same =
    let rest : drop (suc i) xs ≡ drop (suc i) ys = rw add-one at same in
    next_var xs i (get_or xs i d) (slice_get-get_or xs i d lt) ∙ ap (λ (zs : List ℕ). get_or xs i d ∷ zs) rest ∙ sym (next_var ys i (get_or xs i d) at)

pub same_end : (xs ys : List ℕ) → slice_get ys (length xs) ≡ None → drop (length xs) xs ≡ drop (length xs) ys
same_end xs ys none = no_var xs (length xs) (slice_get_past xs (length xs) (omega arith)) ∙ sym (no_var ys (length xs) none)
