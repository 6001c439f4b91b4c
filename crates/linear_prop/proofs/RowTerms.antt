-- A row's terms, one by one.
use Rattle.std.proofs.Common.{◌≡◌, ℕ, suc, zero, ◌-◌, ◌<◌, Bool, true, false, List, [], ◌∷◌, ℤ, Option, Some, None, length, get_or, refl, arith, ap, sym, ◌∙◌}
use Rattle.linear_prop.specs.declared.row.Row.{Row}
use Rattle.linear_prop.specs.Rows.{turned, negated, all_turned, behind, terms_of}

negated_length : (ts : List (ℤ × ℕ)) → length (negated ts) ≡ length ts
negated_length [] = refl
negated_length (t ∷ ts) = let more = negated_length ts in omega arith

turned_length : (b : Bool) (ts : List (ℤ × ℕ)) → length (all_turned b ts) ≡ length ts
turned_length true ts = negated_length ts
turned_length false ts = refl

same_index : (ts : List (ℤ × ℕ)) (i : ℕ) (d e : ℤ × ℕ) → i < length ts → get_or ts i d ≡ get_or ts i e
same_index [] i d e h = absurd (omega arith)
same_index (t ∷ ts) zero d e h = refl
same_index (t ∷ ts) (suc i) d e h = same_index ts i d e (omega arith)

negated_at : (ts : List (ℤ × ℕ)) (i : ℕ) (d e : ℤ × ℕ) → i < length ts → turned true (get_or ts i d) ≡ get_or (negated ts) i e
negated_at [] i d e h = absurd (omega arith)
negated_at (t ∷ ts) zero d e h = refl
negated_at (t ∷ ts) (suc i) d e h = negated_at ts i d e (omega arith)

turned_at : (b : Bool) (ts : List (ℤ × ℕ)) (i : ℕ) (d e : ℤ × ℕ) → i < length ts → turned b (get_or ts i d) ≡ get_or (all_turned b ts) i e
turned_at true ts i d e h = negated_at ts i d e h
turned_at false ts i d e h = same_index ts i d e h

behind_none : (h : Option (ℤ × ℕ)) (ts : List (ℤ × ℕ)) → h ≡ None → behind h ts ≡ ts
behind_none h ts e = rw e refl

behind_some : (h : Option (ℤ × ℕ)) (t : ℤ × ℕ) (ts : List (ℤ × ℕ)) → h ≡ Some t → behind h ts ≡ t ∷ ts
behind_some h t ts e = rw e refl

pub none_length : (row : Row) → row.head ≡ None → length (terms_of row) ≡ length row.terms.now
none_length row e = ap length (behind_none row.head _ e) ∙ turned_length row.turned row.terms.now

pub some_length : (row : Row) (t : ℤ × ℕ) → row.head ≡ Some t → length (terms_of row) ≡ suc (length row.terms.now)
some_length row t e = ap length (behind_some row.head t _ e) ∙ ap suc (turned_length row.turned row.terms.now)

pub none_at : (row : Row) (i : ℕ) (d e : ℤ × ℕ) → row.head ≡ None → i < length row.terms.now → turned row.turned (get_or row.terms.now i d) ≡ get_or (terms_of row) i e
none_at row i d e h lt = turned_at row.turned row.terms.now i d e lt ∙ ap (λ (ts : List (ℤ × ℕ)). get_or ts i e) (sym (behind_none row.head _ h))

first_at : (t : ℤ × ℕ) (ts : List (ℤ × ℕ)) (i : ℕ) (e : ℤ × ℕ) → i ≡ 0 → t ≡ get_or (t ∷ ts) i e
first_at t ts i e z = rw z refl

pub some_first : (row : Row) (t : ℤ × ℕ) (i : ℕ) (e : ℤ × ℕ) → row.head ≡ Some t → i ≡ 0 → t ≡ get_or (terms_of row) i e
some_first row t i e h z = first_at t _ i e z ∙ ap (λ (ts : List (ℤ × ℕ)). get_or ts i e) (sym (behind_some row.head t _ h))

later_at : (b : Bool) (t : ℤ × ℕ) (ts : List (ℤ × ℕ)) (i : ℕ) (d e : ℤ × ℕ) → 0 < i → i < suc (length ts) → turned b (get_or ts (i - 1) d) ≡ get_or (t ∷ all_turned b ts) i e
later_at b t ts zero d e p h = absurd (omega arith)
later_at b t ts (suc i) d e p h = let k : suc i - 1 ≡ i = omega arith in rw k (turned_at b ts i d e (omega arith))

pub some_later : (row : Row) (t : ℤ × ℕ) (i : ℕ) (d e : ℤ × ℕ) → row.head ≡ Some t → 0 < i → i < suc (length row.terms.now) → turned row.turned (get_or row.terms.now (i - 1) d) ≡ get_or (terms_of row) i e
some_later row t i d e h p lt = later_at row.turned t row.terms.now i d e p lt ∙ ap (λ (ts : List (ℤ × ℕ)). get_or ts i e) (sym (behind_some row.head t _ h))
