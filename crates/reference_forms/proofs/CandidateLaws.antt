-- The candidates of a variable, as a map.
use Rattle.std.proofs.Common.{◌≡◌, ℕ, zero, suc, ◌+◌, ◌<◌, ◌≤◌, Bool, true, false, cond, List, [], ◌∷◌, ◌++◌, ℤ, pos, ◌<ℤ◌, length, drop, get_or, append_assoc, append-nil, refl, sym, ap, ◌∙◌, subst, arith}
use Rattle.std.specs.Prelude.{Contains, nat_abs}
use Rattle.std.specs.List.{All}
use Rattle.std.specs.Ordering.{int_eq}
use Rattle.std.proofs.lemmas.Int.{ints}
use Rattle.std.proofs.lemmas.List.Elements.{All-nil, All-cons}
use Rattle.class_table.specs.Outline.{Outline}
use Rattle.object_alloc.specs.Cells.{extent}
use Rattle.object_alloc.specs.Walk.{objects}
use Rattle.signed_clause.specs.Ranges.{Ranges, has}
use Rattle.signed_clause.specs.Clauses.{Boxes, box_of}
use Rattle.ground_form.specs.WellMade.{lacks_value, distinct_values}
use Rattle.ground_cells.specs.CellBoxes.{AscendFrom}
use Rattle.ground_cells.proofs.NumberRanges.{extent_ascends}
use Rattle.expr_forms.specs.FormBounds.{IsCandidate, MayBe, IsMap}
use Rattle.expr_forms.specs.FormValues.{number_for}
use Rattle.reference_forms.specs.Candidates.{held}

less_apart : (m : ℕ) (w : ℤ) → w <ℤ pos m → int_eq (pos m) w ≡ true → ⊥
less_apart m w k e = absurd (grind (arith, ints))

same_number : (m : ℕ) (w : ℤ) → int_eq (pos m) w ≡ true → m ≡ nat_abs w
same_number m w k = let same : pos m ≡ w = grind (arith, ints) in ap nat_abs same

lacks_more : (m : ℕ) (v : ℤ) (rest : List (ℤ × ℕ)) (b c : Bool) → int_eq (pos m) v ≡ c → v <ℤ pos m → lacks_value v rest ≡ true → cond b (cond c false (lacks_value v rest)) (lacks_value v rest) ≡ true
lacks_more m v rest true true e lt g = absurd (less_apart m v lt e)
lacks_more m v rest true false e lt g = g
lacks_more m v rest false c e lt g = g

-- a number before all of them is none of them
lacks_below : (s : Ranges) (v : ℤ) (n : ℕ) (xs : List ℕ) → AscendFrom n xs → v <ℤ pos n → lacks_value v (held s xs) ≡ true
lacks_below s v n [] h lt = refl
lacks_below s v n (x ∷ xs) h lt =
    let first = h.0 in
    by (has s (pos x)) (omega (arith, ints, first, lt)) (lacks_below s v (suc x) xs h.1 (omega (arith, ints, first, lt)))
  where
    by : (b : Bool) → v <ℤ pos x → lacks_value v (held s xs) ≡ true → lacks_value v (cond b ((pos x, x) ∷ held s xs) (held s xs)) ≡ true
    by true k g = lacks_more x v (held s xs) true (int_eq (pos x) v) refl k g
    by false k g = g

distinct_held : (s : Ranges) (n : ℕ) (xs : List ℕ) → AscendFrom n xs → distinct_values (held s xs) ≡ true
distinct_held s n [] h = refl
distinct_held s n (x ∷ xs) h =
    by (has s (pos x)) (lacks_below s (pos x) (suc x) xs h.1 (omega (arith, ints))) (distinct_held s (suc x) xs h.1)
  where
    by : (b : Bool) → lacks_value (pos x) (held s xs) ≡ true → distinct_values (held s xs) ≡ true → distinct_values (cond b ((pos x, x) ∷ held s xs) (held s xs)) ≡ true
    by true e d = grind arith
    by false e d = d

-- a number of the list that the set has is among them
held_has : (s : Ranges) (n : ℕ) (xs : List ℕ) → Contains xs n → has s (pos n) ≡ true → lacks_value (pos n) (held s xs) ≡ false
held_has s n [] h e = absurd (omega (arith, h.1))
held_has s n (x ∷ xs) (zero, lt, is) e = by (has s (pos x)) (ap (λ (m : ℕ). has s (pos m)) (here is) ∙ e)
  where
    here : x ≡ n → x ≡ n
    here g = g

    by : (b : Bool) → b ≡ true → lacks_value (pos n) (cond b ((pos x, x) ∷ held s xs) (held s xs)) ≡ false
    by true g = grind (arith, ints)
    by false g = cc
held_has s n (x ∷ xs) (suc k, lt, is) e = by (has s (pos x)) (held_has s n xs (k, omega (arith, lt), is) e)
  where
    by : (b : Bool) → lacks_value (pos n) (held s xs) ≡ false → lacks_value (pos n) (cond b ((pos x, x) ∷ held s xs) (held s xs)) ≡ false
    by true g = step (int_eq (pos x) (pos n)) g
      where
        step : (c : Bool) → lacks_value (pos n) (held s xs) ≡ false → cond c false (lacks_value (pos n) (held s xs)) ≡ false
        step true k = refl
        step false k = k
    by false g = g

-- what holds of all numbers that the set has holds of all candidates
all_held : (P : ℕ → Type 0) (s : Ranges) (xs : List ℕ) → ((n : ℕ) → has s (pos n) ≡ true → P n) → All (λ (p : ℤ × ℕ). P p.1) (held s xs)
all_held P s [] h = All-nil (λ (p : ℤ × ℕ). P p.1)
all_held P s (x ∷ xs) h = by (has s (pos x)) refl (all_held P s xs h)
  where
    by : (b : Bool) → has s (pos x) ≡ b → All (λ (p : ℤ × ℕ). P p.1) (held s xs) → All (λ (p : ℤ × ℕ). P p.1) (cond b ((pos x, x) ∷ held s xs) (held s xs))
    by true e g = All-cons (λ (p : ℤ × ℕ). P p.1) (pos x, x) (held s xs) (h x e) g
    by false e g = g

some_number : (P : ℕ → Type 0) (n : ℕ) → IsCandidate P (pos n) → P n
some_number P n h = subst P (sym (same h.is)) h.may
  where
    same : {a b : ℕ} → pos a ≡ pos b → a ≡ b
    same e = cc

held_value : (s : Ranges) (xs : List ℕ) (v : ℤ) → IsCandidate (Contains xs) v → has s v ≡ true → lacks_value v (held s xs) ≡ false
held_value s xs v h e =
    subst (λ (w : ℤ). lacks_value w (held s xs) ≡ false) (sym h.is) (held_has s h.number xs h.may (ap (has s) (sym h.is) ∙ e))

-- a variable that names objects of an extent, as a map to its candidates
pub candidates_map : (o : Outline) (boxes : Boxes) (d x : ℕ) (P : ℕ → Type 0) → MayBe boxes (Contains (extent o d)) x → MayBe boxes P x → IsMap boxes P x (held (box_of boxes x) (extent o d))
candidates_map o boxes d x P named may = record {
  distinct = distinct_held (box_of boxes x) 0 (extent o d) (extent_ascends o.classes d 0 (objects o));
  held = λ v h. held_value (box_of boxes x) (extent o d) v (named v h) h;
  may = all_held P (box_of boxes x) (extent o d) (λ n h. some_number P n (may (pos n) h));
}

found_number : (m : ℕ) (v : ℤ) (rest : List (ℤ × ℕ)) (c : Bool) → int_eq (pos m) v ≡ c → cond c false (lacks_value v rest) ≡ false → (lacks_value v rest ≡ false → number_for v rest ≡ nat_abs v) → cond c m (number_for v rest) ≡ nat_abs v
found_number m v rest true e g more = same_number m v e
found_number m v rest false e g more = more g

-- the number that goes with a candidate's value is its own
pub own_number : (s : Ranges) (xs : List ℕ) (v : ℤ) → lacks_value v (held s xs) ≡ false → number_for v (held s xs) ≡ nat_abs v
own_number s [] v e = cc
own_number s (x ∷ xs) v e = by (has s (pos x)) (λ g. own_number s xs v g) e
  where
    by : (b : Bool) → (lacks_value v (held s xs) ≡ false → number_for v (held s xs) ≡ nat_abs v) → lacks_value v (cond b ((pos x, x) ∷ held s xs) (held s xs)) ≡ false → number_for v (cond b ((pos x, x) ∷ held s xs) (held s xs)) ≡ nat_abs v
    by true more g = found_number x v (held s xs) (int_eq (pos x) v) refl g more
    by false more g = more g

-- there are no more candidates than objects
pub held_count : (s : Ranges) (xs : List ℕ) → length (held s xs) ≤ length xs
held_count s [] = omega arith
held_count s (x ∷ xs) = by (has s (pos x)) (held_count s xs)
  where
    by : (b : Bool) → length (held s xs) ≤ length xs → length (cond b ((pos x, x) ∷ held s xs) (held s xs)) ≤ suc (length xs)
    by true h = omega (arith, h)
    by false h = omega (arith, h)

-- the candidates with one more object looked at
pub held_step : (s : Ranges) (xs : List ℕ) (i d : ℕ) (done next all : List (ℤ × ℕ)) → i < length xs → next ≡ done ++ held s (get_or xs i d ∷ []) → done ++ held s (drop i xs) ≡ all → next ++ held s (drop (i + 1) xs) ≡ all
held_step s [] i d done next all lt is h = absurd (omega (arith, lt))
held_step s (x ∷ xs) zero d done next all lt is h =
    ap (λ z. z ++ held s (drop 1 (x ∷ xs))) is ∙ by (has s (pos x)) h
  where
    by : (b : Bool) → done ++ cond b ((pos x, x) ∷ held s xs) (held s xs) ≡ all → (done ++ cond b ((pos x, x) ∷ []) []) ++ held s xs ≡ all
    by true g = append_assoc done ((pos x, x) ∷ []) (held s xs) ∙ g
    by false g = ap (λ z. z ++ held s xs) (append-nil done) ∙ g
held_step s (x ∷ xs) (suc i) d done next all lt is h =
    let same : suc i + 1 ≡ suc (i + 1) = omega arith in
    ap (λ (n : ℕ). next ++ held s (drop n (x ∷ xs))) same ∙ held_step s xs i d done next all (omega (arith, lt)) is h
