-- Rows that grow, and the rows of constraints.
use Rattle.std.proofs.Common.{◌≡◌, ℕ, suc, zero, cond, ◌<◌, ◌==◌, Bool, true, false, List, [], ◌∷◌, ◌++◌, ◌||◌, ◌&&◌, length, arith, refl, sym, ap, ◌∙◌, inl, inr, subst, slice_set, slice_index_or, slice_get, Some, ◌+◌, ◌-◌, ◌⊎◌, All, map}
use Rattle.std.proofs.lemmas.Bool.{cases_eq, false_from_ne_true}
use Rattle.ground_form.specs.declared.con.Con.{Con}
use Rattle.ground_form.specs.Meaning.{vars_of}
use Rattle.rule_law.specs.Reasons.{has_number}
use Rattle.prop_queue.specs.Work.{row_of, is_clause, listed_vars}
use Rattle.prop_queue.specs.Lists.{IsFilled}

-- ---- truth values

or_nothing : (b : Bool) → (b || false) ≡ (false || b)
or_nothing true = refl
or_nothing false = refl

or_nought : (b : Bool) → b ≡ (b || false)
or_nought true = refl
or_nought false = refl

or_same : (b : Bool) → b ≡ true → b ≡ (b || true)
or_same true e = refl
or_same false e = absurd (cc)

or_later : (a b c : Bool) → (a || (b || c)) ≡ ((a || b) || c)
or_later true b c = refl
or_later false b c = refl

or_true : (a b : Bool) → b ≡ true → (a || b) ≡ true
or_true true b e = refl
or_true false b e = e

-- ---- one row

pub has_at : (xs : List ℕ) (i d : ℕ) → i < length xs → has_number (slice_index_or xs i d) xs ≡ true
has_at [] i d h = absurd (omega arith)
has_at (x ∷ xs) zero d h = let same : (x == x) ≡ true = grind arith in rw same refl
has_at (x ∷ xs) (suc i) d h =
    let more = has_at xs i d (omega arith) in or_true (x == slice_index_or xs i d) _ more

pub has_last : (xs : List ℕ) (last k : ℕ) → 0 < length xs →
    last ≡ slice_index_or xs (length xs - 1) last →
    (last == k) ≡ true → has_number k xs ≡ true
has_last xs last k h e same =
    let there = has_at xs (length xs - 1) last (omega arith) in
    let equal : last ≡ k = grind arith in
    let is : slice_index_or xs (length xs - 1) last ≡ k = sym e ∙ equal in
    subst (λ (z : ℕ). has_number z xs ≡ true) is there

has_pushed : (xs : List ℕ) (k j : ℕ) → has_number j (xs ++ k ∷ []) ≡ (has_number j xs || k == j)
has_pushed [] k j = or_nothing (k == j)
has_pushed (x ∷ xs) k j =
    let more = has_pushed xs k j in rw more (or_later (x == j) (has_number j xs) (k == j))

row_same : {V : Type 0} (f : V → List ℕ) (rows : List V) (x : ℕ) (v : V) → x < length (map f rows) →
    row_of (map f (slice_set rows x v)) x ≡ f v
row_same f [] x v h = absurd (omega arith)
row_same f (r ∷ rs) zero v h = refl
row_same f (r ∷ rs) (suc x) v h = row_same f rs x v (omega arith)

row_other : {V : Type 0} (f : V → List ℕ) (rows : List V) (x y : ℕ) (v : V) → (y ≡ x → ⊥) →
    row_of (map f (slice_set rows x v)) y ≡ row_of (map f rows) y
row_other f [] x y v n = refl
row_other f (r ∷ rs) zero zero v n = absurd (n refl)
row_other f (r ∷ rs) zero (suc y) v n = refl
row_other f (r ∷ rs) (suc x) zero v n = refl
row_other f (r ∷ rs) (suc x) (suc y) v n = row_other f rs x y v (λ e. n (omega arith))

pub row_is : {V : Type 0} (f : V → List ℕ) (rows : List V) (x : ℕ) (v d : V) →
    x < length (map f rows) →
    v ≡ slice_index_or rows x d → f v ≡ row_of (map f rows) x
row_is f [] x v d h e = absurd (omega arith)
row_is f (r ∷ rs) zero v d h e = ap f e
row_is f (r ∷ rs) (suc x) v d h e = row_is f rs x v d (omega arith) e

pub row_pushed : {V : Type 0} (f : V → List ℕ) (rows : List V) (x y k j : ℕ) (v : V) →
    x < length (map f rows) →
    f v ≡ row_of (map f rows) x ++ k ∷ [] →
    has_number j (row_of (map f (slice_set rows x v)) y) ≡
    (has_number j (row_of (map f rows) y) || x == y && k == j)
row_pushed f rows x y k j v h e =
    elim (cases_eq y x) [
      | inl same ↦
          let yes : (x == y) ≡ true = grind arith in
          let one : row_of (map f (slice_set rows x v)) y ≡ row_of (map f rows) y ++ k ∷ [] =
          subst
          (λ (z : ℕ). row_of (map f (slice_set rows x v)) z ≡ row_of (map f rows) z ++ k ∷ [])
          (sym same)
          (row_same f rows x v h ∙ e) in
          rw (one, yes) (has_pushed (row_of (map f rows) y) k j)
      | inr other ↦
          let no : (x == y) ≡ false = grind arith in
          rw (row_other f rows x y v other, no) (or_nought (has_number j (row_of (map f rows) y)))
    ]

-- what stands in the row needs no push
pub row_has : (rows : List (List ℕ)) (x y k j : ℕ) → has_number k (row_of rows x) ≡ true →
    has_number j (row_of rows y) ≡ (has_number j (row_of rows y) || x == y && k == j)
row_has rows x y k j h =
    elim (cases_eq y x) [
      | inl same ↦ elim (cases_eq j k) [
        | inl equal ↦
            let yes : (x == y) ≡ true = grind arith in
            let also : (k == j) ≡ true = grind arith in
            let there : has_number j (row_of rows y) ≡ true = rw (same, equal) h in
            rw (yes, also) (or_same (has_number j (row_of rows y)) there)
        | inr unequal ↦
            let yes : (x == y) ≡ true = grind arith in
            let no : (k == j) ≡ false = grind arith in
            rw (yes, no) (or_nought (has_number j (row_of rows y)))
      ]
      | inr other ↦
          let no : (x == y) ≡ false = grind arith in
          rw no (or_nought (has_number j (row_of rows y)))
    ]

-- ---- one constraint after the other

pub filled_none : (cons : List Con) (rows : List (List ℕ)) →
    ((x k : ℕ) → has_number k (row_of rows x) ≡ false) →
    IsFilled cons rows 0
filled_none cons rows h = record {
  below = λ x k e. let no = h x k in absurd (cc);
  named = λ x k con at lt. absurd (omega arith);
}

more_below : (a b c : Bool) → (a || b && c) ≡ true → (a ≡ true) ⊎ (c ≡ true)
more_below true b c e = inl refl
more_below false true c e = inr e
more_below false false c e = absurd (cc)

more_before : (a b c : Bool) → c ≡ false → (a || b && c) ≡ a
more_before true b c e = refl
more_before false true c e = e
more_before false false c e = refl

more_at : (a b c : Bool) → a ≡ false → c ≡ true → (a || b && c) ≡ b
more_at true b c e f = absurd (cc)
more_at false true c e f = f
more_at false false c e f = refl

pub filled_more : (cons : List Con) (rows news : List (List ℕ)) (n : ℕ) (vars : List ℕ) →
    IsFilled cons rows n →
    ((con : Con) → slice_get cons n ≡ Some con → vars ≡ listed_vars con) →
    ((y j : ℕ) →
    has_number j (row_of news y) ≡
    (has_number j (row_of rows y) || has_number y vars && n == j)) →
    IsFilled cons news (n + 1)
filled_more cons rows news n vars f v h = record {
  below = λ x k e. elim
      (more_below (has_number k (row_of rows x)) (has_number x vars) (n == k) (sym (h x k) ∙ e)) [
        | inl old ↦ let lt = f.below x k old in omega arith
        | inr new ↦ let same : n ≡ k = grind arith in omega arith
      ];
  named = λ x k con at lt. elim (cases_eq k n) [
    | inl same ↦
        let yes : (n == k) ≡ true = grind arith in
        let none : has_number k (row_of rows x) ≡ false =
        false_from_ne_true _ (λ e. let no = f.below x k e in omega arith) in
        let is : vars ≡ listed_vars con =
        v con (subst (λ (i : ℕ). slice_get cons i ≡ Some con) same at) in
        h x k ∙ more_at (has_number k (row_of rows x)) (has_number x vars) (n == k) none yes
        ∙ ap (λ (l : List ℕ). has_number x l) is
    | inr other ↦
        let no : (n == k) ≡ false = grind arith in
        h x k ∙ more_before (has_number k (row_of rows x)) (has_number x vars) (n == k) no
        ∙ f.named x k con at (omega arith)
  ];
}

few_below : (m : ℕ) (b : Bool) (xs : List ℕ) → All (λ x. x < m) xs → All (λ x. x < m) (cond b [] xs)
few_below m true xs h = λ j d l. absurd (omega arith)
few_below m false xs h = h

-- the variables that were found are those of a constraint, so they have rows
pub vars_below : (cons : List Con) (k m : ℕ) (vars : List ℕ) →
    All (λ con. All (λ x. x < m) (vars_of con)) cons →
    k < length cons → ((con : Con) → slice_get cons k ≡ Some con → vars ≡ listed_vars con) →
    All (λ x. x < m) vars
vars_below [] k m vars h lt v = absurd (omega arith)
vars_below (c ∷ cs) zero m vars h lt v =
    subst (λ (l : List ℕ). All (λ x. x < m) l) (sym (v c refl))
    (few_below m (is_clause c) (vars_of c) (h 0 c (omega arith)))
vars_below (c ∷ cs) (suc k) m vars h lt v =
    vars_below cs k m vars (λ j d l. h (suc j) d (omega arith)) (omega arith) v
