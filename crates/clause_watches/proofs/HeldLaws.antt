-- Clauses that come to rest by one literal, and that are freed of it.
use Rattle.std.proofs.Common.{◌≡◌, ◌≢◌, ℕ, ◌<◌, ◌==◌, Bool, true, false, cond, List, [], ◌∷◌, ◌++◌, ◌||◌, inl, inr, ℤ, length, arith, refl, sym, ap, ◌∙◌, subst, slice_set}
use Rattle.std.proofs.lemmas.Bool.{cases_eq, false_from_ne_true}
use Rattle.std.proofs.lemmas.List.{length-set}
use Rattle.signed_clause.specs.Clauses.{Literals}
use Rattle.clause_watches.specs.declared.rest.Rest.{Rest}
use Rattle.clause_watches.specs.declared.rest.Rest.TheVariants.{Listed, Half, On, Held}
use Rattle.clause_watches.specs.declared.watch.Watch.{Watch}
use Rattle.clause_watches.specs.Watching.{rest_of, holds}
use Rattle.clause_watches.specs.Rows.{names, differ, has_watch, freed, AreBelow}
use Rattle.clause_watches.specs.Sound.{row_of, held_of, stands, AreLinked}
use Rattle.clause_watches.proofs.LinkLaws.{rest_cases}
use Rattle.clause_watches.proofs.TestLaws.{or_right, or_more}

stands_own : (list : List ℕ) (i : ℕ) → stands i (list ++ i ∷ []) ≡ true
stands_own [] i = let yes : (i == i) ≡ true = grind arith in rw yes refl
stands_own (j ∷ js) i = or_right (j == i) _ (stands_own js i)

stands_still : (list : List ℕ) (i j : ℕ) → stands j list ≡ true → stands j (list ++ i ∷ []) ≡ true
stands_still [] i j h = absurd (cc)
stands_still (k ∷ ks) i j h = or_more (k == j) (stands j ks) _ (λ g. stands_still ks i j g) h

or_first : (a b : Bool) → b ≡ false → (a || b) ≡ true → a ≡ true
or_first true b e f = refl
or_first false b e f = absurd (cc)

or_cases : (a b c : Bool) → (b ≡ true → c ≡ true) → (a || b) ≡ true → (a || c) ≡ true
or_cases true b c f e = refl
or_cases false b c f e = f e

-- another number stands before the last one
stands_before : (list : List ℕ) (i j : ℕ) → j ≢ i → stands j (list ++ i ∷ []) ≡ true →
    stands j list ≡ true
stands_before [] i j n h =
    let no : (i == j) ≡ false = grind arith in
    let last : (i == j) ≡ true = or_first (i == j) false refl h in absurd (cc)
stands_before (k ∷ ks) i j n h = or_cases (k == j) _ (stands j ks) (stands_before ks i j n) h

half_named : (a x : ℕ) (r : Rest) → r ≡ Half x → names (Held x) a ≡ true → names r a ≡ true
half_named a x r e h = subst (λ (q : Rest). names q a ≡ true) (sym e) h

-- the clause stands in the list of the variable that holds it
pub linked_held : (added : List (ℕ × Literals)) (rests : List Rest) (rows : List (List Watch))
    (leasts : List ℤ) (held held' : List (List ℕ)) (i x : ℕ) →
    AreLinked added rests rows leasts held → i < length rests → rest_of rests i ≡ Half x →
    ((y : ℕ) → y ≢ x → held_of held' y ≡ held_of held y) →
    held_of held' x ≡ held_of held x ++ i ∷ [] →
    AreLinked added (slice_set rests i (Held x)) rows leasts held'
linked_held added rests rows leasts held held' i x fit there half others grown =
    let still : (j y : ℕ) → stands j (held_of held y) ≡ true →
    stands j (held_of held' y) ≡ true = λ j y h. elim (cases_eq y x) [
      | inl same ↦ subst (λ (z : ℕ). stands j (held_of held' z) ≡ true) (sym same)
          (subst (λ (l : List ℕ). stands j l ≡ true) (sym grown)
          (stands_still (held_of held x) i j
          (subst (λ (z : ℕ). stands j (held_of held z) ≡ true) same h)))
      | inr other ↦ subst (λ (l : List ℕ). stands j l ≡ true) (sym (others y other)) h
    ] in
    let own : stands i (held_of held' x) ≡ true =
    subst (λ (l : List ℕ). stands i l ≡ true) (sym grown) (stands_own (held_of held x) i) in
    let size : length (slice_set rests i (Held x)) ≡ length rests = length-set rests i (Held x) in
    record {
      size = size ∙ fit.size;
      apart = rest_cases rests i (Held x) (λ j q. differ q ≡ true) there refl fit.apart;
      linked = λ j y. rest_cases rests i (Held x)
          (λ k q. names q y ≡ true → has_watch k (row_of rows y) ≡ true) there
          (λ n. fit.linked i y (half_named y x (rest_of rests i) half n))
          (λ k n. fit.linked k y n) j;
      below = λ y. subst (λ (n : ℕ). AreBelow n (row_of rows y)) (sym size) (fit.below y);
      right = fit.right;
      held_listed = λ j y. rest_cases rests i (Held x)
          (λ k q. holds q y ≡ true → stands k (held_of held' y) ≡ true) there
          (λ h. let same : y ≡ x = grind arith in
          subst (λ (z : ℕ). stands i (held_of held' z) ≡ true) (sym same) own)
          (λ k h. still k y (fit.held_listed k y h)) j;
    }

-- ---- freed

half_names : (x y a : ℕ) (m : Bool) → (a == x) ≡ m →
    names (cond m (Half x) (Held a)) y ≡ names (Held a) y
half_names x y a true e = let same : a ≡ x = grind arith in ap (λ (z : ℕ). z == y) (sym same)
half_names x y a false e = refl

freed_names : (x y : ℕ) (r : Rest) → names (freed x r) y ≡ names r y
freed_names x y Listed = refl
freed_names x y (Half a) = refl
freed_names x y (On a b) = refl
freed_names x y (Held a) = half_names x y a (a == x) refl

half_apart : (x a : ℕ) (m : Bool) → differ (cond m (Half x) (Held a)) ≡ true
half_apart x a true = refl
half_apart x a false = refl

freed_apart : (x : ℕ) (r : Rest) → differ r ≡ true → differ (freed x r) ≡ true
freed_apart x Listed h = h
freed_apart x (Half a) h = h
freed_apart x (On a b) h = h
freed_apart x (Held a) h = half_apart x a (a == x)

half_holds : (x y a : ℕ) (m : Bool) → (a == x) ≡ m → holds (cond m (Half x) (Held a)) y ≡ true →
    ((a == y) ≡ true) × (y ≢ x)
half_holds x y a true e h = absurd (cc)
half_holds x y a false e h = (
  h,
  λ same. let one : (a == x) ≡ true = subst (λ (z : ℕ). (a == z) ≡ true) same h in
      absurd (cc),
)

freed_holds : (x y : ℕ) (r : Rest) → holds (freed x r) y ≡ true →
    (holds r y ≡ true) × (y ≢ x)
freed_holds x y Listed h = absurd (cc)
freed_holds x y (Half a) h = absurd (cc)
freed_holds x y (On a b) h = absurd (cc)
freed_holds x y (Held a) h = half_holds x y a (a == x) refl h

half_twice : (x a : ℕ) (m : Bool) → (a == x) ≡ m →
    freed x (cond m (Half x) (Held a)) ≡ cond m (Half x) (Held a)
half_twice x a true e = refl
half_twice x a false e = ap (λ (m : Bool). cond m (Half x) (Held a)) e

freed_twice : (x : ℕ) (r : Rest) → freed x (freed x r) ≡ freed x r
freed_twice x Listed = refl
freed_twice x (Half a) = refl
freed_twice x (On a b) = refl
freed_twice x (Held a) = half_twice x a (a == x) refl

-- one clause of the list is freed, or is as it was
pub freed_when : (x : ℕ) (r : Rest) (m : Bool) → freed x (cond m (freed x r) r) ≡ freed x r
freed_when x r true = freed_twice x r
freed_when x r false = refl

when_names : (x y : ℕ) (r : Rest) (m : Bool) → names (cond m (freed x r) r) y ≡ names r y
when_names x y r true = freed_names x y r
when_names x y r false = refl

when_apart : (x : ℕ) (r : Rest) (m : Bool) → differ r ≡ true → differ (cond m (freed x r) r) ≡ true
when_apart x r true h = freed_apart x r h
when_apart x r false h = h

when_holds : (x y : ℕ) (r : Rest) (m : Bool) → holds (cond m (freed x r) r) y ≡ true →
    (holds r y ≡ true) × (m ≡ true → y ≢ x)
when_holds x y r true h = let both = freed_holds x y r h in (both.0, λ _. both.1)
when_holds x y r false h = (h, λ e. absurd (cc))

-- a clause is out of the list, and freed
pub linked_freed : (added : List (ℕ × Literals)) (rests news : List Rest)
    (rows : List (List Watch)) (leasts : List ℤ) (held held' : List (List ℕ)) (i x : ℕ) →
    AreLinked added rests rows leasts held → length news ≡ length rests →
    ((j : ℕ) → rest_of news j ≡ cond (i == j) (freed x (rest_of rests j)) (rest_of rests j)) →
    ((y : ℕ) → y ≢ x → held_of held' y ≡ held_of held y) →
    held_of held x ≡ held_of held' x ++ i ∷ [] →
    AreLinked added news rows leasts held'
linked_freed added rests news rows leasts held held' i x fit size is others less = record {
  size = size ∙ fit.size;
  apart = λ j. subst (λ (r : Rest). differ r ≡ true) (sym (is j))
      (when_apart x (rest_of rests j) (i == j) (fit.apart j));
  linked = λ j y n. fit.linked j y (sym (when_names x y (rest_of rests j) (i == j))
      ∙ subst (λ (r : Rest). names r y ≡ true) (is j) n);
  below = λ y. subst (λ (n : ℕ). AreBelow n (row_of rows y)) (sym size) (fit.below y);
  right = fit.right;
  held_listed = λ j y h.
      let both = when_holds x y (rest_of rests j) (i == j)
      (subst (λ (r : Rest). holds r y ≡ true) (is j) h) in
      let old = fit.held_listed j y both.0 in elim (cases_eq y x) [
        | inl same ↦ let apart : j ≢ i = λ e.
            let yes : (i == j) ≡ true = grind arith in both.1 yes same in
            subst (λ (z : ℕ). stands j (held_of held' z) ≡ true) (sym same)
            (stands_before (held_of held' x) i j apart
            (subst (λ (l : List ℕ). stands j l ≡ true) less
            (subst (λ (z : ℕ). stands j (held_of held z) ≡ true) same old)))
        | inr other ↦ subst (λ (l : List ℕ). stands j l ≡ true) (sym (others y other)) old
      ];
}

-- where the list is empty no clause rests by the variable alone
pub none_held : (added : List (ℕ × Literals)) (rests : List Rest) (rows : List (List Watch))
    (leasts : List ℤ) (held : List (List ℕ)) (i x : ℕ) → AreLinked added rests rows leasts held →
    held_of held x ≡ [] → freed x (rest_of rests i) ≡ rest_of rests i
none_held added rests rows leasts held i x fit none =
    let free : holds (rest_of rests i) x ≡ false = false_from_ne_true _ (λ h.
    let there = subst (λ (l : List ℕ). stands i l ≡ true) none (fit.held_listed i x h) in
    absurd (cc)) in ap (λ (m : Bool). cond m (Half x) (rest_of rests i)) free
