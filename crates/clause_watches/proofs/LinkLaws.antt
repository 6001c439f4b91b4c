-- Watches by literals that are found.
use Rattle.std.proofs.Common.{◌≡◌, ◌≢◌, ℕ, zero, suc, ◌<◌, ◌+◌, ◌==◌, Bool, true, false, not, List, [], ◌∷◌, ◌++◌, ◌||◌, ◌⊎◌, inl, inr, ℤ, length, arith, refl, sym, ap, ◌∙◌, subst, slice_set, slice_index_or}
use Rattle.std.specs.List.{All}
use Rattle.std.proofs.lemmas.Bool.{cases_eq}
use Rattle.std.proofs.lemmas.List.{length-set, length_push}
use Rattle.std.proofs.lemmas.List.Elements.{All-push}
use Rattle.signed_clause.specs.Clauses.{Literals, set_of, IsClause}
use Rattle.clause_watches.specs.declared.rest.Rest.{Rest}
use Rattle.clause_watches.specs.declared.rest.Rest.TheVariants.{Listed, Half, On, Held}
use Rattle.clause_watches.specs.declared.watch.Link.{Link}
use Rattle.clause_watches.specs.declared.watch.Watch.{Watch}
use Rattle.clause_watches.specs.Watching.{clause_of, rest_of, holds}
use Rattle.clause_watches.specs.Rows.{names, differ, has_watch, AreBelow, AreRight, IsTrueOf}
use Rattle.clause_watches.specs.Sound.{row_of, held_of, stands, least_at, sets_at, AreClauses, AreLinked}
use Rattle.clause_watches.specs.Looking.{linked}
use Rattle.clause_watches.proofs.RestLaws.{rest_set_same, rest_set_other}
use Rattle.clause_watches.proofs.TestLaws.{or_right, or_more}

-- ---- one literal more is known to meet

or_is : (x y : ℕ) (b d : Bool) → (b || d) ≡ true → (d ≡ true → y ≡ x) → (b ≡ true) ⊎ (y ≡ x)
or_is x y true d e f = inl refl
or_is x y false d e f = inr (f e)

linked_names : (x y : ℕ) (r : Rest) → names (linked x r) y ≡ true → (names r y ≡ true) ⊎ (y ≡ x)
linked_names x y Listed h = inr (grind arith)
linked_names x y (Half a) h = or_is x y (a == y) (x == y) h (grind arith)
linked_names x y (On a b) h = inl h
linked_names x y (Held a) h = inl h

linked_holds : (x y : ℕ) (r : Rest) → holds (linked x r) y ≡ true → holds r y ≡ true
linked_holds x y Listed h = absurd (cc)
linked_holds x y (Half a) h = absurd (cc)
linked_holds x y (On a b) h = h
linked_holds x y (Held a) h = h

linked_apart : (x : ℕ) (r : Rest) → names r x ≡ false → differ r ≡ true → differ (linked x r) ≡ true
linked_apart x Listed n d = refl
linked_apart x (Half a) n d = ap (λ (b : Bool). not b) n
linked_apart x (On a b) n d = d
linked_apart x (Held a) n d = d

-- in place of one rest another, at a property of all of them
pub rest_cases : (rests : List Rest) (i : ℕ) (r : Rest) (P : ℕ → Rest → Type 0) → i < length rests →
    P i r → ((j : ℕ) → P j (rest_of rests j)) → (j : ℕ) → P j (rest_of (slice_set rests i r) j)
rest_cases rests i r P h p all j = elim (cases_eq j i) [
  | inl same ↦ subst (λ (k : ℕ). P k (rest_of (slice_set rests i r) k)) (sym same)
      (subst (λ (q : Rest). P i q) (sym (rest_set_same rests i r h)) p)
  | inr other ↦ subst (λ (q : Rest). P j q) (sym (rest_set_other rests i j r other)) (all j)
]

has_own : (row : List Watch) (w : Watch) (i : ℕ) → w.clause ≡ i → has_watch i (row ++ w ∷ []) ≡ true
has_own [] w i e = let yes : (w.clause == i) ≡ true = grind arith in rw yes refl
has_own (v ∷ vs) w i e = or_right (v.clause == i) _ (has_own vs w i e)

has_still : (row : List Watch) (w : Watch) (i : ℕ) → has_watch i row ≡ true →
    has_watch i (row ++ w ∷ []) ≡ true
has_still [] w i e = absurd (cc)
has_still (v ∷ vs) w i e = or_more (v.clause == i) (has_watch i vs) _ (λ h. has_still vs w i h) e

-- one row has a watch more, and the clause's rest names its variable
pub linked_more : (added : List (ℕ × Literals)) (rests : List Rest) (rows rows' : List (List Watch))
    (leasts : List ℤ) (held : List (List ℕ)) (l : Link) →
    AreLinked added rests rows leasts held → l.watch.clause < length rests →
    names (rest_of rests l.watch.clause) l.variable ≡ false →
    IsTrueOf (least_at leasts l.variable) (sets_at added l.variable l.watch.clause)
    l.watch.witness →
    ((y : ℕ) → y ≢ l.variable → row_of rows' y ≡ row_of rows y) →
    row_of rows' l.variable ≡ row_of rows l.variable ++ l.watch ∷ [] →
    AreLinked added
    (slice_set rests l.watch.clause (linked l.variable (rest_of rests l.watch.clause))) rows'
    leasts held
linked_more added rests rows rows' leasts held l fit there unnamed right others grown =
    let x = l.variable in
    let i = l.watch.clause in
    let r = rest_of rests i in
    let news = slice_set rests i (linked x r) in
    let size : length news ≡ length rests = length-set rests i (linked x r) in
    let still : (j y : ℕ) → has_watch j (row_of rows y) ≡ true →
    has_watch j (row_of rows' y) ≡ true = λ j y h. elim (cases_eq y x) [
      | inl same ↦ subst (λ (z : ℕ). has_watch j (row_of rows' z) ≡ true) (sym same)
          (subst (λ (row : List Watch). has_watch j row ≡ true) (sym grown)
          (has_still (row_of rows x) l.watch j
          (subst (λ (z : ℕ). has_watch j (row_of rows z) ≡ true) same h)))
      | inr other ↦ subst (λ (row : List Watch). has_watch j row ≡ true) (sym (others y other)) h
    ] in
    let own : has_watch i (row_of rows' x) ≡ true =
    subst (λ (row : List Watch). has_watch i row ≡ true) (sym grown)
    (has_own (row_of rows x) l.watch i refl) in record {
      size = size ∙ fit.size;
      apart = rest_cases rests i (linked x r) (λ j q. differ q ≡ true) there
          (linked_apart x r unnamed (fit.apart i)) fit.apart;
      linked = λ j y. rest_cases rests i (linked x r)
          (λ k q. names q y ≡ true → has_watch k (row_of rows' y) ≡ true) there
          (λ n. elim (linked_names x y r n) [
            | inl old ↦ still i y (fit.linked i y old)
            | inr new ↦ subst (λ (z : ℕ). has_watch i (row_of rows' z) ≡ true) (sym new) own
          ]) (λ k n. still k y (fit.linked k y n)) j;
      below = λ y. subst (λ (n : ℕ). AreBelow n (row_of rows' y)) (sym size) (elim (cases_eq y x) [
        | inl same ↦ subst (λ (z : ℕ). AreBelow (length rests) (row_of rows' z)) (sym same)
            (subst (λ (row : List Watch). AreBelow (length rests) row) (sym grown)
            (All-push (λ w. w.clause < length rests) (row_of rows x) l.watch
            (fit.below x) there))
        | inr other ↦ subst (λ (row : List Watch). AreBelow (length rests) row)
            (sym (others y other)) (fit.below y)
      ]);
      right = λ y. elim (cases_eq y x) [
        | inl same ↦
            subst (λ (z : ℕ). AreRight (least_at leasts z) (sets_at added z) (row_of rows' z))
            (sym same)
            (subst (λ (row : List Watch). AreRight (least_at leasts x) (sets_at added x) row)
            (sym grown)
            (All-push (λ w. IsTrueOf (least_at leasts x) (sets_at added x w.clause) w.witness)
            (row_of rows x) l.watch (fit.right x) right))
        | inr other ↦
            subst (λ (row : List Watch). AreRight (least_at leasts y) (sets_at added y) row)
            (sym (others y other)) (fit.right y)
      ];
      held_listed =
          λ j y. rest_cases rests i (linked x r)
          (λ k q. holds q y ≡ true → stands k (held_of held y) ≡ true) there
          (λ h. fit.held_listed i y (linked_holds x y r h)) (λ k h. fit.held_listed k y h) j;
    }

-- ---- a clause more, of which nothing is known

rest_added : (rests : List Rest) (i : ℕ) → rest_of (rests ++ Listed ∷ []) i ≡ rest_of rests i
rest_added [] zero = refl
rest_added [] (suc i) = refl
rest_added (r ∷ rs) zero = refl
rest_added (r ∷ rs) (suc i) = rest_added rs i

pub clause_added : (added : List (ℕ × Literals)) (a : ℕ × Literals) (i : ℕ) → i < length added →
    clause_of (added ++ a ∷ []) i ≡ clause_of added i
clause_added [] a i h = absurd (omega arith)
clause_added (b ∷ bs) a zero h = refl
clause_added (b ∷ bs) a (suc i) h = clause_added bs a i (omega arith)

right_added : (added : List (ℕ × Literals)) (a : ℕ × Literals) (least : ℤ) (x n : ℕ)
    (row : List Watch) → n ≡ length added → AreBelow n row → AreRight least (sets_at added x) row →
    AreRight least (sets_at (added ++ a ∷ []) x) row
right_added added a least x n row e below right k d h =
    let w = slice_index_or row k d in
    let there : w.clause < length added = subst (λ (m : ℕ). w.clause < m) e (below k d h) in
    subst (λ (c : Literals). IsTrueOf least (set_of c x) w.witness)
    (sym (clause_added added a w.clause there)) (right k d h)

-- rests, rows and lists still fit together
pub linked_added : (added : List (ℕ × Literals)) (rests : List Rest) (rows : List (List Watch))
    (leasts : List ℤ) (held : List (List ℕ)) (a : ℕ × Literals) →
    AreLinked added rests rows leasts held →
    AreLinked (added ++ a ∷ []) (rests ++ Listed ∷ []) rows leasts held
linked_added added rests rows leasts held a fit = record {
  size = length_push rests Listed ∙ ap (λ (n : ℕ). n + 1) fit.size ∙ sym (length_push added a);
  apart = λ i. subst (λ (r : Rest). differ r ≡ true) (sym (rest_added rests i)) (fit.apart i);
  linked = λ i x n. fit.linked i x (subst (λ (r : Rest). names r x ≡ true) (rest_added rests i) n);
  below = λ x k d h. let one = fit.below x k d h in let more = length_push rests Listed in
      omega arith;
  right = λ x. right_added added a (least_at leasts x) x (length rests) (row_of rows x) fit.size
      (fit.below x) (fit.right x);
  held_listed = λ i x h.
      fit.held_listed i x (subst (λ (r : Rest). holds r x ≡ true) (rest_added rests i) h);
}

pub clauses_added : (n : ℕ) (added : List (ℕ × Literals)) (a : ℕ × Literals) → IsClause a.1 →
    All (λ l. l.0 < n) a.1 → AreClauses n added → AreClauses n (added ++ a ∷ [])
clauses_added n added a form within all = record {
  forms = All-push (λ b. IsClause b.1) added a all.forms form;
  within = All-push (λ b. All (λ l. l.0 < n) b.1) added a all.within within;
}
