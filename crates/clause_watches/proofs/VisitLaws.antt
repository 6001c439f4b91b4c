-- The table once a row was walked.
use Rattle.std.proofs.Common.{◌≡◌, ◌≢◌, ℕ, zero, suc, ◌==◌, Bool, true, false, List, [], ◌∷◌, inl, inr, length, take, ℤ, arith, refl, sym, ap, ◌∙◌, subst}
use Rattle.std.specs.List.{All}
use Rattle.std.proofs.lemmas.Bool.{cases_eq}
use Rattle.std.proofs.lemmas.List.Elements.{All-nil, All-tail}
use Rattle.signed_clause.specs.Ranges.{Ranges, IsValid}
use Rattle.signed_clause.specs.SetAlgebra.{is_disjoint}
use Rattle.signed_clause.specs.Clauses.{Boxes, Literals, box_of, IsClause}
use Rattle.signed_clause.proofs.ResolventLaws.{set_valid}
use Rattle.clause_watches.specs.declared.rest.Rest.{Rest}
use Rattle.clause_watches.specs.declared.watch.Watch.{Watch}
use Rattle.clause_watches.specs.declared.watch.Site.{Site}
use Rattle.clause_watches.specs.Watching.{rest_of, clause_of}
use Rattle.clause_watches.specs.Marks.{is_marked}
use Rattle.clause_watches.specs.Rows.{names, differ, has_watch, AreBelow, AreRight, IsWalked}
use Rattle.clause_watches.specs.Sound.{row_of, least_at, sets_at, AreClauses, AreLinked, AreKnown, IsUnmarked}
use Rattle.clause_watches.proofs.RestLaws.{step_none}
use Rattle.clause_watches.proofs.KnownLaws.{known_again}
use Rattle.clause_watches.proofs.TestLaws.{or_other}

-- the walk begins
pub walk_begins : (added : List (ℕ × Literals)) (rests : List Rest) (rows : List (List Watch))
    (leasts : List ℤ) (held : List (List ℕ)) (at : Ranges) (s : Site) →
    AreLinked added rests rows leasts held → s.least ≡ least_at leasts s.variable →
    IsWalked (sets_at added s.variable) at s rests rests (row_of rows s.variable) 0
walk_begins added rests rows leasts held at s fit least = record {
  steps = λ i. step_none s.variable (rest_of rests i);
  linked = λ i n. fit.linked i s.variable n;
  right = subst (λ (v : ℤ). AreRight v (sets_at added s.variable) (row_of rows s.variable))
      (sym least) (fit.right s.variable);
  met = All-nil
      (λ w. names (rest_of rests w.clause) s.variable ≡ true →
      is_disjoint (sets_at added s.variable w.clause) at ≡ false);
}

found : (row : List Watch) (i : ℕ) (Q : ℕ → Type 0) → All (λ w. Q w.clause) row →
    has_watch i row ≡ true → Q i
found [] i Q h e = absurd (cc)
found (w ∷ ws) i Q h e = elim (cases_eq w.clause i) [
  | inl same ↦ subst Q same (h 0 w (omega arith))
  | inr other ↦ found ws i Q (All-tail (λ (v : Watch). Q v.clause) w ws h)
      (or_other (w.clause == i) (has_watch i ws) (grind arith) e)
]

take_whole : {X : Type 0} (xs : List X) → take (length xs) xs ≡ xs
take_whole [] = refl
take_whole (x ∷ xs) = ap (λ l. x ∷ l) (take_whole xs)

-- at the end each clause of the row was met
met_at : (sets : ℕ → Ranges) (at : Ranges) (s : Site) (before rests : List Rest) (row : List Watch)
    (i : ℕ) → IsWalked sets at s before rests row (length row) →
    names (rest_of rests i) s.variable ≡ true → is_disjoint (sets i) at ≡ false
met_at sets at s before rests row i walked n =
    found row i (λ j. names (rest_of rests j) s.variable ≡ true →
    is_disjoint (sets j) at ≡ false)
    (subst (λ (l : List Watch). All
    (λ w. names (rest_of rests w.clause) s.variable ≡ true →
    is_disjoint (sets w.clause) at ≡ false) l)
    (take_whole row) walked.met)
    (walked.linked i n) n

-- the walk ends
pub linked_after : (added : List (ℕ × Literals)) (rests news : List Rest)
    (rows rows' : List (List Watch)) (leasts : List ℤ) (held : List (List ℕ)) (at : Ranges)
    (s : Site) →
    AreLinked added rests rows leasts held → s.least ≡ least_at leasts s.variable →
    length news ≡ length rests →
    ((y : ℕ) → y ≢ s.variable → row_of rows' y ≡ row_of rows y) →
    AreBelow (length news) (row_of rows' s.variable) →
    IsWalked (sets_at added s.variable) at s rests news (row_of rows' s.variable)
    (length (row_of rows' s.variable)) →
    AreLinked added news rows' leasts held
linked_after added rests news rows rows' leasts held at s fit least size others below walked =
    let x = s.variable in record {
      size = size ∙ fit.size;
      apart = λ i. (walked.steps i).apart (fit.apart i);
      linked = λ i y n. elim (cases_eq y x) [
        | inl same ↦ subst (λ (z : ℕ). has_watch i (row_of rows' z) ≡ true) (sym same)
            (walked.linked i (subst (λ (z : ℕ). names (rest_of news i) z ≡ true) same n))
        | inr other ↦ subst (λ (l : List Watch). has_watch i l ≡ true) (sym (others y other))
            (fit.linked i y ((walked.steps i).named y n))
      ];
      below = λ y. elim (cases_eq y x) [
        | inl same ↦ subst (λ (z : ℕ). AreBelow (length news) (row_of rows' z)) (sym same) below
        | inr other ↦ subst (λ (l : List Watch). AreBelow (length news) l) (sym (others y other))
            (subst (λ (n : ℕ). AreBelow n (row_of rows y)) (sym size) (fit.below y))
      ];
      right = λ y. elim (cases_eq y x) [
        | inl same ↦
            subst (λ (z : ℕ). AreRight (least_at leasts z) (sets_at added z) (row_of rows' z))
            (sym same)
            (subst (λ (v : ℤ). AreRight v (sets_at added x) (row_of rows' x)) least walked.right)
        | inr other ↦ subst (λ (l : List Watch). AreRight (least_at leasts y) (sets_at added y) l)
            (sym (others y other)) (fit.right y)
      ];
      held_listed = λ i y h. fit.held_listed i y ((walked.steps i).unheld y h);
    }

-- what is known once x counts as unchanged
pub known_after : (boxes : Boxes) (added : List (ℕ × Literals)) (rests news : List Rest)
    (row : List Watch) (s : Site) (before after : List Bool) →
    is_marked before s.variable ≡ true → IsUnmarked s.variable before after →
    ((i : ℕ) → differ (rest_of news i) ≡ true) →
    IsWalked (sets_at added s.variable) (box_of boxes s.variable) s rests news row (length row) →
    AreKnown boxes added rests before → AreKnown boxes added news after
known_after boxes added rests news row s before after on unmarked apart walked known i =
    let x = s.variable in
    let met = λ (n : names (rest_of news i) x ≡ true). met_at (sets_at added x)
    (box_of boxes x) s rests news row i walked n in
    known_again boxes (clause_of added i) x (rest_of news i) before after on unmarked (apart i)
    met ((walked.steps i).known boxes (clause_of added i) before on (known i))

pub clause_form : (added : List (ℕ × Literals)) (i : ℕ) → All (λ a. IsClause a.1) added →
    IsClause (clause_of added i)
clause_form [] i f = tt
clause_form (a ∷ rest) zero f = f 0 a (omega arith)
clause_form (a ∷ rest) (suc i) f = clause_form rest i (λ k d h. f (suc k) d (omega arith))

-- the sets of clauses are valid
pub sets_valid : (n : ℕ) (added : List (ℕ × Literals)) (x i : ℕ) → AreClauses n added →
    IsValid (sets_at added x i)
sets_valid n added x i f = set_valid 0 (clause_of added i) x (clause_form added i f.forms)
