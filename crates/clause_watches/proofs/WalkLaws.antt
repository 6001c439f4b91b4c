-- A walk along a row, watch by watch.
use Rattle.std.proofs.Common.{◌≡◌, ◌≢◌, ℕ, ◌<◌, ◌+◌, ◌==◌, true, false, List, ◌∷◌, inl, inr, length, take, arith, sym, ap, ◌∙◌, subst, slice_set, slice_index_or}
use Rattle.std.specs.List.{All}
use Rattle.std.specs.List.Sorted.{IsPermutation}
use Rattle.std.proofs.lemmas.Bool.{cases_eq}
use Rattle.std.proofs.lemmas.List.Elements.{All-more, All-tail, All-same}
use Rattle.std.proofs.lemmas.List.Sorted.{All-permutation, list_any-IsPermutation}
use Rattle.signed_clause.specs.Ranges.{Ranges}
use Rattle.signed_clause.specs.SetAlgebra.{is_disjoint}
use Rattle.clause_watches.specs.declared.rest.Rest.{Rest}
use Rattle.clause_watches.specs.declared.watch.Watch.{Watch}
use Rattle.clause_watches.specs.declared.watch.Site.{Site}
use Rattle.clause_watches.specs.Watching.{rest_of}
use Rattle.clause_watches.specs.Rows.{names, has_watch, forgotten, IsStep, IsWalked, IsTrueOf}
use Rattle.clause_watches.proofs.RestLaws.{rest_set_same, rest_set_other, step_none, step_then, step_forgotten, forgotten_names}
use Rattle.clause_watches.proofs.TestLaws.{or_other}

-- one rest takes a step
set_step : (x : ℕ) (rests : List Rest) (i : ℕ) (r : Rest) → i < length rests →
    IsStep x (rest_of rests i) r →
    (j : ℕ) → IsStep x (rest_of rests j) (rest_of (slice_set rests i r) j)
set_step x rests i r h step j = elim (cases_eq j i) [
  | inl same ↦ subst (λ (k : ℕ). IsStep x (rest_of rests k) (rest_of (slice_set rests i r) k))
      (sym same)
      (subst (λ (q : Rest). IsStep x (rest_of rests i) q) (sym (rest_set_same rests i r h)) step)
  | inr other ↦ subst (λ (q : Rest). IsStep x (rest_of rests j) q)
      (sym (rest_set_other rests i j r other)) (step_none x (rest_of rests j))
]

-- what was met stays met
met_step : (sets : ℕ → Ranges) (at : Ranges) (x : ℕ) (rests news : List Rest) (ws : List Watch) →
    ((j : ℕ) → IsStep x (rest_of rests j) (rest_of news j)) →
    All (λ w. names (rest_of rests w.clause) x ≡ true → is_disjoint (sets w.clause) at ≡ false)
    ws → All (λ w. names (rest_of news w.clause) x ≡ true →
    is_disjoint (sets w.clause) at ≡ false) ws
met_step sets at x rests news ws step met k d h = λ n.
    met k d h ((step ((slice_index_or ws k d).clause)).named x n)

-- the watch stays
pub walked_on : (sets : ℕ → Ranges) (at : Ranges) (s : Site) (before rests : List Rest)
    (row : List Watch) (k : ℕ) (w : Watch) →
    k < length row → ((d : Watch) → w ≡ slice_index_or row k d) →
    is_disjoint (sets w.clause) at ≡ false → IsWalked sets at s before rests row k →
    IsWalked sets at s before rests row (k + 1)
walked_on sets at s before rests row k w there is meets walked = record {
  steps = walked.steps;
  linked = walked.linked;
  right = walked.right;
  met = All-more
      (λ v. names (rest_of rests v.clause) s.variable ≡ true →
      is_disjoint (sets v.clause) at ≡ false) row k w there walked.met
      (subst (λ (v : Watch). names (rest_of rests v.clause) s.variable ≡ true →
      is_disjoint (sets v.clause) at ≡ false) (is w) (λ n. meets));
}

-- a watch of another clause stays in the row
others_stay : (row xs : List Watch) (w : Watch) (i : ℕ) → IsPermutation row (w ∷ xs) →
    i ≢ w.clause → has_watch i row ≡ true → has_watch i xs ≡ true
others_stay row xs w i moved n h = or_other (w.clause == i) (has_watch i xs) (grind arith)
    (sym (list_any-IsPermutation (λ (v : Watch). v.clause == i) row (w ∷ xs) moved) ∙ h)

-- the watch goes
pub walked_out : (sets : ℕ → Ranges) (at : Ranges) (s : Site) (before rests : List Rest)
    (row xs : List Watch) (k : ℕ) (w : Watch) →
    w.clause < length rests → take k xs ≡ take k row → IsPermutation row (w ∷ xs) →
    IsWalked sets at s before rests row k →
    IsWalked sets at s before
    (slice_set rests w.clause (forgotten s.variable (rest_of rests w.clause))) xs k
walked_out sets at s before rests row xs k w below front moved walked =
    let x = s.variable in
    let r = forgotten x (rest_of rests w.clause) in
    let news = slice_set rests w.clause r in
    let all : (j : ℕ) → IsStep x (rest_of rests j) (rest_of news j) =
    set_step x rests w.clause r below (step_forgotten x (rest_of rests w.clause)) in record {
      steps = λ i. step_then x _ _ _ (walked.steps i) (all i);
      linked = λ i n. elim (cases_eq i w.clause) [
        | inl same ↦ let gone : names (rest_of news i) x ≡ false =
            subst (λ (j : ℕ). names (rest_of news j) x ≡ false) (sym same)
            (ap (λ (q : Rest). names q x) (rest_set_same rests w.clause r below)
            ∙ forgotten_names x (rest_of rests w.clause)) in absurd (cc)
        | inr other ↦ others_stay row xs w i moved other (walked.linked i ((all i).named x n))
      ];
      right = let P : Watch → Type 0 = λ v. IsTrueOf s.least (sets v.clause) v.witness in
          All-tail P w xs (All-permutation P row (w ∷ xs) moved walked.right);
      met = All-same
          (λ v. names (rest_of news v.clause) x ≡ true →
          is_disjoint (sets v.clause) at ≡ false) (take k xs) (take k row) front
          (met_step sets at x rests news (take k row) all walked.met);
    }

-- the others are of clauses that are there
pub below_out : (n m : ℕ) (row xs : List Watch) (w : Watch) → IsPermutation row (w ∷ xs) → n ≡ m →
    All (λ v. v.clause < n) row → All (λ v. v.clause < m) xs
below_out n m row xs w moved e h =
    subst (λ (k : ℕ). All (λ (v : Watch). v.clause < k) xs) e
    (All-tail (λ v. v.clause < n) w xs
    (All-permutation (λ v. v.clause < n) row (w ∷ xs) moved h))

pub below_at : (n k : ℕ) (row : List Watch) (w : Watch) → All (λ v. v.clause < n) row →
    k < length row → ((d : Watch) → w ≡ slice_index_or row k d) → w.clause < n
below_at n k row w h there is = subst (λ (v : Watch). v.clause < n) (sym (is w)) (h k w there)
