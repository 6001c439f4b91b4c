-- The clauses of a Bound line are true at each better solution.
use Rattle.std.proofs.Common.{◌≡◌, ℕ, suc, ◌<◌, ◌≤◌, ◌⊎◌, inl, inr, Bool, true, false, ◌&&◌, ◌||◌, cond, List, [], ◌∷◌, ℤ, pos, negsuc, ◌+ℤ◌, ◌-ℤ◌, ◌≤ℤ◌, length, refl, sym, ap, ◌∙◌, arith, subst, nat_lt, ◌==◌, int_lt, All}
use Rattle.std.specs.Ordering.{int_eq}
use Rattle.std.specs.List.{AllByRecursion}
use Rattle.std.proofs.lemmas.Int.{ints}
use Rattle.std.proofs.lemmas.Bool.Decides.{Decides-int_eq}
use Rattle.std.proofs.lemmas.Bool.{ltb-true, ltb-false, eqb-true, eqb-false}
use Rattle.signed_clause.specs.Ranges.{Ranges, has, IsValid, Ascends, is_nil}
use Rattle.signed_clause.specs.SetAlgebra.{join, piece}
use Rattle.signed_clause.specs.Clauses.{Boxes, Literals, box_of, clause_true, IsClause, IsClauseFrom}
use Rattle.signed_clause.proofs.ClauseLaws.{join-some}
use Rattle.signed_clause.proofs.RangeLaws.{has-piece, Ascends-piece, Ascends-ends}
use Rattle.signed_clause.proofs.RangeSteps.{has-meet_valid, IsValid-meet, has-join_valid, IsValid-join}
use Rattle.ground_form.specs.declared.ground.GroundGoal.{GroundGoal}
use Rattle.ground_form.specs.Meaning.{value_of}
use Rattle.ground_form.specs.Solutions.{IsPoint, better}
pub use Rattle.log_form.proofs.WithForm.{with_form}
use Rattle.log_form.specs.Acceptance.{better_than, as_good_as, with_literal, better_values, as_good_values, bounds_from}

pub has-within : (low top : ℤ) (rs : Ranges) (v : ℤ) → Ascends low top rs → has rs v ≡ true → (low ≤ℤ v) × (v ≤ℤ top)
has-within low top [] v s h = absurd (grind arith)
has-within low top (r ∷ rs) v s h =
    let ends = Ascends-ends (r.1 +ℤ pos 2) top rs s.2 in
    let more : has rs v ≡ true → ((r.1 +ℤ pos 2) ≤ℤ v) × (v ≤ℤ top) = has-within (r.1 +ℤ pos 2) top rs v s.2 in
    (grind (arith, ints), grind (arith, ints))

-- ---- the sets

abbrev pub Fits : ℤ → Type 0
Fits v = (negsuc 9223372036854775807 ≤ℤ v) × (v ≤ℤ pos 9223372036854775807)

piece_valid : (low high : ℤ) → negsuc 9223372036854775807 ≤ℤ low → high ≤ℤ pos 9223372036854775807 → IsValid (piece low high [])
piece_valid low high h k = Ascends-piece (negsuc 9223372036854775807) low high (pos 9223372036854775807) [] h (omega (arith, ints)) (λ _. omega (arith, ints))

pub better_than_valid : (up : Bool) (v : ℤ) → Fits v → IsValid (better_than up v)
better_than_valid true v h = piece_valid (v +ℤ pos 1) (pos 9223372036854775807) (omega (arith, ints)) (omega (arith, ints))
better_than_valid false v h = piece_valid (negsuc 9223372036854775807) (v -ℤ pos 1) (omega (arith, ints)) (omega (arith, ints))

pub as_good_as_valid : (up : Bool) (v : ℤ) → Fits v → IsValid (as_good_as up v)
as_good_as_valid true v h = piece_valid v (pos 9223372036854775807) h.0 (omega (arith, ints))
as_good_as_valid false v h = piece_valid (negsuc 9223372036854775807) v (omega (arith, ints)) h.1

-- v before w in the direction
abbrev pub beats_value : Bool → ℤ → ℤ → Bool
beats_value up v w = cond up (int_lt w v) (int_lt v w)

better_than_has : (up : Bool) (v w : ℤ) → Fits v → beats_value up v w ≡ true → has (better_than up w) v ≡ true
better_than_has true v w h k = has-piece (w +ℤ pos 1) (pos 9223372036854775807) v [] ∙ grind (arith, ints)
better_than_has false v w h k = has-piece (negsuc 9223372036854775807) (w -ℤ pos 1) v [] ∙ grind (arith, ints)

as_good_better : (up : Bool) (v w : ℤ) → Fits v → beats_value up v w ≡ true → has (as_good_as up w) v ≡ true
as_good_better true v w h k = has-piece w (pos 9223372036854775807) v [] ∙ grind (arith, ints)
as_good_better false v w h k = has-piece (negsuc 9223372036854775807) w v [] ∙ grind (arith, ints)

as_good_equal : (up : Bool) (v w : ℤ) → Fits v → v ≡ w → has (as_good_as up w) v ≡ true
as_good_equal true v w h e = has-piece w (pos 9223372036854775807) v [] ∙ grind (arith, ints)
as_good_equal false v w h e = has-piece (negsuc 9223372036854775807) w v [] ∙ grind (arith, ints)

-- ---- a clause with one more literal

has_nil : (s : Ranges) (v : ℤ) → is_nil s ≡ true → has s v ≡ false
has_nil [] v e = refl
has_nil (r ∷ s) v e = absurd cc

reorder : (p q r z : Bool) → z ≡ (q || r) → (p || z) ≡ (q || (p || r))
reorder true true r z e = refl
reorder true false r z e = refl
reorder false true r z e = e
reorder false false r z e = e

either_true : (p : Bool) → (p || true) ≡ true
either_true true = refl
either_true false = refl

both_true : (p q : Bool) → p ≡ true → q ≡ true → (p && q) ≡ true
both_true p q h k = rw (h, k) refl

regroup : (p q r : Bool) → ((p || q) || r) ≡ (q || (p || r))
regroup true true r = refl
regroup true false r = refl
regroup false true r = refl
regroup false false r = refl

joined_true : (x : ℕ) (s : Ranges) (l : ℕ × Ranges) (c : Literals) (a : List ℤ) → l.0 ≡ x → IsValid l.1 → IsValid s →
    (has (join l.1 s) (value_of a x) || clause_true c a) ≡ (has s (value_of a x) || (has l.1 (value_of a l.0) || clause_true c a))
joined_true x s l c a e h v =
    ap (λ z. z || clause_true c a) (has-join_valid l.1 s h v (value_of a x)) ∙ regroup (has l.1 (value_of a x)) (has s (value_of a x)) (clause_true c a)
    ∙ ap (λ y. has s (value_of a x) || (has l.1 (value_of a y) || clause_true c a)) (sym e)

pub with_true : (n : ℕ) (x : ℕ) (s : Ranges) (c : Literals) (a : List ℤ) → IsValid s → IsClauseFrom n c → clause_true (with_literal x s c) a ≡ (has s (value_of a x) || clause_true c a)
with_true n x s [] a v f =
    elim (is_nil s) as (λ b. is_nil s ≡ b → clause_true (cond b [] ((x, s) ∷ [])) a ≡ (has s (value_of a x) || false)) [
      | true ↦ λ e. let none = has_nil s (value_of a x) e in rw none refl
      | false ↦ λ e. refl
    ] refl
with_true n x s (l ∷ c) a v f =
    elim (is_nil s) as (λ b. is_nil s ≡ b → clause_true (cond b (l ∷ c) (cond (nat_lt x l.0) ((x, s) ∷ l ∷ c) (cond (l.0 == x) ((x, join l.1 s) ∷ c) (l ∷ with_literal x s c)))) a
    ≡ (has s (value_of a x) || (has l.1 (value_of a l.0) || clause_true c a))) [
      | true ↦ λ e. let none = has_nil s (value_of a x) e in rw none refl
      | false ↦ λ e. (elim (nat_lt x l.0) as (λ b. clause_true (cond b ((x, s) ∷ l ∷ c) (cond (l.0 == x) ((x, join l.1 s) ∷ c) (l ∷ with_literal x s c))) a
          ≡ (has s (value_of a x) || (has l.1 (value_of a l.0) || clause_true c a))) [
            | true ↦ refl
            | false ↦ (elim (l.0 == x) as (λ b. l.0 == x ≡ b → clause_true (cond b ((x, join l.1 s) ∷ c) (l ∷ with_literal x s c)) a
                ≡ (has s (value_of a x) || (has l.1 (value_of a l.0) || clause_true c a))) [
                  | true ↦ λ q. joined_true x s l c a (eqb-true l.0 x q) f.2 v
                  | false ↦ λ q. let more = with_true (suc l.0) x s c a v f.3 in reorder (has l.1 (value_of a l.0)) (has s (value_of a x)) (clause_true c a) _ more
                ]) refl
          ])
    ] refl

-- ---- the clauses at a better solution

pub fits_at : (ds : Boxes) (a : List ℤ) (x : ℕ) → All (λ s. IsValid s) ds → IsPoint ds a → x < length ds → Fits (value_of a x)
fits_at ds a x s p h = has-within _ _ (box_of ds x) (value_of a x) (s x [] h) (p.within x h)

-- at the first goal where a is not b, a is better; so at that goal a's value is among the better
-- ones
better_member : (ds : Boxes) (a b : List ℤ) (goal : GroundGoal) → All (λ s. IsValid s) ds → IsPoint ds a → IsPoint ds b → goal.var < length ds →
    beats_value goal.max (value_of a goal.var) (value_of b goal.var) ≡ true → has (better_values ds b goal) (value_of a goal.var) ≡ true
better_member ds a b goal s p q h k =
    let law = has-meet_valid (box_of ds goal.var) (better_than goal.max (value_of b goal.var)) (s goal.var [] h) (better_than_valid goal.max _ (fits_at ds b goal.var s q h)) (value_of a goal.var) in
    let one = p.within goal.var h in
    let other = better_than_has goal.max (value_of a goal.var) (value_of b goal.var) (fits_at ds a goal.var s p h) k in
    law ∙ both_true _ _ one other

as_good_member : (ds : Boxes) (a b : List ℤ) (goal : GroundGoal) → All (λ s. IsValid s) ds → IsPoint ds a → IsPoint ds b → goal.var < length ds →
    has (as_good_as goal.max (value_of b goal.var)) (value_of a goal.var) ≡ true → has (as_good_values ds b goal) (value_of a goal.var) ≡ true
as_good_member ds a b goal s p q h k =
    let law = has-meet_valid (box_of ds goal.var) (as_good_as goal.max (value_of b goal.var)) (s goal.var [] h) (as_good_as_valid goal.max _ (fits_at ds b goal.var s q h)) (value_of a goal.var) in
    law ∙ both_true _ _ (p.within goal.var h) k

better_values_valid : (ds : Boxes) (b : List ℤ) (goal : GroundGoal) → All (λ s. IsValid s) ds → IsPoint ds b → goal.var < length ds → IsValid (better_values ds b goal)
better_values_valid ds b goal s q h = IsValid-meet (box_of ds goal.var) _ (s goal.var [] h) (better_than_valid goal.max _ (fits_at ds b goal.var s q h))

as_good_values_valid : (ds : Boxes) (b : List ℤ) (goal : GroundGoal) → All (λ s. IsValid s) ds → IsPoint ds b → goal.var < length ds → IsValid (as_good_values ds b goal)
as_good_values_valid ds b goal s q h = IsValid-meet (box_of ds goal.var) _ (s goal.var [] h) (as_good_as_valid goal.max _ (fits_at ds b goal.var s q h))

-- what the clauses rest on: an earlier goal is better, or these goals are
abbrev Holds : List GroundGoal → Literals → List ℤ → List ℤ → Type 0
Holds goals earlier a b = (clause_true earlier a ≡ true) ⊎ (better goals a b ≡ true)

-- at one goal: it is better, or it is the same and a later one is better
pub at_goal : (goal : GroundGoal) (goals : List GroundGoal) (a b : List ℤ) → better (goal ∷ goals) a b ≡ true →
    (beats_value goal.max (value_of a goal.var) (value_of b goal.var) ≡ true) ⊎ ((value_of a goal.var ≡ value_of b goal.var) × (better goals a b ≡ true))
at_goal goal goals a b h =
    (elim (int_eq (value_of a goal.var) (value_of b goal.var)) as (λ e. int_eq (value_of a goal.var) (value_of b goal.var) ≡ e →
    cond e (better goals a b) (beats_value goal.max (value_of a goal.var) (value_of b goal.var)) ≡ true →
    (beats_value goal.max (value_of a goal.var) (value_of b goal.var) ≡ true) ⊎ ((value_of a goal.var ≡ value_of b goal.var) × (better goals a b ≡ true))) [
      | true ↦ λ e k. inr ((Decides-int_eq (value_of a goal.var) (value_of b goal.var)).0 e, k)
      | false ↦ λ e k. inl k
    ]) refl h

with_member : (x : ℕ) (s : Ranges) (c : Literals) (a : List ℤ) → IsValid s → IsClause c → has s (value_of a x) ≡ true → clause_true (with_literal x s c) a ≡ true
with_member x s c a v f h = with_true 0 x s c a v f ∙ rw h refl

with_earlier : (x : ℕ) (s : Ranges) (c : Literals) (a : List ℤ) → IsValid s → IsClause c → clause_true c a ≡ true → clause_true (with_literal x s c) a ≡ true
with_earlier x s c a v f h = with_true 0 x s c a v f ∙ rw h (either_true (has s (value_of a x)))

pub bounds_true : (ds : Boxes) (a b : List ℤ) (goals : List GroundGoal) (earlier : Literals) → All (λ s. IsValid s) ds → IsPoint ds a → IsPoint ds b → All (λ goal. goal.var < length ds) goals →
    IsClause earlier → (clause_true earlier a ≡ true) ⊎ (better goals a b ≡ true) → AllByRecursion (λ c. clause_true c a ≡ true) (bounds_from ds b earlier goals)
bounds_true ds a b [] earlier s p q w f h = tt
bounds_true ds a b (goal ∷ []) earlier s p q w f h =
    let x = goal.var in
    let lt : x < length ds = w 0 goal (omega arith) in
    let valid = better_values_valid ds b goal s q lt in (
      elim h [
        | inl e ↦ with_earlier x (better_values ds b goal) earlier a valid f e
        | inr k ↦ elim (at_goal goal [] a b k) [
          | inl here ↦ with_member x (better_values ds b goal) earlier a valid f (better_member ds a b goal s p q lt here)
          | inr later ↦ let wrong = later.1 in absurd cc
        ]
      ],
      tt,
    )
bounds_true ds a b (goal ∷ next ∷ goals) earlier s p q w f h =
    let x = goal.var in
    let lt : x < length ds = w 0 goal (omega arith) in
    let valid = better_values_valid ds b goal s q lt in
    let good = as_good_values_valid ds b goal s q lt in
    let fits = fits_at ds a x s p lt in
    let earlier' = with_literal x (better_values ds b goal) earlier in
    let rest : (clause_true earlier' a ≡ true) ⊎ (better (next ∷ goals) a b ≡ true) → AllByRecursion (λ c. clause_true c a ≡ true) (bounds_from ds b earlier' (next ∷ goals)) =
    bounds_true ds a b (next ∷ goals) earlier' s p q (λ k d less. w (suc k) d (omega arith)) (with_form 0 x (better_values ds b goal) earlier (omega arith) valid f) in
    elim h [
      | inl e ↦ (with_earlier x (as_good_values ds b goal) earlier a good f e, rest (inl (with_earlier x (better_values ds b goal) earlier a valid f e)))
      | inr k ↦ elim (at_goal goal (next ∷ goals) a b k) [
        | inl here ↦ (
          with_member x (as_good_values ds b goal) earlier a good f (as_good_member ds a b goal s p q lt (as_good_better goal.max (value_of a x) (value_of b x) fits here)),
          rest (inl (with_member x (better_values ds b goal) earlier a valid f (better_member ds a b goal s p q lt here))),
        )
        | inr later ↦ (
          with_member x (as_good_values ds b goal) earlier a good f (as_good_member ds a b goal s p q lt (as_good_equal goal.max (value_of a x) (value_of b x) fits later.0)),
          rest (inr later.1),
        )
      ]
    ]

pub bounds_form : (ds : Boxes) (b : List ℤ) (goals : List GroundGoal) (earlier : Literals) → All (λ s. IsValid s) ds → IsPoint ds b → All (λ goal. goal.var < length ds) goals →
    IsClause earlier → AllByRecursion (λ c. IsClause c) (bounds_from ds b earlier goals)
bounds_form ds b [] earlier s q w f = tt
bounds_form ds b (goal ∷ []) earlier s q w f =
    let lt : goal.var < length ds = w 0 goal (omega arith) in
    (with_form 0 goal.var _ earlier (omega arith) (better_values_valid ds b goal s q lt) f, tt)
bounds_form ds b (goal ∷ next ∷ goals) earlier s q w f =
    let lt : goal.var < length ds = w 0 goal (omega arith) in (
      with_form 0 goal.var _ earlier (omega arith) (as_good_values_valid ds b goal s q lt) f,
      bounds_form ds b (next ∷ goals) (with_literal goal.var (better_values ds b goal) earlier) s q (λ k d less. w (suc k) d (omega arith))
          (with_form 0 goal.var _ earlier (omega arith) (better_values_valid ds b goal s q lt) f),
    )
