-- Where the clauses of a Bound line are true, the values are better than those found last.
use Rattle.std.proofs.Common.{◌≡◌, ℕ, suc, ◌<◌, ◌⊎◌, inl, inr, Bool, true, false, ◌||◌, List, [], ◌∷◌, ℤ, pos, negsuc, ◌+ℤ◌, ◌-ℤ◌, length, refl, sym, ◌∙◌, arith, All, Option, Some, None}
use Rattle.std.specs.Ordering.{int_eq}
use Rattle.std.specs.List.{AllByRecursion}
use Rattle.std.proofs.lemmas.Int.{ints}
use Rattle.std.proofs.lemmas.Bool.{and_parts}
use Rattle.std.proofs.lemmas.Bool.Decides.{Decides-int_eq}
use Rattle.signed_clause.specs.Ranges.{Ranges, has, IsValid}
use Rattle.signed_clause.specs.SetAlgebra.{meet}
use Rattle.signed_clause.specs.Clauses.{Boxes, Literals, box_of, clause_true, IsClause}
use Rattle.signed_clause.proofs.RangeLaws.{has-piece}
use Rattle.signed_clause.proofs.RangeSteps.{has-meet_valid}
use Rattle.ground_form.specs.declared.ground.Ground.{Ground}
use Rattle.ground_form.specs.declared.ground.GroundGoal.{GroundGoal}
use Rattle.ground_form.specs.Meaning.{value_of}
use Rattle.ground_form.specs.Solutions.{IsPoint, better}
use Rattle.ground_form.specs.WellMade.{IsWellMade}
use Rattle.log_form.specs.Acceptance.{beats, better_than, as_good_as, with_literal, better_values, as_good_values, bounds, bounds_from, bounds_of}
use Rattle.log_check.specs.Soundness.{FoundSolves}
use Rattle.log_check.proofs.Bounds.{fits_at, beats_value, with_true, with_form, better_than_valid, as_good_as_valid}
use Rattle.log_check.proofs.Steps.{here_better, later_better}
use Rattle.run_law.proofs.Within.{IsBoundSet, better_set, as_good_set}

-- ---- at one goal

better_from : (up : Bool) (v w : ℤ) → has (better_than up w) v ≡ true → beats_value up v w ≡ true
better_from true v w h =
    let e = has-piece (w +ℤ pos 1) (pos 9223372036854775807) v [] in grind (arith, ints)
better_from false v w h =
    let e = has-piece (negsuc 9223372036854775807) (w -ℤ pos 1) v [] in grind (arith, ints)

good_apart : (up : Bool) (v w : ℤ) → has (as_good_as up w) v ≡ true → int_eq v w ≡ false →
    beats_value up v w ≡ true
good_apart true v w h k =
    let e = has-piece w (pos 9223372036854775807) v [] in grind (arith, ints)
good_apart false v w h k =
    let e = has-piece (negsuc 9223372036854775807) w v [] in grind (arith, ints)

-- what is as good is better or the same
good_from : (up : Bool) (v w : ℤ) → has (as_good_as up w) v ≡ true →
    (beats_value up v w ≡ true) ⊎ (v ≡ w)
good_from up v w h =
    (elim (int_eq v w) as (λ b. int_eq v w ≡ b → (beats_value up v w ≡ true) ⊎ (v ≡ w)) [
      | true ↦ λ e. inr ((Decides-int_eq v w).0 e)
      | false ↦ λ e. inl (good_apart up v w h e)
    ]) refl

-- ---- goal by goal

-- the values at which the bounds are, and those found last
pub record AreFound (domains : Boxes) (b : List ℤ) : Type 0 where
  pub sets : All (λ s. IsValid s) domains
  pub point : IsPoint domains b

second_of : (box s : Ranges) (v : ℤ) → IsValid box → IsValid s → has (meet box s) v ≡ true →
    has s v ≡ true
second_of box s v f g h =
    (and_parts (has box v) (has s v) (sym (has-meet_valid box s f g v) ∙ h)).1

pub beats_here : (domains : Boxes) (b : List ℤ) (goal : GroundGoal) (v : ℤ) → AreFound domains b →
    goal.var < length domains → has (better_values domains b goal) v ≡ true →
    beats_value goal.max v (value_of b goal.var) ≡ true
beats_here domains b goal v f lt h =
    let w = value_of b goal.var in
    let fits = fits_at domains b goal.var f.sets f.point lt in
    better_from goal.max v w (second_of (box_of domains goal.var) (better_than goal.max w) v
    (f.sets goal.var [] lt) (better_than_valid goal.max w fits) h)

good_here : (domains : Boxes) (b : List ℤ) (goal : GroundGoal) (v : ℤ) → AreFound domains b →
    goal.var < length domains → has (as_good_values domains b goal) v ≡ true →
    (beats_value goal.max v (value_of b goal.var) ≡ true) ⊎ (v ≡ value_of b goal.var)
good_here domains b goal v f lt h =
    let w = value_of b goal.var in
    let fits = fits_at domains b goal.var f.sets f.point lt in
    good_from goal.max v w (second_of (box_of domains goal.var) (as_good_as goal.max w) v
    (f.sets goal.var [] lt) (as_good_as_valid goal.max w fits) h)

either_of : (a b : Bool) → (a || b) ≡ true → (a ≡ true) ⊎ (b ≡ true)
either_of true b h = inl refl
either_of false b h = inr h

-- a clause with a literal more is true by the literal, or was true before
by_literal : (domains : Boxes) (x : ℕ) (s : Ranges) (c : Literals) (a : List ℤ) →
    IsBoundSet domains x s → IsClause c → clause_true (with_literal x s c) a ≡ true →
    (has s (value_of a x) ≡ true) ⊎ (clause_true c a ≡ true)
by_literal domains x s c a b f h =
    either_of (has s (value_of a x)) (clause_true c a) (sym (with_true 0 x s c a b.valid f) ∙ h)

-- where the bounds are true, an earlier goal is better, or these are
bounds_better : (domains : Boxes) (a b : List ℤ) (goal : GroundGoal) (goals : List GroundGoal)
    (earlier : Literals) → AreFound domains b →
    All (λ goal. goal.var < length domains) (goal ∷ goals) → IsClause earlier →
    AllByRecursion (λ c. clause_true c a ≡ true) (bounds_from domains b earlier (goal ∷ goals)) →
    (clause_true earlier a ≡ true) ⊎ (better (goal ∷ goals) a b ≡ true)
bounds_better domains a b goal [] earlier f w form h =
    let lt : goal.var < length domains = w 0 goal (omega arith) in
    let set = better_set domains b goal f.sets f.point lt in
    elim (by_literal domains goal.var _ earlier a set form h.0) [
      | inl k ↦ inr (here_better goal [] a b
          (beats_here domains b goal (value_of a goal.var) f lt k))
      | inr k ↦ inl k
    ]
bounds_better domains a b goal (next ∷ goals) earlier f w form h =
    let lt : goal.var < length domains = w 0 goal (omega arith) in
    let better_is = better_set domains b goal f.sets f.point lt in
    let good_is = as_good_set domains b goal f.sets f.point lt in
    let v = value_of a goal.var in
    let plus = with_literal goal.var (better_values domains b goal) earlier in
    let plus_form = with_form 0 goal.var _ earlier (omega arith) better_is.valid form in
    let rest : (clause_true plus a ≡ true) ⊎ (better (next ∷ goals) a b ≡ true) =
    bounds_better domains a b next goals plus f (λ k d less. w (suc k) d (omega arith)) plus_form
    h.1 in
    elim (by_literal domains goal.var _ earlier a good_is form h.0) [
      | inr k ↦ inl k
      | inl good ↦ elim rest [
        | inl p ↦ elim (by_literal domains goal.var _ earlier a better_is form p) [
          | inl k ↦ inr (here_better goal (next ∷ goals) a b
              (beats_here domains b goal v f lt k))
          | inr k ↦ inl k
        ]
        | inr later ↦ elim (good_here domains b goal v f lt good) [
          | inl k ↦ inr (here_better goal (next ∷ goals) a b k)
          | inr k ↦ inr (later_better goal (next ∷ goals) a b k later)
        ]
      ]
    ]

bounds_of_better : (domains : Boxes) (a b : List ℤ) (goals : List GroundGoal) →
    AreFound domains b → All (λ goal. goal.var < length domains) goals →
    AllByRecursion (λ c. clause_true c a ≡ true) (bounds_of goals domains b) →
    better goals a b ≡ true
bounds_of_better domains a b [] f w h = let wrong = h.0 in absurd cc
bounds_of_better domains a b (goal ∷ goals) f w h =
    elim (bounds_better domains a b goal goals [] f w tt h) [
      | inl k ↦ absurd cc
      | inr k ↦ k
    ]

-- those of a Bound line
pub bound_beats : (g : Ground) (found : Option (List ℤ)) (a : List ℤ) → IsWellMade g →
    FoundSolves g found → AllByRecursion (λ c. clause_true c a ≡ true) (bounds g found) →
    beats g.goals found a ≡ true
bound_beats g None a w s h = refl
bound_beats g (Some b) a w s h =
    bounds_of_better g.domains a b g.goals (record { sets = w.domains; point = s.point }) w.goals h
