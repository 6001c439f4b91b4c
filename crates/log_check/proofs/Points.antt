-- Constraints at the values of a point.
use Rattle.std.proofs.Common.{◌≡◌, ℕ, zero, suc, ◌<◌, ◌≤◌, inl, inr, true, false, ◌&&◌, List, [], ◌∷◌, ℤ, length, refl, sym, ap, ◌∙◌, arith, subst, All}
use Rattle.std.proofs.lemmas.Int.{ints}
use Rattle.std.proofs.lemmas.Bool.{cases_lt}
use Rattle.signed_clause.specs.Ranges.{Ranges, has, IsValid}
use Rattle.signed_clause.specs.Clauses.{Boxes, box_of}
use Rattle.ground_form.specs.declared.con.Con.{Con}
use Rattle.ground_form.specs.declared.ground.GroundGoal.{GroundGoal}
use Rattle.std.specs.Ordering.{int_eq}
use Rattle.ground_form.specs.Meaning.{value_of, vars_of}
use Rattle.ground_form.specs.Solutions.{IsPoint}
use Rattle.ground_form.specs.Bounds.{IsBounded, singles}
use Rattle.ground_form.specs.WellMade.{IsWellMadeCon}
use Rattle.log_form.specs.Acceptance.{point_of, states}
use Rattle.box_rules.proofs.QuietLaws.{bounded_narrower}
use Rattle.log_check.proofs.Justified.{IsLeft, left_at_point, left_same, none_past, domain_valid}
use Rattle.log_check.proofs.Bounds.{has-within}
use Rattle.log_check.proofs.Steps.{point_from}

pub point_size : (ds : Boxes) (a : List ℤ) → point_of ds a ≡ true → length ds ≡ length a
point_size ds a h = sym (point_from ds a h).size

pub named_at : (con : Con) (ds : Boxes) (a : List ℤ) → point_of ds a ≡ true → IsWellMadeCon ds con → All (λ x. x < length a) (vars_of con)
named_at con ds a h w = subst (λ (n : ℕ). All (λ x. x < n) (vars_of con)) (point_size ds a h) w.named

singles_of : (a : List ℤ) (x : ℕ) → x < length a → box_of (singles a) x ≡ (value_of a x, value_of a x) ∷ []
singles_of [] x h = absurd (omega arith)
singles_of (v ∷ a) zero h = refl
singles_of (v ∷ a) (suc x) h = singles_of a x (omega arith)

singles_past : (a : List ℤ) (x : ℕ) → length a ≤ x → box_of (singles a) x ≡ []
singles_past [] x h = refl
singles_past (v ∷ a) zero h = absurd (omega arith)
singles_past (v ∷ a) (suc x) h = singles_past a x (omega arith)

single_sub : (d : Ranges) (v w : ℤ) → has d v ≡ true → has ((v, v) ∷ []) w ≡ true → has d w ≡ true
single_sub d v w h k = let same : w ≡ v = grind (arith, ints) in subst (λ (z : ℤ). has d z ≡ true) (sym same) h

single_valid : (d : Ranges) (v : ℤ) → IsValid d → has d v ≡ true → IsValid ((v, v) ∷ [])
single_valid d v s h = let fits = has-within _ _ d v s h in (fits.0, omega (arith, ints), omega (arith, ints))

left_of_values : (ds : Boxes) (a : List ℤ) → All (λ s. IsValid s) ds → IsPoint ds a → (x : ℕ) → IsLeft (box_of (singles a) x) (box_of ds x)
left_of_values ds a s p x =
    let size = p.size in
    elim (cases_lt x (length ds)) [
      | inl lt ↦
          let valid = domain_valid ds x s lt in
          let member = p.within x lt in
          subst (λ (z : Ranges). IsLeft z (box_of ds x)) (sym (singles_of a x (omega arith)))
          (left_at_point ((value_of a x, value_of a x) ∷ []) (box_of ds x) (value_of a x) (single_valid (box_of ds x) (value_of a x) valid member) valid (λ w. single_sub (box_of ds x) (value_of a x) w member) (grind (arith, ints)))
      | inr ge ↦ left_same (box_of (singles a) x) (box_of ds x) (singles_past a x (omega arith) ∙ sym (none_past ds x ge))
    ]

pub bounded_at : (con : Con) (ds : Boxes) (a : List ℤ) → All (λ s. IsValid s) ds → point_of ds a ≡ true → IsWellMadeCon ds con → IsBounded con (singles a)
bounded_at con ds a s h w =
    let p = point_from ds a h in
    bounded_narrower con (singles a) ds (record {
      low = λ x. (left_of_values ds a s p x).low;
      high = λ x. (left_of_values ds a s p x).high;
      reach = λ x. (left_of_values ds a s p x).reach;
    }) w.bounded

-- values that are not as many as the goals
pub states_differ : (goals : List GroundGoal) (a vs : List ℤ) → (length goals ≡ length vs → ⊥) → false ≡ states goals a vs
states_differ [] a [] h = absurd (h refl)
states_differ [] a (v ∷ vs) h = refl
states_differ (goal ∷ goals) a [] h = refl
states_differ (goal ∷ goals) a (v ∷ vs) h =
    let more = states_differ goals a vs (λ e. h (ap suc e)) in
    elim (int_eq v (value_of a goal.var)) as (λ b. false ≡ (b && states goals a vs)) [ true ↦ more | false ↦ refl ]

pub goals_at : (ds : Boxes) (goals all : List GroundGoal) (a : List ℤ) → goals ≡ all → All (λ goal. goal.var < length ds) all → point_of ds a ≡ true → All (λ goal. goal.var < length a) goals
goals_at ds goals all a e w h =
    subst (λ (n : ℕ). All (λ goal. goal.var < n) goals) (point_size ds a h) (subst (λ (z : List GroundGoal). All (λ goal. goal.var < length ds) z) (sym e) w)
