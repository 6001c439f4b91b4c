-- Boxes at a fixpoint: from the first variable to the last each has a single value, and these
-- values are a solution.
use Rattle.std.proofs.Common.{◌≡◌, ℕ, zero, suc, ◌<◌, ◌≤◌, true, false, inl, inr, ℤ, Some}
use Rattle.std.proofs.Common.{length, get_or, slice_get, All, sym, subst, ◌∙◌, arith}
use Rattle.std.proofs.lemmas.Bool.{cases_lt}
use Rattle.std.proofs.lemmas.Option.{slice_get-get_or, slice_get_within, get_or_from_slice_get}
use Rattle.signed_clause.specs.Ranges.{has, is_nil, IsValid}
use Rattle.signed_clause.specs.SetAlgebra.{is_within}
use Rattle.signed_clause.specs.Clauses.{Boxes, box_of}
use Rattle.ground_form.specs.declared.con.Con.{Con}
use Rattle.ground_form.specs.declared.ground.Ground.{Ground}
use Rattle.ground_form.specs.Meaning.{value_of, con_true, vars_of}
use Rattle.ground_form.specs.Bounds.{low_of, singles}
use Rattle.ground_form.specs.Solutions.{IsPoint, IsSolution}
use Rattle.ground_form.specs.WellMade.{IsWellMadeCon, IsWellMade}
use Rattle.box_view.proofs.EndLaws.{AreSingle, are_sets, has_low}
use Rattle.box_rules.specs.Refuted.{refuted}
use Rattle.box_rules.specs.Quiet.{quiet}
use Rattle.box_rules.proofs.RefutedLaws.{refuted-single}
use Rattle.rule_law.specs.Singles.{IsSingle, least_values}
use Rattle.rule_law.proofs.SingleBoxes.{single_list, single_boxes, value_of-least_values}
use Rattle.rule_law.proofs.SingleBoxes.{length-least_values}
use Rattle.rule_law.proofs.ProbedEnds.{quiet_not_refuted}
use Rattle.rule_law.proofs.Narrowed.{AreWithin, in_domain, bounded_within}
use Rattle.rule_law.proofs.Defined.{AreSingleBefore, single_defined, true_from}

-- what is asked of the problem and of the boxes
pub record IsFixpoint (g : Ground) (boxes : Boxes) : Type 0 where
  pub well_made : IsWellMade g
  pub size : length boxes ≡ length g.domains
  pub within : (x : ℕ) → x < length boxes →
      is_within (box_of boxes x) (box_of g.domains x) ≡ true
  pub some : (x : ℕ) → x < length boxes → is_nil (box_of boxes x) ≡ false
  pub sets : All (λ s. IsValid s) boxes
  pub all_quiet : (k : ℕ) (con : Con) → slice_get g.cons k ≡ Some con → quiet con boxes ≡ true
  pub decided : (x : ℕ) → x < g.search → IsSingle (box_of boxes x)

within_domains : (g : Ground) (boxes : Boxes) → IsFixpoint g boxes → AreWithin g.domains boxes
within_domains g boxes f = record {
  size = f.size;
  within = f.within;
  some = f.some;
  sets = are_sets boxes f.sets;
  domain_sets = are_sets g.domains f.well_made.domains;
}

-- ---- from the first variable to the last

well_made_at : (g : Ground) (k : ℕ) (con : Con) → IsWellMade g → slice_get g.cons k ≡ Some con →
    IsWellMadeCon g.domains con
well_made_at g k con w e =
    subst (λ (c : Con). IsWellMadeCon g.domains c) (get_or_from_slice_get g.cons k con con e)
    (w.constraints k con (slice_get_within g.cons k con e))

next_single : (g : Ground) (boxes : Boxes) (x : ℕ) → IsFixpoint g boxes → g.search ≤ x →
    x < length boxes → AreSingleBefore boxes x → IsSingle (box_of boxes x)
next_single g boxes x f h lt before =
    let size = f.size in
    let found = f.well_made.defined x h (omega arith) in
    let con = found.1.there.0 in
    let there = found.1.there.1 in
    single_defined g.domains boxes con x (record {
      within = within_domains g boxes f;
      well_made = well_made_at g found.0 con f.well_made there;
      there = lt;
      defines = found.1.there.2;
      inputs = found.1.there.3;
      before = before;
    }) (f.all_quiet found.0 con there)

single_before : (g : Ground) (boxes : Boxes) (n : ℕ) → IsFixpoint g boxes → n ≤ length boxes →
    AreSingleBefore boxes n
single_before g boxes zero f h x lt = absurd (omega arith)
single_before g boxes (suc n) f h x lt =
    let before = single_before g boxes n f (omega arith) in
    elim (cases_lt x n) [
      | inl less ↦ before x less
      | inr ge ↦
          let same : n ≡ x = omega arith in
          subst (λ (y : ℕ). IsSingle (box_of boxes y)) same
          (elim (cases_lt n g.search) [
            | inl less ↦ f.decided n less
            | inr most ↦ next_single g boxes n f most (omega arith) before
          ])
    ]

all_single : (g : Ground) (boxes : Boxes) → IsFixpoint g boxes → (x : ℕ) → x < length boxes →
    IsSingle (box_of boxes x)
all_single g boxes f = single_before g boxes (length boxes) f (omega arith)

-- ---- the values are a solution

value_within : (g : Ground) (boxes : Boxes) (x : ℕ) → IsFixpoint g boxes → x < length boxes →
    has (box_of g.domains x) (value_of (least_values boxes) x) ≡ true
value_within g boxes x f lt =
    let w = within_domains g boxes f in
    let low = has_low (box_of boxes x) (w.sets x) (f.some x lt) in
    subst (λ (v : ℤ). has (box_of g.domains x) v ≡ true) (sym (value_of-least_values boxes x))
    (in_domain g.domains boxes x (low_of (box_of boxes x)) w lt low)

values_point : (g : Ground) (boxes : Boxes) → IsFixpoint g boxes →
    IsPoint g.domains (least_values boxes)
values_point g boxes f = record {
  size = length-least_values boxes ∙ f.size;
  within = λ x lt. let size = f.size in value_within g boxes x f (omega arith);
}

vars_named : (g : Ground) (boxes : Boxes) (con : Con) → IsFixpoint g boxes →
    IsWellMadeCon g.domains con → All (λ x. x < length boxes) (vars_of con)
vars_named g boxes con f made k d lt =
    let size = f.size in let named = made.named k d lt in omega arith

vars_single : (g : Ground) (boxes : Boxes) (con : Con) → IsFixpoint g boxes →
    IsWellMadeCon g.domains con → AreSingle (vars_of con) boxes (least_values boxes)
vars_single g boxes con f made =
    let named = vars_named g boxes con f made in
    single_list (vars_of con) boxes
    (λ k d lt. all_single g boxes f (get_or (vars_of con) k d) (named k d lt))

true_at : (g : Ground) (boxes : Boxes) (k : ℕ) (con : Con) → IsFixpoint g boxes →
    slice_get g.cons k ≡ Some con → con_true con (least_values boxes) ≡ true
true_at g boxes k con f e =
    let a = least_values boxes in
    let w = within_domains g boxes f in
    let made = well_made_at g k con f.well_made e in
    let bounded = bounded_within con g.domains boxes w made.bounded in
    let single = vars_single g boxes con f made in
    let law = refuted-single con boxes a w.sets made.sets bounded single in
    let kept = quiet_not_refuted con boxes (f.all_quiet k con e) in
    true_from (refuted con boxes) (con_true con a) law kept

values_solution : (g : Ground) (boxes : Boxes) → IsFixpoint g boxes →
    IsSolution g (least_values boxes)
values_solution g boxes f = record {
  point = values_point g boxes f;
  truths = λ k d lt. true_at g boxes k (get_or g.cons k d) f (slice_get-get_or g.cons k d lt);
}

-- ---- all of it

pub record IsSolved (g : Ground) (boxes : Boxes) : Type 0 where
  pub single : (x : ℕ) → x < length boxes → IsSingle (box_of boxes x)
  pub values : boxes ≡ singles (least_values boxes)
  pub solution : IsSolution g (least_values boxes)

pub fixpoint_solved : (g : Ground) (boxes : Boxes) → IsFixpoint g boxes → IsSolved g boxes
fixpoint_solved g boxes f = record {
  single = all_single g boxes f;
  values = single_boxes boxes (all_single g boxes f);
  solution = values_solution g boxes f;
}
