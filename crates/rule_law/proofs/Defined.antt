-- Where a defining constraint is quiet and the boxes of its other variables are single values, so
-- is that of the variable that it defines: both ends of the box, each alone there, leave the
-- constraint true, and it is true at one value alone.
use Rattle.std.proofs.Common.{◌≡◌, ℕ, zero, suc, ◌<◌, Bool, true, false, not, List, [], ◌∷◌, ℤ}
use Rattle.std.proofs.Common.{Some, length, get_or, All, refl, sym, ap, subst, ◌∙◌, arith}
use Rattle.signed_clause.specs.Ranges.{Ranges, has}
use Rattle.signed_clause.specs.Clauses.{Boxes, box_of}
use Rattle.ground_form.specs.declared.con.Con.{Con}
use Rattle.ground_form.specs.Meaning.{value_of, con_true, vars_of}
use Rattle.ground_form.specs.Bounds.{low_of, high_of}
use Rattle.ground_form.specs.WellMade.{defined_by, inputs_of, IsWellMadeCon}
use Rattle.box_view.specs.Views.{fixing}
use Rattle.box_view.proofs.EndLaws.{AreSingle, has_low, has_high}
use Rattle.box_view.proofs.SetLaws.{fixing_same, fixing_other}
use Rattle.box_rules.specs.Refuted.{refuted}
use Rattle.box_rules.specs.Quiet.{quiet}
use Rattle.box_rules.proofs.QuietLaws.{fixing_bounded}
use Rattle.box_rules.proofs.RefutedLaws.{refuted-single}
use Rattle.rule_law.specs.Singles.{IsSingle, least_values}
use Rattle.rule_law.proofs.SingleBoxes.{single_ends, single_list, value_of-least_values}
use Rattle.rule_law.proofs.ProbedEnds.{IsKept, quiet_ends}
use Rattle.rule_law.proofs.Determined.{HaveSame, vars_defined, same_defined}
use Rattle.rule_law.proofs.Narrowed.{AreWithin, bounded_within, fixing_sets}

-- the boxes of all variables before x are single values
abbrev pub AreSingleBefore : Boxes → ℕ → Type 0
AreSingleBefore boxes x = (y : ℕ) → y < x → IsSingle (box_of boxes y)

-- the values that the boxes hold where that of x holds v
abbrev values_with : Boxes → ℕ → ℤ → List ℤ
values_with boxes x v = least_values (fixing boxes x v)

-- ---- the boxes with one value alone in that of x

other_single : (boxes : Boxes) (x y : ℕ) (v : ℤ) → AreSingleBefore boxes x → y < x →
    IsSingle (box_of (fixing boxes x v) y)
other_single boxes x y v s lt =
    let same = sym (fixing_other boxes x y v (λ e. omega arith)) in
    subst (λ (b : Ranges). IsSingle b) same (s y lt)

all_single : (boxes : Boxes) (x : ℕ) (xs : List ℕ) (v : ℤ) → x < length boxes →
    AreSingleBefore boxes x → All (λ y. y < x) xs →
    All (λ y. IsSingle (box_of (fixing boxes x v) y)) (x ∷ xs)
all_single boxes x xs v lt s h zero d l = (v, fixing_same boxes x v lt)
all_single boxes x xs v lt s h (suc k) d l =
    other_single boxes x (get_or xs k d) v s (h k d (omega arith))

fixed_value : (boxes : Boxes) (x : ℕ) (v : ℤ) → x < length boxes →
    value_of (values_with boxes x v) x ≡ v
fixed_value boxes x v lt =
    let here = fixing_same boxes x v lt in
    value_of-least_values (fixing boxes x v) x ∙ ap (λ (b : Ranges). low_of b) here

other_value : (boxes : Boxes) (x y : ℕ) (v : ℤ) → y < x →
    value_of (values_with boxes x v) y ≡ low_of (box_of boxes y)
other_value boxes x y v lt =
    let same = fixing_other boxes x y v (λ e. omega arith) in
    value_of-least_values (fixing boxes x v) y ∙ ap (λ (b : Ranges). low_of b) same

same_others : (boxes : Boxes) (x : ℕ) (xs : List ℕ) (v w : ℤ) → All (λ y. y < x) xs →
    HaveSame (values_with boxes x v) (values_with boxes x w) xs
same_others boxes x [] v w h = tt
same_others boxes x (y ∷ xs) v w h =
    let first = h 0 0 (omega arith) in (
      other_value boxes x y v first ∙ sym (other_value boxes x y w first),
      same_others boxes x xs v w (λ k d lt. h (suc k) d (omega arith)),
    )

-- ---- the constraint is true there

pub true_from : (r t : Bool) → r ≡ not t → r ≡ false → t ≡ true
true_from r true e h = refl
true_from r false e h = absurd cc

-- what is known of a constraint that defines x
pub record IsDefining (domains boxes : Boxes) (con : Con) (x : ℕ) : Type 0 where
  pub within : AreWithin domains boxes
  pub well_made : IsWellMadeCon domains con
  pub there : x < length boxes
  pub defines : defined_by con ≡ Some x
  pub inputs : All (λ y. y < x) (inputs_of con)
  pub before : AreSingleBefore boxes x

vars_single : (domains boxes : Boxes) (con : Con) (x : ℕ) (v : ℤ) →
    IsDefining domains boxes con x →
    AreSingle (vars_of con) (fixing boxes x v) (values_with boxes x v)
vars_single domains boxes con x v d =
    let fixed = fixing boxes x v in
    let named = sym (vars_defined con x d.defines) in
    let single = all_single boxes x (inputs_of con) v d.there d.before d.inputs in
    subst (λ (xs : List ℕ). AreSingle xs fixed (least_values fixed)) named
    (single_list (x ∷ inputs_of con) fixed single)

true_alone : (domains boxes : Boxes) (con : Con) (x : ℕ) (v : ℤ) →
    IsDefining domains boxes con x → has (box_of boxes x) v ≡ true → IsKept con boxes x v →
    con_true con (values_with boxes x v) ≡ true
true_alone domains boxes con x v d h r =
    let fixed = fixing boxes x v in
    let a = values_with boxes x v in
    let sets = fixing_sets boxes x v d.there d.within.sets h in
    let whole = bounded_within con domains boxes d.within d.well_made.bounded in
    let bounded = fixing_bounded con boxes x v d.there (d.within.sets x) h whole in
    let single = vars_single domains boxes con x v d in
    let law = refuted-single con fixed a sets d.well_made.sets bounded single in
    true_from (refuted con fixed) (con_true con a) law r

-- two values that leave it true are the same
same_alone : (domains boxes : Boxes) (con : Con) (x : ℕ) (v w : ℤ) →
    IsDefining domains boxes con x → con_true con (values_with boxes x v) ≡ true →
    con_true con (values_with boxes x w) ≡ true → v ≡ w
same_alone domains boxes con x v w d h k =
    let a = values_with boxes x v in
    let b = values_with boxes x w in
    let others = same_others boxes x (inputs_of con) v w d.inputs in
    let same = same_defined con x a b d.well_made.distinct d.defines others h k in
    sym (fixed_value boxes x v d.there) ∙ same ∙ fixed_value boxes x w d.there

pub single_defined : (domains boxes : Boxes) (con : Con) (x : ℕ) →
    IsDefining domains boxes con x → quiet con boxes ≡ true → IsSingle (box_of boxes x)
single_defined domains boxes con x d q =
    let s = box_of boxes x in
    let valid = d.within.sets x in
    let some = d.within.some x d.there in
    let named = vars_defined con x d.defines in
    let ends = quiet_ends con boxes x (inputs_of con) named valid some q in
    let low = true_alone domains boxes con x (low_of s) d (has_low s valid some) ends.low in
    let high = true_alone domains boxes con x (high_of s) d (has_high s valid some) ends.high in
    single_ends s valid some (same_alone domains boxes con x (low_of s) (high_of s) d low high)
