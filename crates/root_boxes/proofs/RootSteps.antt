-- One step towards the root's fixpoint: what a unit clause leaves holds all solutions still.
use Rattle.std.proofs.Common.{◌≡◌, ℕ, suc, ◌<◌, Bool, true, false, true≢false, not, ◌&&◌, ◌||◌, cond, List, [], ◌∷◌, ℤ, All, length, Option, Some, None, IfSome, refl, sym, ap, ◌∙◌, subst, slice_set, slice_get, get_or, arith, inl, inr}
use Rattle.std.proofs.lemmas.Bool.{and_parts, cases_eq}
use Rattle.std.proofs.lemmas.List.{length-set}
use Rattle.std.proofs.lemmas.Option.{slice_get-get_or, slice_get_within, get_or_from_slice_get}
use Rattle.std.proofs.lemmas.List.Elements.{All-head, All-tail, All-from_get_or}
use Rattle.signed_clause.specs.Ranges.{Ranges, has, is_nil, IsValid, IsSubset}
use Rattle.signed_clause.specs.SetAlgebra.{is_disjoint, is_within, meet}
use Rattle.signed_clause.specs.Clauses.{Boxes, Literals, box_of, false_in, unit_of, alone_of, clause_true, IsClauseFrom, IsWithinBoxes, AreValid}
use Rattle.signed_clause.proofs.ClauseLaws.{has_from_disjoint}
use Rattle.signed_clause.proofs.RangeSteps.{has-meet_valid}
use Rattle.signed_clause.proofs.SetFacts.{within_law}
use Rattle.learn_clauses.proofs.WithinLaws.{valid_boxes}
use Rattle.ground_form.specs.declared.con.Con.{Con}
use Rattle.ground_form.specs.declared.con.Con.TheVariants.{AllDiff}
use Rattle.ground_form.specs.declared.ground.Ground.{Ground}
use Rattle.ground_form.specs.Meaning.{value_of, con_true}
use Rattle.ground_form.specs.WellMade.{IsWellMade, IsWellMadeCon}
use Rattle.rule_law.specs.Answers.{AreBoxesWithin, IsPruning}
use Rattle.log_check.proofs.Justified.{justified-true}
use Rattle.run_law.proofs.Units.{some_same, none_some, box-set_same, box-set_other, unit_is, AreValid-set}
use Rattle.run_law.proofs.LevelFacts.{IsPart, unit_part}
use Rattle.root_boxes.specs.Following.{AreRootBoxes, Follows}

-- the values lie in the boxes
abbrev pub AreIn : Boxes → List ℤ → Type 0
AreIn boxes a = (x : ℕ) → x < length boxes → has (box_of boxes x) (value_of a x) ≡ true

has_from_box : (l : ℕ × Ranges) (boxes : Boxes) (a : List ℤ) → AreValid boxes → IsValid l.1 → l.0 < length boxes → AreIn boxes a → is_disjoint l.1 (box_of boxes l.0) ≡ true → has l.1 (value_of a l.0) ≡ false
has_from_box l boxes a v s lt at h = has_from_disjoint l.1 (box_of boxes l.0) (value_of a l.0) s (v l.0) h (at l.0 lt)

-- a clause that is false in the boxes isn't true there
false_there : (c : Literals) (n : ℕ) (boxes : Boxes) (a : List ℤ) → AreValid boxes → IsClauseFrom n c → IsWithinBoxes c boxes → AreIn boxes a → false_in boxes c ≡ true → clause_true c a ≡ false
false_there [] n boxes a v f w at h = refl
false_there (l ∷ c) n boxes a v f w at h =
    let parts = and_parts (is_disjoint l.1 (box_of boxes l.0)) (false_in boxes c) h in
    let here = has_from_box l boxes a v f.2 (All-head (λ (k : ℕ × Ranges). k.0 < length boxes) l c w) at parts.0 in
    let rest = false_there c (suc l.0) boxes a v f.3 (All-tail (λ (k : ℕ × Ranges). k.0 < length boxes) l c w) at parts.1 in
    rw (here, rest) refl

or_left : (p q : Bool) → q ≡ false → (p || q) ≡ true → p ≡ true
or_left true q e h = refl
or_left false true e h = sym e ∙ h
or_left false false e h = h

or_right : (p q : Bool) → p ≡ false → (p || q) ≡ true → q ≡ true
or_right true q e h = absurd (true≢false e)
or_right false q e h = h

alone_there : (l : ℕ × Ranges) (c : Literals) (boxes : Boxes) (u : ℕ × Ranges) (a : List ℤ) → AreValid boxes → IsClauseFrom 0 (l ∷ c) → IsWithinBoxes (l ∷ c) boxes → AreIn boxes a →
    alone_of boxes l c ≡ Some u → clause_true (l ∷ c) a ≡ true → has u.1 (value_of a u.0) ≡ true
alone_there l c boxes u a v f w at e h =
    let box = box_of boxes l.0 in
    (elim (false_in boxes c && not (is_within box l.1)) as (λ b. (false_in boxes c && not (is_within box l.1)) ≡ b → cond b (Some (l.0, meet l.1 box)) None ≡ Some u → has u.1 (value_of a u.0) ≡ true) [
      | true ↦ λ m e.
          let parts = and_parts (false_in boxes c) (not (is_within box l.1)) m in
          let none = false_there c (suc l.0) boxes a v f.3 (All-tail (λ (k : ℕ × Ranges). k.0 < length boxes) l c w) at parts.0 in
          let mine : has l.1 (value_of a l.0) ≡ true = or_left (has l.1 (value_of a l.0)) (clause_true c a) none h in
          let there = at l.0 (All-head (λ (k : ℕ × Ranges). k.0 < length boxes) l c w) in
          let both : has (meet l.1 box) (value_of a l.0) ≡ true = has-meet_valid l.1 box f.2 (v l.0) (value_of a l.0) ∙ ap (λ (b : Bool). b && has box (value_of a l.0)) mine ∙ there in
          subst (λ (z : ℕ × Ranges). has z.1 (value_of a z.0) ≡ true) (some_same (l.0, meet l.1 box) u e) both
      | false ↦ λ m e. absurd (none_some u e)
    ]) refl e

-- what a unit clause leaves of the box has the value
unit_there : (c : Literals) (n : ℕ) (boxes : Boxes) (u : ℕ × Ranges) (a : List ℤ) → AreValid boxes → IsClauseFrom n c → IsWithinBoxes c boxes → AreIn boxes a → unit_of boxes c ≡ Some u → clause_true c a ≡ true → has u.1 (value_of a u.0) ≡ true
unit_there [] n boxes u a v f w at e h = absurd (none_some u e)
unit_there (l ∷ c) n boxes u a v f w at e h =
    (elim (is_disjoint l.1 (box_of boxes l.0)) as (λ b. is_disjoint l.1 (box_of boxes l.0) ≡ b → cond b (unit_of boxes c) (alone_of boxes l c) ≡ Some u → has u.1 (value_of a u.0) ≡ true) [
      | true ↦ λ m e.
          let here = has_from_box l boxes a v f.2 (All-head (λ (k : ℕ × Ranges). k.0 < length boxes) l c w) at m in
          unit_there c (suc l.0) boxes u a v f.3 (All-tail (λ (k : ℕ × Ranges). k.0 < length boxes) l c w) at e (or_right (has l.1 (value_of a l.0)) (clause_true c a) here h)
      | false ↦ λ m e. alone_there l c boxes u a v (omega arith, f.1, f.2, f.3) w at e h
    ]) refl e

-- ---- boxes

-- the box of x becomes a part of it
part_within : (domains boxes : Boxes) (x : ℕ) (s : Ranges) → All (λ d. IsValid d) domains → AreBoxesWithin domains boxes → x < length boxes → IsPart (box_of boxes x) s → AreBoxesWithin domains (slice_set boxes x s)
part_within domains boxes x s d w lt p =
    let next = slice_set boxes x s in
    let size : length next ≡ length boxes = length-set boxes x s in
    let valid : AreValid boxes = valid_boxes boxes w.sets in
    let ends : AreValid domains = valid_boxes domains d in
    let at : box_of next x ≡ s = box-set_same boxes x s lt in
    let all_valid : AreValid next = AreValid-set boxes x s lt valid p.valid in
    let inside : IsSubset s (box_of domains x) = λ v h. (within_law (box_of boxes x) (box_of domains x) (valid x) (ends x)).0 (w.within x lt) v (p.within v h) in
    record {
      size = size ∙ w.size;
      within = λ y h. elim (cases_eq y x) [
        | inl e ↦ subst (λ (z : ℕ). is_within (box_of next z) (box_of domains z) ≡ true) (sym e)
            (subst (λ (z : Ranges). is_within z (box_of domains x) ≡ true) (sym at) ((within_law s (box_of domains x) p.valid (ends x)).1 inside))
        | inr ne ↦ subst (λ (z : Ranges). is_within z (box_of domains y) ≡ true) (sym (box-set_other boxes x y s ne)) (w.within y (omega (arith, size, h)))
      ];
      some = λ y h. elim (cases_eq y x) [
        | inl e ↦ subst (λ (z : ℕ). is_nil (box_of next z) ≡ false) (sym e) (subst (λ (z : Ranges). is_nil z ≡ false) (sym at) p.some)
        | inr ne ↦ subst (λ (z : Ranges). is_nil z ≡ false) (sym (box-set_other boxes x y s ne)) (w.some y (omega (arith, size, h)))
      ];
      sets = All-from_get_or (λ (z : Ranges). IsValid z) next [] (λ i h. all_valid i);
    }

-- the domains, of which none is empty, hold all solutions
pub root_start : (g : Ground) → IsWellMade g → All (λ d. is_nil d ≡ false) g.domains → AreRootBoxes g g.domains
root_start g w some =
    let ends : AreValid g.domains = valid_boxes g.domains w.domains in
    record {
      within = record {
        size = refl;
        within = λ x lt. (within_law (box_of g.domains x) (box_of g.domains x) (ends x) (ends x)).1 (λ v h. h);
        some = λ x lt. some x [] lt;
        sets = w.domains;
      };
      holds = λ a s x lt. s.point.within x lt;
    }

-- the next boxes hold all solutions still
pub record IsNarrowed (g : Ground) (boxes next : Boxes) (x : ℕ) : Type 0 where
  pub root : AreRootBoxes g next
  pub exists : x < length boxes
  pub size : length next ≡ length boxes

narrowed_by : (g : Ground) (boxes : Boxes) (c : Literals) (x : ℕ) (s : Ranges) → IsWellMade g → AreRootBoxes g boxes → Follows g boxes c → unit_of boxes c ≡ Some (x, s) → IsNarrowed g boxes (slice_set boxes x s) x
narrowed_by g boxes c x s w r f e =
    let next = slice_set boxes x s in
    let size : length next ≡ length boxes = length-set boxes x s in
    let valid : AreValid boxes = valid_boxes boxes r.within.sets in
    let by = unit_is c 0 boxes (x, s) f.form e in
    let part : IsPart (box_of boxes x) s = unit_part boxes (x, s) by.0 valid by.1 in
    let lt : x < length boxes = by.1.exists in
    let at : box_of next x ≡ s = box-set_same boxes x s lt in
    record {
      root = record {
        within = part_within g.domains boxes x s w.domains r.within lt part;
        holds = λ a sol y h. elim (cases_eq y x) [
          | inl eq ↦ subst (λ (z : ℕ). has (box_of next z) (value_of a z) ≡ true) (sym eq)
              (subst (λ (z : Ranges). has z (value_of a x) ≡ true) (sym at) (unit_there c 0 boxes (x, s) a valid f.form f.named (r.holds a sol) e (f.holds a sol)))
          | inr ne ↦ subst (λ (z : Ranges). has z (value_of a y) ≡ true) (sym (box-set_other boxes x y s ne)) (r.holds a sol y (omega (arith, size, h)))
        ];
      };
      exists = lt;
      size = size;
    }

pub narrowed : (g : Ground) (boxes next : Boxes) (c : Literals) (x : ℕ) (s : Ranges) → IsWellMade g → AreRootBoxes g boxes → Follows g boxes c → unit_of boxes c ≡ Some (x, s) → next ≡ slice_set boxes x s → IsNarrowed g boxes next x
narrowed g boxes next c x s w r f e is = subst (λ (z : Boxes). IsNarrowed g boxes z x) (sym is) (narrowed_by g boxes c x s w r f e)

of_problem : (g : Ground) (k : ℕ) (con : Con) (P : Con → Type 0) → slice_get g.cons k ≡ Some con → All P g.cons → P con
of_problem g k con P e h = subst P (get_or_from_slice_get g.cons k con con e) (h k con (slice_get_within g.cons k con e))

-- what a constraint of the problem says follows
pub follows : (g : Ground) (boxes : Boxes) (k : ℕ) (con : Con) (c : Literals) → IsWellMade g → slice_get g.cons k ≡ Some con → IsPruning con g.domains boxes c → Follows g boxes c
follows g boxes k con c w at p = record {
  named = p.named;
  form = p.form;
  holds = λ a s.
      justified-true con g.domains c a w.domains (of_problem g k con (λ z. IsWellMadeCon g.domains z) at w.constraints) p.form s.point p.follows
      (of_problem g k con (λ z. con_true z a ≡ true) at s.truths);
}

-- what the constraint of this number says follows
pub follows_at : (g : Ground) (boxes : Boxes) (k : ℕ) (c : Literals) → IsWellMade g → k < length g.cons → ((con : Con) → slice_get g.cons k ≡ Some con → IsPruning con g.domains boxes c) → Follows g boxes c
follows_at g boxes k c w lt says =
    let con = get_or g.cons k (AllDiff []) in
    let at = slice_get-get_or g.cons k (AllDiff []) lt in
    follows g boxes k con c w at (says con at)

-- the same of the slices and options that hold them
pub follows_alone : (g : Ground) (boxes lent : Boxes) (o : Option Literals) (k : ℕ) (c : Literals) → IsWellMade g → lent ≡ boxes → o ≡ Some c → k < length g.cons →
    IfSome o (λ d. (con : Con) → slice_get g.cons k ≡ Some con → IsPruning con g.domains lent d) → Follows g boxes c
follows_alone g boxes lent o k c w same is lt says =
    follows_at g boxes k c w lt
    (subst (λ (b : Boxes). (con : Con) → slice_get g.cons k ≡ Some con → IsPruning con g.domains b c) same
    (subst (λ (z : Option Literals). IfSome z (λ d. (con : Con) → slice_get g.cons k ≡ Some con → IsPruning con g.domains lent d)) is says))
