-- Each definition leaves its variable exactly one value at a point, and the variable's domain has
-- it.
use Rattle.std.proofs.Common.{◌≡◌, ℕ, ◌<◌, Bool, true, false, ◌&&◌, ◌||◌, cond, List, [], ◌∷◌, ◌++◌, ℤ, pos, ◌+ℤ◌, ◌≤ℤ◌, length, All, arith, refl, sym, ap, ◌∙◌, subst}
use Rattle.std.specs.Prelude.{int_le}
use Rattle.std.specs.Ordering.{int_eq}
use Rattle.std.proofs.lemmas.Int.{ints}
use Rattle.std.proofs.lemmas.Bool.{and_parts}
use Rattle.std.proofs.lemmas.Bool.Decides.{Decides-int_eq}
use Rattle.signed_clause.specs.Ranges.{Ranges, has, is_nil, IsValid}
use Rattle.signed_clause.specs.SetAlgebra.{join}
use Rattle.signed_clause.specs.Clauses.{Boxes, box_of}
use Rattle.signed_clause.proofs.RangeSteps.{IsValid-join, has-join_valid}
use Rattle.ground_form.specs.declared.con.Con.{Con}
use Rattle.ground_form.specs.declared.con.Con.TheVariants.{LinDef, ReifLe, AndDef, MemberDef, EqDef, ElementDef, CondDef}
use Rattle.ground_form.specs.Meaning.{value_of, bit, sum_at, parts_true, picks, con_true, term_vars, part_vars}
use Rattle.ground_form.specs.Bounds.{LiesWithin, least_sum, greatest_sum}
use Rattle.ground_form.specs.WellMade.{lacks_value, distinct_values}
use Rattle.ground_form.specs.Solutions.{IsPoint}
use Rattle.ground_form.proofs.VarLists.{all_tail}
use Rattle.ground_form.proofs.Ends.{value_low, value_high, least_sum_le, le_greatest_sum}
use Rattle.ground_build.specs.NewDomains.{truth_values, some_empty, linear_domain, picked_domain, when_domain}
use Rattle.ground_build.proofs.Appended.{value_kept, value_new, sum_kept, parts_kept, picks_kept}
use Rattle.ground_build.specs.Defining.{IsOnlyValue, Determines}

-- the new variable's value, by its number
value_at : (n : ℕ) (a : List ℤ) (w : ℤ) → length a ≡ n → value_of (a ++ w ∷ []) n ≡ w
value_at n a w e = ap (λ (k : ℕ). value_of (a ++ w ∷ []) k) (sym e) ∙ value_new a w

-- a constraint that says what its variable is
only_value : (domain : Ranges) (con : Con) (a : List ℤ) (v : ℤ) → ((w : ℤ) → con_true con (a ++ w ∷ []) ≡ int_eq w v) → has domain v ≡ true → IsOnlyValue domain con a v
only_value domain con a v says h = record {
  member = h;
  holds = says v ∙ (Decides-int_eq v v).1 refl;
  alone = λ w e. (Decides-int_eq w v).0 (sym (says w) ∙ e);
}

bit_member : (b : Bool) → has truth_values (bit b) ≡ true
bit_member true = refl
bit_member false = refl

-- what exists has a value at a point
one_in : (ds : Boxes) (a : List ℤ) (x : ℕ) → IsPoint ds a → x < length ds → x < length a
one_in ds a x p h = let s = p.size in omega arith

all_in : (ds : Boxes) (a : List ℤ) (xs : List ℕ) → IsPoint ds a → All (λ x. x < length ds) xs → All (λ x. x < length a) xs
all_in ds a xs p h k d lt = let s = p.size in let there = h k d lt in omega arith

between : (low high v offset : ℤ) → low ≤ℤ v → v ≤ℤ high → has ((low +ℤ offset, high +ℤ offset) ∷ []) (v +ℤ offset) ≡ true
between low high v offset h k = grind (arith, ints)

or_nothing : (b : Bool) → ((true && b) || false) ≡ b
or_nothing true = refl
or_nothing false = refl

or_true : (b : Bool) → (b || true) ≡ true
or_true true = refl
or_true false = refl

int_eq_sym : (x y : ℤ) → int_eq x y ≡ int_eq y x
int_eq_sym x y = grind (arith, ints)

-- ---- sums

not_empty : (ts : List (ℤ × ℕ)) (ds : Boxes) (a : List ℤ) → All (λ x. x < length ds) (term_vars ts) → IsPoint ds a → some_empty ts ds ≡ false
not_empty [] ds a h p = refl
not_empty (t ∷ ts) ds a h p =
    let member = p.within t.1 (h 0 0 (omega arith)) in
    let rest = not_empty ts ds a (all_tail t.1 (term_vars ts) (length ds) h) p in
    (elim (box_of ds t.1) as (λ box. has box (value_of a t.1) ≡ true → (is_nil box || some_empty ts ds) ≡ false) [ [] ↦ λ e. absurd cc | r ∷ rs ↦ λ e. rest ]) member

linear_member : (ts : List (ℤ × ℕ)) (offset : ℤ) (ds : Boxes) (a : List ℤ) → All (λ x. x < length ds) (term_vars ts) → All (λ d. IsValid d) ds → IsPoint ds a → has (linear_domain ts offset ds) (sum_at ts a +ℤ offset) ≡ true
linear_member ts offset ds a h valid p =
    let some = not_empty ts ds a h p in
    let low = least_sum_le ts ds a h valid p in let high = le_greatest_sum ts ds a h valid p in
    rw some (between (least_sum ts ds) (greatest_sum ts ds) (sum_at ts a) offset low high)

pub linear_determined : (ds : Boxes) (ts : List (ℤ × ℕ)) (offset : ℤ) → All (λ d. IsValid d) ds → All (λ x. x < length ds) (term_vars ts) → Determines ds (linear_domain ts offset ds) (LinDef (length ds) ts offset)
linear_determined ds ts offset valid h a p = (
  sum_at ts a +ℤ offset,
  only_value (linear_domain ts offset ds) (LinDef (length ds) ts offset) a (sum_at ts a +ℤ offset)
      (λ w. rw (value_at (length ds) a w p.size, sum_kept ts a (w ∷ []) (all_in ds a (term_vars ts) p h)) refl) (linear_member ts offset ds a h valid p),
)

-- ---- flags

pub at_most_determined : (ds : Boxes) (ts : List (ℤ × ℕ)) (bound : ℤ) → All (λ x. x < length ds) (term_vars ts) → Determines ds truth_values (ReifLe (length ds) ts bound)
at_most_determined ds ts bound h a p =
    let b = int_le (sum_at ts a) bound in
    (bit b, only_value truth_values (ReifLe (length ds) ts bound) a (bit b) (λ w. rw (value_at (length ds) a w p.size, sum_kept ts a (w ∷ []) (all_in ds a (term_vars ts) p h)) refl) (bit_member b))

pub all_of_determined : (ds : Boxes) (ps : List (ℕ × Bool)) → All (λ x. x < length ds) (part_vars ps) → Determines ds truth_values (AndDef (length ds) ps)
all_of_determined ds ps h a p =
    let b = parts_true ps a in
    (bit b, only_value truth_values (AndDef (length ds) ps) a (bit b) (λ w. rw (value_at (length ds) a w p.size, parts_kept ps a (w ∷ []) (all_in ds a (part_vars ps) p h)) refl) (bit_member b))

pub member_determined : (ds : Boxes) (x : ℕ) (set : Ranges) → x < length ds → Determines ds truth_values (MemberDef (length ds) x set)
member_determined ds x set h a p =
    let b = has set (value_of a x) in
    (bit b, only_value truth_values (MemberDef (length ds) x set) a (bit b) (λ w. rw (value_at (length ds) a w p.size, value_kept a (w ∷ []) x (one_in ds a x p h)) refl) (bit_member b))

pub same_determined : (ds : Boxes) (l r : ℕ) → l < length ds → r < length ds → Determines ds truth_values (EqDef (length ds) l r)
same_determined ds l r h k a p =
    let b = int_eq (value_of a l) (value_of a r) in
    (bit b, only_value truth_values (EqDef (length ds) l r) a (bit b) (λ w. rw (value_at (length ds) a w p.size, value_kept a (w ∷ []) l (one_in ds a l p h), value_kept a (w ∷ []) r (one_in ds a r p k)) refl) (bit_member b))

-- ---- items

-- the variable of the item that has the value
abbrev pub picked_var : ℤ → List (ℤ × ℕ) → ℕ
picked_var i [] = 0
picked_var i (t ∷ ts) = cond (int_eq t.0 i) t.1 (picked_var i ts)

pub picks_none : (w i : ℤ) (ts : List (ℤ × ℕ)) (a : List ℤ) → lacks_value i ts ≡ true → picks w i ts a ≡ false
picks_none w i [] a h = refl
picks_none w i (t ∷ ts) a h =
    (elim (int_eq t.0 i) as (λ b. cond b false (lacks_value i ts) ≡ true → ((b && int_eq (value_of a t.1) w) || picks w i ts a) ≡ false) [ true ↦ λ e. absurd cc | false ↦ λ e. picks_none w i ts a e ]) h

-- of distinct values, one of which is the index, the item's variable is picked
picks_is : (w i : ℤ) (ts : List (ℤ × ℕ)) (a : List ℤ) → distinct_values ts ≡ true → lacks_value i ts ≡ false → picks w i ts a ≡ int_eq w (value_of a (picked_var i ts))
picks_is w i [] a d h = absurd cc
picks_is w i (t ∷ ts) a d h =
    let p = and_parts (lacks_value t.0 ts) (distinct_values ts) d in
    (elim (int_eq t.0 i) as (λ b. int_eq t.0 i ≡ b → cond b false (lacks_value i ts) ≡ false → ((b && int_eq (value_of a t.1) w) || picks w i ts a) ≡ int_eq w (value_of a (cond b t.1 (picked_var i ts)))) [
      | true ↦ λ e f.
          let same : t.0 ≡ i = (Decides-int_eq t.0 i).0 e in
          let none = picks_none w i ts a (subst (λ (z : ℤ). lacks_value z ts ≡ true) same p.0) in
          rw none (or_nothing (int_eq (value_of a t.1) w) ∙ int_eq_sym (value_of a t.1) w)
      | false ↦ λ e f. picks_is w i ts a p.1 f
    ]) refl h

has_made : (made : Ranges) (ts : List (ℤ × ℕ)) (ds : Boxes) (v : ℤ) → IsValid made → All (λ x. x < length ds) (term_vars ts) → All (λ d. IsValid d) ds → has made v ≡ true → has (picked_domain made ts ds) v ≡ true
has_made made [] ds v s h valid m = m
has_made made (t ∷ ts) ds v s h valid m =
    let box = valid t.1 [] (h 0 0 (omega arith)) in
    let law = has-join_valid made (box_of ds t.1) s box v in
    has_made (join made (box_of ds t.1)) ts ds v (IsValid-join made (box_of ds t.1) s box) (all_tail t.1 (term_vars ts) (length ds) h) valid (law ∙ rw m refl)

has_pick : (made : Ranges) (ts : List (ℤ × ℕ)) (ds : Boxes) (a : List ℤ) (i : ℤ) → IsValid made → All (λ x. x < length ds) (term_vars ts) → All (λ d. IsValid d) ds → IsPoint ds a → lacks_value i ts ≡ false →
    has (picked_domain made ts ds) (value_of a (picked_var i ts)) ≡ true
has_pick made [] ds a i s h valid p e = absurd cc
has_pick made (t ∷ ts) ds a i s h valid p e =
    let there = h 0 0 (omega arith) in let box = valid t.1 [] there in let tail = all_tail t.1 (term_vars ts) (length ds) h in
    let grown = IsValid-join made (box_of ds t.1) s box in
    (elim (int_eq t.0 i) as (λ b. cond b false (lacks_value i ts) ≡ false → has (picked_domain (join made (box_of ds t.1)) ts ds) (value_of a (cond b t.1 (picked_var i ts))) ≡ true) [
      | true ↦ λ f.
          let law = has-join_valid made (box_of ds t.1) s box (value_of a t.1) in let member = p.within t.1 there in
          has_made (join made (box_of ds t.1)) ts ds (value_of a t.1) grown tail valid (law ∙ grind arith)
      | false ↦ λ f. has_pick (join made (box_of ds t.1)) ts ds a i grown tail valid p f
    ]) e

pub pick_determined : (ds : Boxes) (index : ℕ) (items : List (ℤ × ℕ)) → All (λ d. IsValid d) ds → index < length ds → All (λ x. x < length ds) (term_vars items) → distinct_values items ≡ true →
    ((v : ℤ) → has (box_of ds index) v ≡ true → lacks_value v items ≡ false) → Determines ds (picked_domain [] items ds) (ElementDef (length ds) index items)
pick_determined ds index items valid k h distinct held a p =
    let i = value_of a index in
    let there = held i (p.within index k) in
    let v = value_of a (picked_var i items) in (
      v,
      only_value (picked_domain [] items ds) (ElementDef (length ds) index items) a v
          (λ w. rw (value_at (length ds) a w p.size, value_kept a (w ∷ []) index (one_in ds a index p k)) (picks_kept w i items a (w ∷ []) (all_in ds a (term_vars items) p h) ∙ picks_is w i items a distinct there))
          (has_pick [] items ds a i (omega (arith, ints)) h valid p there),
    )

-- ---- the item or 0

when_is : (w f i : ℤ) → pos 0 ≤ℤ f → f ≤ℤ pos 1 → ((int_eq f (pos 1) && int_eq w i) || (int_eq f (pos 0) && int_eq w (pos 0))) ≡ int_eq w (cond (int_eq f (pos 1)) i (pos 0))
when_is w f i low high = grind (arith, ints)

when_member : (ds : Boxes) (flag item : ℕ) (a : List ℤ) → All (λ d. IsValid d) ds → item < length ds → IsPoint ds a → has (when_domain item ds) (cond (int_eq (value_of a flag) (pos 1)) (value_of a item) (pos 0)) ≡ true
when_member ds flag item a valid k p =
    let box = valid item [] k in let nought : IsValid ((pos 0, pos 0) ∷ []) = (omega (arith, ints), omega (arith, ints), omega (arith, ints)) in
    elim (int_eq (value_of a flag) (pos 1)) as (λ b. has (when_domain item ds) (cond b (value_of a item) (pos 0)) ≡ true) [
      | true ↦ let law = has-join_valid (box_of ds item) ((pos 0, pos 0) ∷ []) box nought (value_of a item) in let member = p.within item k in law ∙ rw member refl
      | false ↦ let law = has-join_valid (box_of ds item) ((pos 0, pos 0) ∷ []) box nought (pos 0) in law ∙ or_true (has (box_of ds item) (pos 0))
    ]

pub when_determined : (ds : Boxes) (flag item : ℕ) → All (λ d. IsValid d) ds → flag < length ds → item < length ds → LiesWithin (pos 0) (pos 1) (box_of ds flag) → Determines ds (when_domain item ds) (CondDef (length ds) flag item)
when_determined ds flag item valid h k within a p =
    let f = value_of a flag in let i = value_of a item in
    let low = value_low ds a flag valid p h in let high = value_high ds a flag valid p h in
    let v = cond (int_eq f (pos 1)) i (pos 0) in (
      v,
      only_value (when_domain item ds) (CondDef (length ds) flag item) a v
          (λ w. rw (value_at (length ds) a w p.size, value_kept a (w ∷ []) flag (one_in ds a flag p h), value_kept a (w ∷ []) item (one_in ds a item p k)) (when_is w f i (omega (arith, ints, within.0, low)) (omega (arith, ints, within.1, high))))
          (when_member ds flag item a valid k p),
    )
