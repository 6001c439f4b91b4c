-- Where ranges begin and end: how many do at one number, and what that says of how many items may
-- be there.
use Rattle.std.proofs.Common.{◌≡◌, ℕ, suc, ◌+◌, ◌-◌, ◌<◌, ◌≤◌, Bool, true, false, cond, List, [], ◌∷◌, ℤ, pos, ◌+ℤ◌, ◌≤ℤ◌, ◌<ℤ◌, length, drop, get_or, refl, arith, subst, ap, ◌∙◌, All, drop-cons, length-drop}
use Rattle.std.specs.Prelude.{int_le}
use Rattle.std.specs.Ordering.{int_eq}
use Rattle.std.proofs.lemmas.Int.{ints}
use Rattle.std.proofs.lemmas.Bool.Decides.{Decides-int_eq}
use Rattle.signed_clause.specs.Ranges.{Ranges, has, Ascends, IsValid}
use Rattle.signed_clause.specs.Clauses.{Boxes, box_of}
use Rattle.signed_clause.proofs.RangeLaws.{has-below}
use Rattle.signed_clause.proofs.RangeSteps.{Ascends-drop}
use Rattle.std.specs.Int.{int_min}
use Rattle.ground_form.specs.Bounds.{low_of}
use Rattle.box_rules.specs.Refuted.{first_bin}
use Rattle.box_rules.proofs.PackLaws.{first_bin-le}
use Rattle.box_view.proofs.EndLaws.{AreSets, are_sets}
use Rattle.pack_fit.specs.Survey.{begun_at, ended_at, gone_on, all_begun, all_ended, all_gone_on, hits}

-- ---- one set

begun_below : (low top v : ℤ) (rs : Ranges) → Ascends low top rs → v <ℤ low → begun_at v rs ≡ 0
begun_below low top v [] s h = refl
begun_below low top v (r ∷ rs) s h =
    let more = begun_below (r.1 +ℤ pos 2) top v rs s.2 (omega (arith, ints)) in let d = Decides-int_eq r.0 v in grind (arith, ints)

ended_below : (low top v : ℤ) (rs : Ranges) → Ascends low top rs → v <ℤ low → ended_at v rs ≡ 0
ended_below low top v [] s h = refl
ended_below low top v (r ∷ rs) s h =
    let more = ended_below (r.1 +ℤ pos 2) top v rs s.2 (omega (arith, ints)) in let d = Decides-int_eq r.1 v in grind (arith, ints)

gone_below : (low top v : ℤ) (rs : Ranges) → Ascends low top rs → v ≤ℤ low → gone_on v rs ≡ 0
gone_below low top v [] s h = refl
gone_below low top v (r ∷ rs) s h =
    let more = gone_below (r.1 +ℤ pos 2) top v rs s.2 (omega (arith, ints)) in grind (arith, ints)

-- where one of them is counted, none behind it is
pub left : (rs : Ranges) (j : ℕ) → 0 < j → j ≤ length rs → drop (j - 1) rs ≡ get_or rs (j - 1) (pos 0, pos 0) ∷ drop j rs
left rs j h k = let is : suc (j - 1) ≡ j = omega arith in
    drop-cons rs (j - 1) (pos 0, pos 0) (omega arith) ∙ ap (λ (n : ℕ). get_or rs (j - 1) (pos 0, pos 0) ∷ drop n rs) is

pub left_valid : (rs : Ranges) (j : ℕ) → IsValid rs → 0 < j → j ≤ length rs → IsValid (get_or rs (j - 1) (pos 0, pos 0) ∷ drop j rs)
left_valid rs j v h k = subst (λ (z : Ranges). IsValid z) (left rs j h k) (Ascends-drop _ _ rs (j - 1) v)

pub begun_once : (rs : Ranges) (j : ℕ) (v : ℤ) → IsValid rs → 0 < j → j ≤ length rs → int_eq (get_or rs (j - 1) (pos 0, pos 0)).0 v ≡ true → begun_at v (drop j rs) ≡ 0
begun_once rs j v s h k e =
    let r = get_or rs (j - 1) (pos 0, pos 0) in
    let valid = left_valid rs j s h k in let is = (Decides-int_eq r.0 v).0 e in let order = valid.1 in
    begun_below (r.1 +ℤ pos 2) _ v (drop j rs) valid.2 (omega (arith, ints))

pub ended_once : (rs : Ranges) (j : ℕ) (v : ℤ) → IsValid rs → 0 < j → j ≤ length rs → int_eq (get_or rs (j - 1) (pos 0, pos 0)).1 v ≡ true → ended_at v (drop j rs) ≡ 0
ended_once rs j v s h k e =
    let r = get_or rs (j - 1) (pos 0, pos 0) in
    let valid = left_valid rs j s h k in let is = (Decides-int_eq r.1 v).0 e in
    ended_below (r.1 +ℤ pos 2) _ v (drop j rs) valid.2 (omega (arith, ints))

counted : (f : Bool) (new old part base : ℕ) → new ≡ cond f (suc old) old → old ≡ part + base → new ≡ cond f (suc part) part + base
counted true new old part base e h = omega arith
counted false new old part base e h = omega arith

pub begun_more : (rs : Ranges) (j : ℕ) (v : ℤ) (new old base : ℕ) → 0 < j → j ≤ length rs → new ≡ cond (int_eq (get_or rs (j - 1) (pos 0, pos 0)).0 v) (suc old) old →
    old ≡ begun_at v (drop j rs) + base → new ≡ begun_at v (drop (j - 1) rs) + base
begun_more rs j v new old base h k e o =
    rw (left rs j h k) (counted (int_eq (get_or rs (j - 1) (pos 0, pos 0)).0 v) new old (begun_at v (drop j rs)) base e o)

pub ended_more : (rs : Ranges) (j : ℕ) (v : ℤ) (new old base : ℕ) → 0 < j → j ≤ length rs → new ≡ cond (int_eq (get_or rs (j - 1) (pos 0, pos 0)).1 v) (suc old) old →
    old ≡ ended_at v (drop j rs) + base → new ≡ ended_at v (drop (j - 1) rs) + base
ended_more rs j v new old base h k e o =
    rw (left rs j h k) (counted (int_eq (get_or rs (j - 1) (pos 0, pos 0)).1 v) new old (ended_at v (drop j rs)) base e o)

-- ---- all items

begun_one : (low top v : ℤ) (rs : Ranges) → Ascends low top rs → begun_at v rs ≤ 1
begun_one low top v [] s = omega arith
begun_one low top v (r ∷ rs) s =
    let more = begun_one (r.1 +ℤ pos 2) top v rs s.2 in let d = Decides-int_eq r.0 v in
    (elim (int_eq r.0 v) as (λ t. int_eq r.0 v ≡ t → cond t (suc (begun_at v rs)) (begun_at v rs) ≤ 1) [
      | true ↦ λ q. let is = d.0 q in let order = s.1 in let none = begun_below (r.1 +ℤ pos 2) top v rs s.2 (omega (arith, ints)) in omega arith
      | false ↦ λ q. more
    ]) refl

ended_one : (low top v : ℤ) (rs : Ranges) → Ascends low top rs → ended_at v rs ≤ 1
ended_one low top v [] s = omega arith
ended_one low top v (r ∷ rs) s =
    let more = ended_one (r.1 +ℤ pos 2) top v rs s.2 in let d = Decides-int_eq r.1 v in
    (elim (int_eq r.1 v) as (λ t. int_eq r.1 v ≡ t → cond t (suc (ended_at v rs)) (ended_at v rs) ≤ 1) [
      | true ↦ λ q. let is = d.0 q in let none = ended_below (r.1 +ℤ pos 2) top v rs s.2 (omega (arith, ints)) in omega arith
      | false ↦ λ q. more
    ]) refl

begun_few : (v : ℤ) (is : List (ℕ × ℕ × ℕ)) (boxes : Boxes) → AreSets boxes → all_begun v is boxes ≤ length is
begun_few v [] boxes s = omega arith
begun_few v (i ∷ is) boxes s = let more = begun_few v is boxes s in let here = begun_one _ _ v (box_of boxes i.0) (s i.0) in omega arith

ended_few : (v : ℤ) (is : List (ℕ × ℕ × ℕ)) (boxes : Boxes) → AreSets boxes → all_ended v is boxes ≤ length is
ended_few v [] boxes s = omega arith
ended_few v (i ∷ is) boxes s = let more = ended_few v is boxes s in let here = ended_one _ _ v (box_of boxes i.0) (s i.0) in omega arith

pub begun_room : (n : ℕ) (v : ℤ) (items : List (ℕ × ℕ × ℕ)) (boxes : Boxes) (k : ℕ) → All (λ s. IsValid s) boxes → k < length items → length items < 18446744073709551616 → n ≡ all_begun v (drop (suc k) items) boxes → n < 18446744073709551615
begun_room n v items boxes k s lt few e =
    let most = begun_few v (drop (suc k) items) boxes (are_sets boxes s) in let size = length-drop (suc k) items in omega arith

pub ended_room : (n : ℕ) (v : ℤ) (items : List (ℕ × ℕ × ℕ)) (boxes : Boxes) (k : ℕ) → All (λ s. IsValid s) boxes → k < length items → length items < 18446744073709551616 → n ≡ all_ended v (drop (suc k) items) boxes → n < 18446744073709551615
ended_room n v items boxes k s lt few e =
    let most = ended_few v (drop (suc k) items) boxes (are_sets boxes s) in let size = length-drop (suc k) items in omega arith

pub begun_item : (new old : ℕ) (v : ℤ) (items : List (ℕ × ℕ × ℕ)) (boxes : Boxes) (k : ℕ) (rs : Ranges) → k < length items → rs ≡ box_of boxes (get_or items k (0, 0, 0)).0 → new ≡ begun_at v rs + old →
    old ≡ all_begun v (drop (suc k) items) boxes → new ≡ all_begun v (drop k items) boxes
begun_item new old v items boxes k rs lt is e h =
    let at : begun_at v rs ≡ begun_at v (box_of boxes (get_or items k (0, 0, 0)).0) = ap (λ (z : Ranges). begun_at v z) is in
    rw (drop-cons items k (0, 0, 0) lt) (omega arith)

pub ended_item : (new old : ℕ) (v : ℤ) (items : List (ℕ × ℕ × ℕ)) (boxes : Boxes) (k : ℕ) (rs : Ranges) → k < length items → rs ≡ box_of boxes (get_or items k (0, 0, 0)).0 → new ≡ ended_at v rs + old →
    old ≡ all_ended v (drop (suc k) items) boxes → new ≡ all_ended v (drop k items) boxes
ended_item new old v items boxes k rs lt is e h =
    let at : ended_at v rs ≡ ended_at v (box_of boxes (get_or items k (0, 0, 0)).0) = ap (λ (z : Ranges). ended_at v z) is in
    rw (drop-cons items k (0, 0, 0) lt) (omega arith)

-- ---- how many items may be at a bin

-- of one set
in_one : (low top v : ℤ) (rs : Ranges) → Ascends low top rs → gone_on v rs + begun_at v rs ≡ cond (has rs v) 1 0
in_one low top v [] s = refl
in_one low top v (r ∷ rs) s =
    let more = in_one (r.1 +ℤ pos 2) top v rs s.2 in let d = Decides-int_eq r.0 v in
    (elim (int_le v r.1) as (λ t. int_le v r.1 ≡ t → gone_on v (r ∷ rs) + begun_at v (r ∷ rs) ≡ cond (has (r ∷ rs) v) 1 0) [
      | true ↦ λ q.
          let le : v ≤ℤ r.1 = grind (arith, ints) in
          let none = begun_below (r.1 +ℤ pos 2) top v rs s.2 (omega (arith, ints)) in
          let gone = gone_below (r.1 +ℤ pos 2) top v rs s.2 (omega (arith, ints)) in
          let out = has-below (r.1 +ℤ pos 2) top rs v s.2 (omega (arith, ints)) in
          grind (arith, ints)
      | false ↦ λ q. let over : r.1 <ℤ v = grind (arith, ints) in grind (arith, ints)
    ]) refl

out_one : (low top v : ℤ) (rs : Ranges) → Ascends low top rs → gone_on (v +ℤ pos 1) rs + ended_at v rs ≡ cond (has rs v) 1 0
out_one low top v [] s = refl
out_one low top v (r ∷ rs) s =
    let more = out_one (r.1 +ℤ pos 2) top v rs s.2 in let d = Decides-int_eq r.1 v in
    (elim (int_le v r.1) as (λ t. int_le v r.1 ≡ t → gone_on (v +ℤ pos 1) (r ∷ rs) + ended_at v (r ∷ rs) ≡ cond (has (r ∷ rs) v) 1 0) [
      | true ↦ λ q.
          let le : v ≤ℤ r.1 = grind (arith, ints) in
          let none = ended_below (r.1 +ℤ pos 2) top v rs s.2 (omega (arith, ints)) in
          let gone = gone_below (r.1 +ℤ pos 2) top (v +ℤ pos 1) rs s.2 (omega (arith, ints)) in
          let out = has-below (r.1 +ℤ pos 2) top rs v s.2 (omega (arith, ints)) in
          grind (arith, ints)
      | false ↦ λ q. let over : r.1 <ℤ v = grind (arith, ints) in grind (arith, ints)
    ]) refl

joined : (f : Bool) (a b more rest n : ℕ) → a + b ≡ cond f 1 0 → more + rest ≡ n → (a + more) + (b + rest) ≡ cond f (suc n) n
joined true a b more rest n e h = omega arith
joined false a b more rest n e h = omega arith

-- those that may be at the number before and those whose ranges begin there
pub all_in : (v : ℤ) (is : List (ℕ × ℕ × ℕ)) (boxes : Boxes) → AreSets boxes → all_gone_on v is boxes + all_begun v is boxes ≡ hits v is boxes
all_in v [] boxes s = refl
all_in v (i ∷ is) boxes s = joined (has (box_of boxes i.0) v) _ _ _ _ _ (in_one _ _ v (box_of boxes i.0) (s i.0)) (all_in v is boxes s)

-- those that may be at the next number and those whose ranges end there
pub all_out : (v : ℤ) (is : List (ℕ × ℕ × ℕ)) (boxes : Boxes) → AreSets boxes → all_gone_on (v +ℤ pos 1) is boxes + all_ended v is boxes ≡ hits v is boxes
all_out v [] boxes s = refl
all_out v (i ∷ is) boxes s = joined (has (box_of boxes i.0) v) _ _ _ _ _ (out_one _ _ v (box_of boxes i.0) (s i.0)) (all_out v is boxes s)

pub hits_few : (v : ℤ) (is : List (ℕ × ℕ × ℕ)) (boxes : Boxes) → hits v is boxes ≤ length is
hits_few v [] boxes = omega arith
hits_few v (i ∷ is) boxes = let more = hits_few v is boxes in grind arith

gone_first : (v : ℤ) (s : Ranges) → IsValid s → v ≤ℤ low_of s → gone_on v s ≡ 0
gone_first v [] s h = refl
gone_first v (r ∷ rs) s h = gone_below r.0 _ v (r ∷ rs) (omega (arith, ints), s.1, s.2) h

-- none may be before the first bin
pub none_before : (v a : ℤ) (is : List (ℕ × ℕ × ℕ)) (boxes : Boxes) → AreSets boxes → v ≤ℤ first_bin a is boxes → all_gone_on v is boxes ≡ 0
none_before v a [] boxes s h = refl
none_before v a (i ∷ is) boxes s h =
    let first = first_bin-le (int_min a (low_of (box_of boxes i.0))) is boxes in
    let here = gone_first v (box_of boxes i.0) (s i.0) (grind (arith, ints)) in
    let more = none_before v (int_min a (low_of (box_of boxes i.0))) is boxes s h in omega arith
