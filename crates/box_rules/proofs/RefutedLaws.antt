-- A constraint that is refuted in boxes is false at each of their points; and where the boxes are
-- single values, it is refuted exactly where it is false.
use Rattle.std.proofs.Common.{◌≡◌, ℕ, zero, suc, ◌<◌, Bool, true, false, not, ◌&&◌, ◌||◌, List, [], ◌∷◌, ℤ, pos, ◌≤ℤ◌, refl, arith, All, length, subst, ap, sym, ◌∙◌}
use Rattle.std.specs.Prelude.{int_lt, int_le}
use Rattle.std.specs.Ordering.{int_eq}
use Rattle.std.proofs.lemmas.Int.{ints}
use Rattle.std.proofs.lemmas.Bool.{and_parts, not-true}
use Rattle.signed_clause.specs.Ranges.{Ranges, has, IsValid, is_nil}
use Rattle.signed_clause.specs.SetAlgebra.{is_disjoint, is_within}
use Rattle.signed_clause.specs.Clauses.{Boxes, box_of}
use Rattle.ground_form.specs.declared.con.Con.{Con}
use Rattle.ground_form.specs.declared.con.Con.TheVariants.{LinLe, LinDef, ReifLe, AndDef, MemberDef, EqDef, ElementDef, CondDef, ClauseCon, AllDiff, Pack}
use Rattle.ground_form.specs.Meaning.{value_of, bit, sum_at, con_true, vars_of, term_vars, part_vars, parts_true}
use Rattle.ground_form.specs.Bounds.{low_of, high_of, least_sum, greatest_sum, IsBounded, singles}
use Rattle.ground_form.specs.WellMade.{HasSets}
use Rattle.ground_form.proofs.SingleValues.{box_single}
use Rattle.box_rules.specs.Points.{HasNoPoint}
use Rattle.box_rules.specs.Refuted.{some_empty, some_barred, all_fixed, same_single, none_picked, excluded, refuted}
use Rattle.box_rules.proofs.FixedLaws.{some_empty-false}
use Rattle.box_view.proofs.EndLaws.{AreSets, are_sets, AreSingle, values_in, above_low, below_high, point_values, single_head, single_tail, single_has}
use Rattle.box_rules.proofs.SumLaws.{least_sum-le, greatest_sum-ge, least_sum-single, greatest_sum-single, at_most-false, sum-false, at_most-single, sum-single}
use Rattle.box_view.proofs.SetLaws.{is_disjoint-single, is_within-single, bool_same}
use Rattle.box_rules.proofs.FlagLaws.{flag-false, flag-single, barred-false, fixed-true, barred-single, fixed-single, disjoint-false, within-true, apart-false, same-true, same-single, picked-false, picked-single, conditional-false, conditional-single, not_both, int_eq-sym, clause-false, clause-single}
use Rattle.box_rules.proofs.DiffLaws.{int_eq-same, some_crowded-false, crowded-single}
use Rattle.box_rules.proofs.PackLaws.{pack-false, pack-single}

above : (bound greatest sum : ℤ) → sum ≤ℤ greatest → int_le greatest bound ≡ true → int_le sum bound ≡ true
above bound greatest sum h k = grind (arith, ints)

pub excluded-false : (con : Con) (boxes : Boxes) (a : List ℤ) → AreSets boxes → HasSets con → IsBounded con boxes → values_in (vars_of con) boxes a ≡ true →
    excluded con boxes ≡ true → con_true con a ≡ false
excluded-false (LinLe terms bound) boxes a s f b h k =
    at_most-false (least_sum terms boxes) (sum_at terms a) bound (least_sum-le terms boxes a s h) k
excluded-false (LinDef out terms offset) boxes a s f b h k =
    let parts = and_parts (has (box_of boxes out) (value_of a out)) (values_in (term_vars terms) boxes a) h in
    sum-false _ _ (value_of a out) (least_sum terms boxes) (greatest_sum terms boxes) (sum_at terms a) offset
    (above_low (box_of boxes out) (value_of a out) (s out) parts.0) (below_high (box_of boxes out) (value_of a out) (s out) parts.0)
    (least_sum-le terms boxes a s parts.1) (greatest_sum-ge terms boxes a s parts.1) k
excluded-false (ReifLe flag terms bound) boxes a s f b h k =
    let parts = and_parts (has (box_of boxes flag) (value_of a flag)) (values_in (term_vars terms) boxes a) h in
    flag-false (box_of boxes flag) (value_of a flag) (int_le (sum_at terms a) bound) (int_lt bound (least_sum terms boxes)) (int_le (greatest_sum terms boxes) bound) parts.0
    (λ d. at_most-false (least_sum terms boxes) (sum_at terms a) bound (least_sum-le terms boxes a s parts.1) d)
    (λ d. above bound (greatest_sum terms boxes) (sum_at terms a) (greatest_sum-ge terms boxes a s parts.1) d) k
excluded-false (AndDef flag ps) boxes a s f b h k =
    let parts = and_parts (has (box_of boxes flag) (value_of a flag)) (values_in (part_vars ps) boxes a) h in
    flag-false (box_of boxes flag) (value_of a flag) (parts_true ps a) (some_barred ps boxes) (all_fixed ps boxes) parts.0
    (λ d. barred-false ps boxes a parts.1 d) (λ d. fixed-true ps boxes a s parts.1 d) k
excluded-false (MemberDef flag var set) boxes a s f b h k =
    let parts = and_parts (has (box_of boxes flag) (value_of a flag)) (values_in (var ∷ []) boxes a) h in
    let more = and_parts (has (box_of boxes var) (value_of a var)) true parts.1 in
    flag-false (box_of boxes flag) (value_of a flag) (has set (value_of a var)) (is_disjoint (box_of boxes var) set) (is_within (box_of boxes var) set) parts.0
    (λ d. disjoint-false (box_of boxes var) set (value_of a var) (s var) f more.0 d) (λ d. within-true (box_of boxes var) set (value_of a var) (s var) f more.0 d) k
excluded-false (EqDef flag left right) boxes a s f b h k =
    let parts = and_parts (has (box_of boxes flag) (value_of a flag)) (values_in (left ∷ right ∷ []) boxes a) h in
    let more = and_parts (has (box_of boxes left) (value_of a left)) (values_in (right ∷ []) boxes a) parts.1 in
    let last = and_parts (has (box_of boxes right) (value_of a right)) true more.1 in
    flag-false (box_of boxes flag) (value_of a flag) (int_eq (value_of a left) (value_of a right)) (is_disjoint (box_of boxes left) (box_of boxes right)) (same_single (box_of boxes left) (box_of boxes right)) parts.0
    (λ d. apart-false (box_of boxes left) (box_of boxes right) (value_of a left) (value_of a right) (s left) (s right) more.0 last.0 d)
    (λ d. same-true (box_of boxes left) (box_of boxes right) (value_of a left) (value_of a right) (s left) (s right) more.0 last.0 d) k
excluded-false (ElementDef out index items) boxes a s f b h k =
    let parts = and_parts (has (box_of boxes out) (value_of a out)) (values_in (index ∷ term_vars items) boxes a) h in
    let more = and_parts (has (box_of boxes index) (value_of a index)) (values_in (term_vars items) boxes a) parts.1 in
    picked-false (box_of boxes out) (box_of boxes index) (value_of a out) (value_of a index) items boxes a s (s out) parts.0 more.0 more.1 k
excluded-false (CondDef out flag item) boxes a s f b h k =
    let parts = and_parts (has (box_of boxes out) (value_of a out)) (values_in (flag ∷ item ∷ []) boxes a) h in
    let more = and_parts (has (box_of boxes flag) (value_of a flag)) (values_in (item ∷ []) boxes a) parts.1 in
    let last = and_parts (has (box_of boxes item) (value_of a item)) true more.1 in
    conditional-false (box_of boxes out) (box_of boxes flag) (box_of boxes item) (value_of a out) (value_of a flag) (value_of a item) (s out) (s item) parts.0 more.0 last.0 k
excluded-false (ClauseCon clause) boxes a s f b h k = clause-false clause 0 boxes a s f h k
excluded-false (AllDiff vars) boxes a s f b h k = some_crowded-false vars vars boxes a s h k
excluded-false (Pack items) boxes a s f b h k = pack-false items boxes a s b.sizes h k

pub refuted-false : (con : Con) (boxes : Boxes) (a : List ℤ) → AreSets boxes → HasSets con → IsBounded con boxes → values_in (vars_of con) boxes a ≡ true →
    refuted con boxes ≡ true → con_true con a ≡ false
refuted-false con boxes a s f b h k =
    let none = some_empty-false (vars_of con) boxes a h in
    let e : excluded con boxes ≡ true = grind arith in
    excluded-false con boxes a s f b h e

-- ---- single values

barred_single : (x : ℕ) (xs : List ℕ) (boxes : Boxes) (a : List ℤ) (v : ℤ) → AreSingle (x ∷ xs) boxes a → has (box_of boxes x) v ≡ int_eq (value_of a x) v
barred_single x xs boxes a v h = ap (λ (s : Ranges). has s v) (single_head x xs boxes a h) ∙ single_has (value_of a x) v

valid_single : (x : ℕ) (xs : List ℕ) (boxes : Boxes) (a : List ℤ) → AreSets boxes → AreSingle (x ∷ xs) boxes a → IsValid ((value_of a x, value_of a x) ∷ [])
valid_single x xs boxes a s h = subst (λ (z : Ranges). IsValid z) (single_head x xs boxes a h) (s x)

flag-rule : (flag : ℕ) (xs : List ℕ) (boxes : Boxes) (a : List ℤ) (truth denied held : Bool) → AreSingle (flag ∷ xs) boxes a → denied ≡ not truth → held ≡ truth →
    ((not (has (box_of boxes flag) (pos 1)) || denied) && (not (has (box_of boxes flag) (pos 0)) || held)) ≡ not (int_eq (value_of a flag) (bit truth))
flag-rule flag xs boxes a truth denied held h d k =
    let one = barred_single flag xs boxes a (pos 1) h in
    let zero = barred_single flag xs boxes a (pos 0) h in
    rw (one, zero, d, k) (flag-single (value_of a flag) truth)

at_most-held : (sum greatest bound : ℤ) → greatest ≡ sum → int_le greatest bound ≡ int_le sum bound
at_most-held sum greatest bound e = ap (λ (z : ℤ). int_le z bound) e

at_most-denied : (sum least bound : ℤ) → least ≡ sum → int_lt bound least ≡ not (int_le sum bound)
at_most-denied sum least bound e = ap (λ (z : ℤ). int_lt bound z) e ∙ at_most-single sum bound

eq_either : (v w : ℤ) → has ((w, w) ∷ []) v ≡ int_eq v w
eq_either v w = single_has w v ∙ int_eq-sym w v

-- a false constraint is excluded
pub excluded-single : (con : Con) (boxes : Boxes) (a : List ℤ) → AreSets boxes → HasSets con → AreSingle (vars_of con) boxes a → con_true con a ≡ false → excluded con boxes ≡ true
excluded-single (LinLe terms bound) boxes a s f h k =
    at_most-denied (sum_at terms a) (least_sum terms boxes) bound (least_sum-single terms boxes a h) ∙ ap (λ (b : Bool). not b) k
excluded-single (LinDef out terms offset) boxes a s f h k =
    let is = single_head out (term_vars terms) boxes a h in
    let rest = single_tail out (term_vars terms) boxes a h in
    let low : low_of (box_of boxes out) ≡ value_of a out = ap (λ (z : Ranges). low_of z) is in
    let high : high_of (box_of boxes out) ≡ value_of a out = ap (λ (z : Ranges). high_of z) is in
    rw (low, high, least_sum-single terms boxes a rest, greatest_sum-single terms boxes a rest)
    (sum-single (value_of a out) (sum_at terms a) offset ∙ ap (λ (b : Bool). not b) k)
excluded-single (ReifLe flag terms bound) boxes a s f h k =
    let rest = single_tail flag (term_vars terms) boxes a h in
    flag-rule flag (term_vars terms) boxes a (int_le (sum_at terms a) bound) _ _ h
    (at_most-denied (sum_at terms a) (least_sum terms boxes) bound (least_sum-single terms boxes a rest))
    (at_most-held (sum_at terms a) (greatest_sum terms boxes) bound (greatest_sum-single terms boxes a rest)) ∙ ap (λ (b : Bool). not b) k
excluded-single (AndDef flag ps) boxes a s f h k =
    let rest = single_tail flag (part_vars ps) boxes a h in
    flag-rule flag (part_vars ps) boxes a (parts_true ps a) _ _ h (barred-single ps boxes a rest) (fixed-single ps boxes a rest) ∙ ap (λ (b : Bool). not b) k
excluded-single (MemberDef flag var set) boxes a s f h k =
    let rest = single_tail flag (var ∷ []) boxes a h in
    let is = single_head var [] boxes a rest in
    let valid = valid_single var [] boxes a s rest in
    flag-rule flag (var ∷ []) boxes a (has set (value_of a var)) _ _ h
    (ap (λ (z : Ranges). is_disjoint z set) is ∙ is_disjoint-single (value_of a var) set valid f)
    (ap (λ (z : Ranges). is_within z set) is ∙ is_within-single (value_of a var) set valid f) ∙ ap (λ (b : Bool). not b) k
excluded-single (EqDef flag left right) boxes a s f h k =
    let rest = single_tail flag (left ∷ right ∷ []) boxes a h in
    let last = single_tail left (right ∷ []) boxes a rest in
    let l = single_head left (right ∷ []) boxes a rest in
    let r = single_head right [] boxes a last in
    let v = value_of a left in let w = value_of a right in
    let lv = valid_single left (right ∷ []) boxes a s rest in
    let rv = valid_single right [] boxes a s last in
    flag-rule flag (left ∷ right ∷ []) boxes a (int_eq v w) _ _ h
    (ap (λ (z : Ranges). is_disjoint z (box_of boxes right)) l ∙ ap (λ (z : Ranges). is_disjoint ((v, v) ∷ []) z) r ∙ is_disjoint-single v ((w, w) ∷ []) lv rv ∙ ap (λ (b : Bool). not b) (eq_either v w))
    (ap (λ (z : Ranges). same_single z (box_of boxes right)) l ∙ ap (λ (z : Ranges). same_single ((v, v) ∷ []) z) r ∙ same-single v w) ∙ ap (λ (b : Bool). not b) k
excluded-single (ElementDef out index items) boxes a s f h k =
    let rest = single_tail out (index ∷ term_vars items) boxes a h in
    let last = single_tail index (term_vars items) boxes a rest in
    let o = single_head out (index ∷ term_vars items) boxes a h in
    let i = single_head index (term_vars items) boxes a rest in
    let v = value_of a out in
    ap (λ (z : Ranges). none_picked z (box_of boxes index) items boxes) o ∙ ap (λ (z : Ranges). none_picked ((v, v) ∷ []) z items boxes) i
    ∙ picked-single v (value_of a index) items boxes a s (valid_single out (index ∷ term_vars items) boxes a s h) last ∙ ap (λ (b : Bool). not b) k
excluded-single (CondDef out flag item) boxes a s f h k =
    let rest = single_tail out (flag ∷ item ∷ []) boxes a h in
    let last = single_tail flag (item ∷ []) boxes a rest in
    let o = single_head out (flag ∷ item ∷ []) boxes a h in
    let i = single_head item [] boxes a last in
    let v = value_of a out in let w = value_of a item in
    let ov = valid_single out (flag ∷ item ∷ []) boxes a s h in
    let iv = valid_single item [] boxes a s last in
    let one = barred_single flag (item ∷ []) boxes a (pos 1) rest in
    let zero = barred_single flag (item ∷ []) boxes a (pos 0) rest in
    let none = barred_single out (flag ∷ item ∷ []) boxes a (pos 0) h in
    let apart : is_disjoint (box_of boxes out) (box_of boxes item) ≡ not (int_eq v w) =
    ap (λ (z : Ranges). is_disjoint z (box_of boxes item)) o ∙ ap (λ (z : Ranges). is_disjoint ((v, v) ∷ []) z) i ∙ is_disjoint-single v ((w, w) ∷ []) ov iv ∙ ap (λ (b : Bool). not b) (eq_either v w) in
    rw (one, zero, none, apart) (conditional-single (int_eq (value_of a flag) (pos 1)) (int_eq (value_of a flag) (pos 0)) (int_eq v w) (int_eq v (pos 0)) (not_both (value_of a flag)) ∙ ap (λ (b : Bool). not b) k)
excluded-single (ClauseCon clause) boxes a s f h k = clause-single clause 0 boxes a s f h ∙ ap (λ (b : Bool). not b) k
excluded-single (AllDiff vars) boxes a s f h k = crowded-single vars boxes a h k
excluded-single (Pack items) boxes a s f h k = pack-single items boxes a h k

empty-single : (xs : List ℕ) (boxes : Boxes) (a : List ℤ) → AreSingle xs boxes a → some_empty xs boxes ≡ false
empty-single [] boxes a h = refl
empty-single (x ∷ xs) boxes a h =
    let this : is_nil (box_of boxes x) ≡ false = ap (λ (z : Ranges). is_nil z) (single_head x xs boxes a h) in
    rw this (empty-single xs boxes a (single_tail x xs boxes a h))

values-single : (xs : List ℕ) (boxes : Boxes) (a : List ℤ) → AreSingle xs boxes a → values_in xs boxes a ≡ true
values-single [] boxes a h = refl
values-single (x ∷ xs) boxes a h =
    let this = barred_single x xs boxes a (value_of a x) h in
    let same = int_eq-same (value_of a x) in
    rw (this, same) (values-single xs boxes a (single_tail x xs boxes a h))

pub refuted-single : (con : Con) (boxes : Boxes) (a : List ℤ) → AreSets boxes → HasSets con → IsBounded con boxes → AreSingle (vars_of con) boxes a →
    refuted con boxes ≡ not (con_true con a)
refuted-single con boxes a s f b h =
    bool_same (refuted con boxes) (not (con_true con a))
    (λ k. let no = refuted-false con boxes a s f b (values-single (vars_of con) boxes a h) k in rw no refl)
    (λ k. let no : con_true con a ≡ false = not-true (con_true con a) k in
    let e = excluded-single con boxes a s f h no in rw (empty-single (vars_of con) boxes a h, e) refl)

-- ---- the laws as contracts say them

singles_at : (xs : List ℕ) (a : List ℤ) → All (λ x. x < length a) xs → AreSingle xs (singles a) a
singles_at [] a h k d lt = absurd (omega arith)
singles_at (x ∷ xs) a h zero d lt = box_single a x (h 0 0 (omega arith))
singles_at (x ∷ xs) a h (suc k) d lt = singles_at xs a (λ j e less. h (suc j) e (omega arith)) k d (omega arith)

length_singles : (a : List ℤ) → length (singles a) ≡ length a
length_singles [] = refl
length_singles (v ∷ a) = ap suc (length_singles a)

pub refuted_has_no_point : (con : Con) (boxes : Boxes) → All (λ s. IsValid s) boxes → HasSets con → All (λ x. x < length boxes) (vars_of con) → IsBounded con boxes →
    refuted con boxes ≡ true → HasNoPoint con boxes
refuted_has_no_point con boxes s f n b k a p =
    refuted-false con boxes a (are_sets boxes s) f b (point_values (vars_of con) boxes a n p) k

pub refuted_where_false : (con : Con) (boxes : Boxes) → All (λ s. IsValid s) boxes → HasSets con → All (λ x. x < length boxes) (vars_of con) → IsBounded con boxes →
    (a : List ℤ) → boxes ≡ singles a → refuted con boxes ≡ not (con_true con a)
refuted_where_false con boxes s f n b a e =
    let size : length boxes ≡ length a = ap (λ (z : Boxes). length z) e ∙ length_singles a in
    let named : All (λ x. x < length a) (vars_of con) = λ k d lt. let h = n k d lt in omega arith in
    let single : AreSingle (vars_of con) boxes a = subst (λ (z : Boxes). AreSingle (vars_of con) z a) (sym e) (singles_at (vars_of con) a named) in
    refuted-single con boxes a (are_sets boxes s) f b single
