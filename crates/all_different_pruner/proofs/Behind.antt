-- What one sweep shows of the intervals that begin at one number.
use Rattle.std.proofs.Common.{◌≡◌, ℕ, zero, suc, ◌+◌, ◌<◌, ◌≤◌, Bool, true, false, ◌&&◌, ◌||◌, cond, List, [], ◌∷◌, ℤ, pos, ◌+ℤ◌, ◌≤ℤ◌, ◌<ℤ◌, All, length, drop, get_or, Option, Some, None, refl, arith, inl, inr, subst, sym, ◌∙◌}
use Rattle.std.specs.Prelude.{int_lt, int_le, nat_lt, ◌==◌, IfSome, IfNone, is_some, slice_index_or}
use Rattle.std.specs.Int.{int_max, int_min}
use Rattle.std.proofs.lemmas.Int.{ints}
use Rattle.std.proofs.lemmas.Bool.{cases_eq, cases_lt, false_from_ne_true}
use Rattle.std.proofs.lemmas.Bool.Decides.{nat_tests}
use Rattle.signed_clause.specs.Ranges.{Ranges, has, is_nil, in_range, IsValid, Ascends}
use Rattle.signed_clause.specs.SetAlgebra.{is_disjoint, meet, piece}
use Rattle.signed_clause.specs.Clauses.{Boxes, box_of}
use Rattle.ground_form.specs.Bounds.{low_of, high_of}
use Rattle.box_rules.specs.Refuted.{lies_in, count_in}
use Rattle.box_view.proofs.EndLaws.{AreSets, are_sets, ends_in_order, above_low}
use Rattle.box_rules.proofs.CrowdLaws.{in_parts, in_from, at_least}
use Rattle.box_view.proofs.EndLaws.{has_high}
use Rattle.signed_clause.proofs.RangeLaws.{Ascends-ends}
use Rattle.signed_clause.proofs.RangeSteps.{left_at}
use Rattle.all_different_pruner.specs.Intervals.{is_outside, AreOutside, IsFixpointAt, IsFixpointFrom, AreSwept, begins_sweep}
use Rattle.all_different_pruner.specs.Counters.{begins_in, count_begun, reaches}
use Rattle.all_different_pruner.specs.Sweeps.{ReachesEnd, IsFixpointBehind, ArePassed, IsKept, newest}
use Rattle.all_different_pruner.proofs.FixpointQuiet.{disjoint_none}

-- ---- a set without a value of a..b misses it

meet_none : (a b : ℤ) (r : ℤ × ℤ) (rest : Ranges) → r.0 ≤ℤ r.1 → ((v : ℤ) → (int_le a v && int_le v b) ≡ true → in_range r v ≡ false) → is_nil rest ≡ true →
    is_nil (piece (int_max r.0 a) (int_min r.1 b) (cond (int_lt b r.1) [] rest)) ≡ true
meet_none a b r rest o h n =
    let none : int_le (int_max r.0 a) (int_min r.1 b) ≡ false = false_from_ne_true (int_le (int_max r.0 a) (int_min r.1 b)) (λ q.
    let out = h (int_max r.0 a) (grind (arith, ints)) in grind (arith, ints)) in
    rw none ((elim (int_lt b r.1) as (λ t. is_nil (cond t [] rest) ≡ true) [ true ↦ refl | false ↦ n ]))

pub disjoint_from : (low top a b : ℤ) (rs : Ranges) → Ascends low top rs → ((v : ℤ) → (int_le a v && int_le v b) ≡ true → has rs v ≡ false) → is_disjoint rs ((a, b) ∷ []) ≡ true
disjoint_from low top a b [] s h = refl
disjoint_from low top a b (r ∷ rs) s h =
    let rest = disjoint_from (r.1 +ℤ pos 2) top a b rs s.2 (λ v k. let all = h v k in grind arith) in
    meet_none a b r (meet rs ((a, b) ∷ [])) s.1 (λ v k. let all = h v k in grind arith) rest

disjoint_shorter : (a b c : ℤ) (rs : Ranges) → IsValid rs → c ≤ℤ b → is_disjoint rs ((a, b) ∷ []) ≡ true → is_disjoint rs ((a, c) ∷ []) ≡ true
disjoint_shorter a b c rs s l h =
    disjoint_from _ _ a c rs s (λ v k. let out = disjoint_none _ _ a b v rs s h in grind (arith, ints))

disjoint_later : (a b : ℤ) (rs : Ranges) → IsValid rs → b <ℤ low_of rs → is_disjoint rs ((a, b) ∷ []) ≡ true
disjoint_later a b rs s h =
    disjoint_from _ _ a b rs s (λ v k. false_from_ne_true (has rs v) (λ q. let above = above_low rs v s q in grind (arith, ints)))

-- ---- where no more boxes begin in a..b than lie within, each that begins there lies within

lies_begins : (a b : ℤ) (box : Ranges) → IsValid box → lies_in a b box ≡ true → begins_in a b box ≡ true
lies_begins a b box s h = let p = in_parts a b box h in let o = ends_in_order box s in let low = p.0 in let high = p.1 in grind (arith, ints)

lies_at_most : (a b : ℤ) (xs : List ℕ) (boxes : Boxes) → AreSets boxes → count_in a b xs boxes ≤ count_begun a b xs boxes
lies_at_most a b [] boxes s = omega arith
lies_at_most a b (x ∷ xs) boxes s =
    at_least (lies_in a b (box_of boxes x)) (begins_in a b (box_of boxes x)) _ _ (lies_begins a b (box_of boxes x) (s x)) (lies_at_most a b xs boxes s)

both_or : (f g : Bool) (m n : ℕ) → (f ≡ true → g ≡ true) → m ≤ n → cond g (suc n) n ≤ cond f (suc m) m → (g ≡ true → f ≡ true) × (n ≤ m)
both_or true true m n h k l = ((λ e. refl), omega arith)
both_or true false m n h k l = absurd (let e = h refl in cc)
both_or false true m n h k l = absurd (omega arith)
both_or false false m n h k l = ((λ e. e), l)

begun_case : (a b : ℤ) (x : ℕ) (xs : List ℕ) (boxes : Boxes) → (begins_in a b (box_of boxes x) ≡ true → lies_in a b (box_of boxes x) ≡ true) →
    All (λ x. begins_in a b (box_of boxes x) ≡ true → lies_in a b (box_of boxes x) ≡ true) xs → All (λ x. begins_in a b (box_of boxes x) ≡ true → lies_in a b (box_of boxes x) ≡ true) (x ∷ xs)
begun_case a b x xs boxes here rest zero d lt = here
begun_case a b x xs boxes here rest (suc k) d lt = rest k d (omega arith)

begun_lies : (a b : ℤ) (xs : List ℕ) (boxes : Boxes) → AreSets boxes → count_begun a b xs boxes ≤ count_in a b xs boxes → All (λ x. begins_in a b (box_of boxes x) ≡ true → lies_in a b (box_of boxes x) ≡ true) xs
begun_lies a b [] boxes s h k d lt = absurd (omega arith)
begun_lies a b (x ∷ xs) boxes s h k d lt =
    let both = both_or (lies_in a b (box_of boxes x)) (begins_in a b (box_of boxes x)) (count_in a b xs boxes) (count_begun a b xs boxes) (lies_begins a b (box_of boxes x) (s x)) (lies_at_most a b xs boxes s) h in
    begun_case a b x xs boxes both.0 (begun_lies a b xs boxes s both.1) k d lt

late_outside : (a b : ℤ) (box : Ranges) → IsValid box → (begins_in a b box ≡ true → lies_in a b box ≡ true) → int_le a (low_of box) ≡ true → is_outside a b box ≡ true
late_outside a b box s h k =
    let P : Bool → Type 0 = λ t. int_le (low_of box) b ≡ t → is_outside a b box ≡ true in
    (elim (int_le (low_of box) b) as P [
      | true ↦ λ e. let lies = h (grind arith) in rw lies refl
      | false ↦ λ e. let later : b <ℤ low_of box = grind (arith, ints) in let out = disjoint_later a b box s later in grind arith
    ]) refl

pub fixpoint_behind : (a : ℤ) (d : ℕ) (xs : List ℕ) (boxes : Boxes) → All (λ s. IsValid s) boxes → count_in a (a +ℤ pos d) xs boxes ≤ suc d → (count_in a (a +ℤ pos d) xs boxes ≡ suc d → count_begun a (a +ℤ pos d) xs boxes ≤ count_in a (a +ℤ pos d) xs boxes) → IsFixpointBehind a d xs boxes
fixpoint_behind a d xs boxes s few h = record {
  few = few;
  outside = λ e. let all = begun_lies a (a +ℤ pos d) xs boxes (are_sets boxes s) (h e) in λ k x lt. late_outside a (a +ℤ pos d) (box_of boxes (slice_index_or xs k x)) (are_sets boxes s (slice_index_or xs k x)) (all k x lt);
}

pub fixpoint_outside : (a : ℤ) (d : ℕ) (xs : List ℕ) (boxes : Boxes) → count_in a (a +ℤ pos d) xs boxes ≤ suc d → AreOutside a (a +ℤ pos d) xs boxes → IsFixpointBehind a d xs boxes
fixpoint_outside a d xs boxes few h = record { few = few; outside = λ e k x lt late. h k x lt }

-- ---- the whole sweep

right_true : (x : Bool) → (x || true) ≡ true
right_true true = refl
right_true false = refl

early_outside : (a b c : ℤ) (box : Ranges) → IsValid box → c ≤ℤ b → int_le a (low_of box) ≡ false → is_outside a b box ≡ true → is_outside a c box ≡ true
early_outside a b c box s l e h =
    let out : is_disjoint box ((a, b) ∷ []) ≡ true = grind arith in let shorter = disjoint_shorter a b c box s l out in rw shorter (right_true (lies_in a c box))

outside_all : (a : ℤ) (e : ℕ) (full : Option ℕ) (xs : List ℕ) (boxes : Boxes) → AreSets boxes → reaches full e ≡ true → IsKept a full xs boxes →
    All (λ x. int_le a (low_of (box_of boxes x)) ≡ true → is_outside a (a +ℤ pos e) (box_of boxes x) ≡ true) xs → AreOutside a (a +ℤ pos e) xs boxes
outside_all a e None xs boxes s r k h i x lt = absurd cc
outside_all a e (Some d) xs boxes s r k h i x lt =
    let box = box_of boxes (slice_index_or xs i x) in
    let valid = s (slice_index_or xs i x) in
    let upto : e ≤ d = grind (arith, nat_tests) in
    let le : (a +ℤ pos e) ≤ℤ (a +ℤ pos d) = omega (arith, ints) in
    (elim (int_le a (low_of box)) as (λ t. int_le a (low_of box) ≡ t → is_outside a (a +ℤ pos e) box ≡ true) [
      | true ↦ λ late. h i x lt late
      | false ↦ λ early. early_outside a (a +ℤ pos d) (a +ℤ pos e) box valid le early (k i x lt)
    ]) refl

fixpoint_upto : (a : ℤ) (m e : ℕ) (full : Option ℕ) (xs : List ℕ) (boxes : Boxes) → AreSets boxes → ArePassed a m full xs boxes → IsKept a full xs boxes → e < m → IsFixpointAt a e xs boxes
fixpoint_upto a m e full xs boxes s p k lt =
    let fixpoint = p.fixpoint e lt in
    record { few = fixpoint.few; outside = λ q. outside_all a e full xs boxes s (p.last e lt q) k (fixpoint.outside q) }

top_within : (low top : ℤ) (rs : Ranges) (v : ℤ) → Ascends low top rs → has rs v ≡ true → v ≤ℤ top
top_within low top [] v s h = absurd (grind arith)
top_within low top (r ∷ rs) v s h =
    let more : has rs v ≡ true → v ≤ℤ top = top_within (r.1 +ℤ pos 2) top rs v s.2 in
    let ends = Ascends-ends (r.1 +ℤ pos 2) top rs s.2 in grind (arith, ints)

nil_top : (box : Ranges) → is_nil box ≡ true → high_of box ≤ℤ pos 9223372036854775807
nil_top [] e = omega (arith, ints)
nil_top (r ∷ rs) e = absurd cc

-- no box reaches past the greatest number of 64 bits
high_top : (box : Ranges) → IsValid box → high_of box ≤ℤ pos 9223372036854775807
high_top box s =
    (elim (is_nil box) as (λ t. is_nil box ≡ t → high_of box ≤ℤ pos 9223372036854775807) [
      | true ↦ λ e. nil_top box e
      | false ↦ λ e. top_within _ _ box (high_of box) s (has_high box s e)
    ]) refl

lies_early : (a b c : ℤ) (box : Ranges) → IsValid box → pos 9223372036854775807 ≤ℤ c → lies_in a b box ≡ true → lies_in a c box ≡ true
lies_early a b c box s h k = let p = in_parts a b box k in let top = high_top box s in in_from a c box p.0 (omega (arith, ints))

count_early : (a b c : ℤ) (xs : List ℕ) (boxes : Boxes) → AreSets boxes → pos 9223372036854775807 ≤ℤ c → count_in a b xs boxes ≤ count_in a c xs boxes
count_early a b c [] boxes s h = omega arith
count_early a b c (x ∷ xs) boxes s h =
    at_least (lies_in a b (box_of boxes x)) (lies_in a c (box_of boxes x)) _ _ (lies_early a b c (box_of boxes x) (s x) h) (count_early a b c xs boxes s h)

fixpoint_past : (a : ℤ) (m e : ℕ) (xs : List ℕ) (boxes : Boxes) → AreSets boxes → a +ℤ pos (suc m) ≡ pos 9223372036854775808 → IsFixpointAt a m xs boxes → suc m ≤ e → IsFixpointAt a e xs boxes
fixpoint_past a m e xs boxes s h c k =
    let less = count_early a (a +ℤ pos e) (a +ℤ pos m) xs boxes s (omega (arith, ints)) in
    let few = c.few in
    record { few = omega arith; outside = λ q. absurd (omega arith) }

past : (a : ℤ) (m e : ℕ) (full : Option ℕ) (xs : List ℕ) (boxes : Boxes) → AreSets boxes → 0 < m → a +ℤ pos m ≡ pos 9223372036854775808 → ArePassed a m full xs boxes → IsKept a full xs boxes → m ≤ e → IsFixpointAt a e xs boxes
past a zero e full xs boxes s n t p k le = absurd (omega arith)
past a (suc m) e full xs boxes s n t p k le = fixpoint_past a m e xs boxes s t (fixpoint_upto a (suc m) m full xs boxes s p k (omega arith)) le

pub fixpoint_from : (a : ℤ) (m : ℕ) (full : Option ℕ) (xs : List ℕ) (boxes : Boxes) → All (λ s. IsValid s) boxes → (0 < length xs → 0 < m) → ReachesEnd a m (length xs) → ArePassed a m full xs boxes → IsKept a full xs boxes → IsFixpointFrom a xs boxes
fixpoint_from a m full xs boxes s some end p k e lt =
    let sets = are_sets boxes s in
    elim (cases_lt e m) [
      | inl less ↦ fixpoint_upto a m e full xs boxes sets p k less
      | inr more ↦ elim end [
        | inl same ↦ absurd (omega arith)
        | inr top ↦ past a m e full xs boxes sets (some (omega arith)) top p k more
      ]
    ]

-- ---- one interval more

newest_here : (full : Option ℕ) (d n : ℕ) → n ≡ suc d → newest full d n ≡ Some d
newest_here full d n h = let e : (n == suc d) ≡ true = grind (arith, nat_tests) in rw e refl

newest_other : (full : Option ℕ) (d n : ℕ) → (n ≡ suc d → ⊥) → newest full d n ≡ full
newest_other full d n h = let e : (n == suc d) ≡ false = false_from_ne_true (n == suc d) (λ q. h (grind (arith, nat_tests))) in rw e refl

pub passed_none : (a : ℤ) (xs : List ℕ) (boxes : Boxes) → ArePassed a 0 None xs boxes
passed_none a xs boxes = record { fixpoint = λ e lt. absurd (omega arith); last = λ e lt. absurd (omega arith); is_full = tt }

some_less : (a : ℤ) (d : ℕ) (full : Option ℕ) (xs : List ℕ) (boxes : Boxes) → IfSome full (λ e. (e < d) × (count_in a (a +ℤ pos e) xs boxes ≡ suc e)) → IfSome full (λ e. (e < suc d) × (count_in a (a +ℤ pos e) xs boxes ≡ suc e))
some_less a d None xs boxes h = tt
some_less a d (Some e) xs boxes h = (omega arith, h.1)

still_reaches : (full : Option ℕ) (d e : ℕ) → e < d → reaches full e ≡ true → reaches (Some d) e ≡ true
still_reaches full d e h k = grind (arith, nat_tests)

fixpoint_next : (a : ℤ) (d : ℕ) (full : Option ℕ) (xs : List ℕ) (boxes : Boxes) → ArePassed a d full xs boxes → IsFixpointBehind a d xs boxes → (e : ℕ) → e < suc d → IsFixpointBehind a e xs boxes
fixpoint_next a d full xs boxes p c e lt =
    elim (cases_lt e d) [
      | inl less ↦ p.fixpoint e less
      | inr more ↦ let same : d ≡ e = omega arith in subst (λ (z : ℕ). IsFixpointBehind a z xs boxes) same c
    ]

full_same : (a : ℤ) (d e : ℕ) (xs : List ℕ) (boxes : Boxes) → e < suc d → d ≤ e → count_in a (a +ℤ pos e) xs boxes ≡ suc e → count_in a (a +ℤ pos d) xs boxes ≡ suc d
full_same a d e xs boxes h k q = let same : e ≡ d = omega arith in subst (λ (z : ℕ). count_in a (a +ℤ pos z) xs boxes ≡ suc z) same q

passed_full : (a : ℤ) (d : ℕ) (full : Option ℕ) (xs : List ℕ) (boxes : Boxes) → ArePassed a d full xs boxes → IsFixpointBehind a d xs boxes → count_in a (a +ℤ pos d) xs boxes ≡ suc d → ArePassed a (suc d) (Some d) xs boxes
passed_full a d full xs boxes p c h = record {
  fixpoint = λ e lt. fixpoint_next a d full xs boxes p c e lt;
  last = λ e lt q. let le : e ≤ d = omega arith in grind (arith, nat_tests);
  is_full = (omega arith, h);
}

passed_other : (a : ℤ) (d : ℕ) (full : Option ℕ) (xs : List ℕ) (boxes : Boxes) → ArePassed a d full xs boxes → IsFixpointBehind a d xs boxes → (count_in a (a +ℤ pos d) xs boxes ≡ suc d → ⊥) → ArePassed a (suc d) full xs boxes
passed_other a d full xs boxes p c h = record {
  fixpoint = λ e lt. fixpoint_next a d full xs boxes p c e lt;
  last = λ e lt q. elim (cases_lt e d) [ inl less ↦ p.last e less q | inr more ↦ absurd (h (full_same a d e xs boxes lt more q)) ];
  is_full = some_less a d full xs boxes p.is_full;
}

pub passed_step : (a : ℤ) (d n : ℕ) (full next : Option ℕ) (xs : List ℕ) (boxes : Boxes) → ArePassed a d full xs boxes → IsFixpointBehind a d xs boxes → n ≡ count_in a (a +ℤ pos d) xs boxes → next ≡ newest full d n → ArePassed a (d + 1) next xs boxes
passed_step a d n full next xs boxes p c h e =
    let one : suc d ≡ d + 1 = omega arith in
    elim (cases_eq n (suc d)) [
      | inl q ↦ subst (λ (z : Option ℕ). ArePassed a (d + 1) z xs boxes) (sym (e ∙ newest_here full d n q)) (subst (λ (z : ℕ). ArePassed a z (Some d) xs boxes) one (passed_full a d full xs boxes p c (sym h ∙ q)))
      | inr q ↦ subst (λ (z : Option ℕ). ArePassed a (d + 1) z xs boxes) (sym (e ∙ newest_other full d n q)) (subst (λ (z : ℕ). ArePassed a z full xs boxes) one (passed_other a d full xs boxes p c (λ r. q (h ∙ r))))
    ]

pub full_many : (a : ℤ) (d : ℕ) (full : Option ℕ) (xs : List ℕ) (boxes : Boxes) → ArePassed a d full xs boxes → IfSome full (λ e. suc e ≤ count_in a (a +ℤ pos e) xs boxes)
full_many a d None xs boxes p = tt
full_many a d (Some e) xs boxes p = let f = p.is_full.1 in omega arith

pub full_within : (a : ℤ) (d : ℕ) (full : Option ℕ) (xs : List ℕ) (boxes : Boxes) → ArePassed a d full xs boxes → ((e : ℕ) → e < d → (a +ℤ pos e) ≤ℤ pos 9223372036854775807) → IfSome full (λ e. (a +ℤ pos e) ≤ℤ pos 9223372036854775807)
full_within a d None xs boxes p h = tt
full_within a d (Some e) xs boxes p h = h e p.is_full.0

-- ---- what the code tests

pub judged_fixpoint : (a : ℤ) (d ended begun : ℕ) (xs : List ℕ) (boxes : Boxes) → All (λ s. IsValid s) boxes → ended ≡ count_in a (a +ℤ pos d) xs boxes → begun ≡ count_begun a (a +ℤ pos d) xs boxes →
    ended ≤ suc d → (ended == suc d && nat_lt ended begun) ≡ false → IsFixpointBehind a d xs boxes
judged_fixpoint a d ended begun xs boxes s e b few h =
    fixpoint_behind a d xs boxes s (omega arith) (λ q. let f : (ended == suc d) ≡ true = grind (arith, nat_tests) in
    let l : nat_lt ended begun ≡ false = grind arith in let le : begun ≤ ended = grind (arith, nat_tests) in omega arith)

pub none_holds : (T P : Type 0) (r : Option T) → is_some r ≡ false → IfNone r P → P
none_holds T P None h k = k
none_holds T P (Some x) h k = absurd cc

pub none_map : {T : Type 0} (P Q : Type 0) (r : Option T) → (P → Q) → IfNone r P → IfNone r Q
none_map P Q None f k = f k
none_map P Q (Some x) f k = k

-- ---- one variable more

swept_cons : (x : ℕ) (ys xs : List ℕ) (boxes : Boxes) → (begins_sweep (length xs) (box_of boxes x) ≡ true → IsFixpointFrom (low_of (box_of boxes x)) xs boxes) → AreSwept ys xs boxes → AreSwept (x ∷ ys) xs boxes
swept_cons x ys xs boxes here rest zero d lt = here
swept_cons x ys xs boxes here rest (suc k) d lt = rest k d (omega arith)

pub swept_step : (xs : List ℕ) (boxes : Boxes) (k x : ℕ) → k < length xs → x ≡ get_or xs k 0 → (begins_sweep (length xs) (box_of boxes x) ≡ true → IsFixpointFrom (low_of (box_of boxes x)) xs boxes) → AreSwept (drop (k + 1) xs) xs boxes → AreSwept (drop k xs) xs boxes
swept_step xs boxes k x h e here rest = subst (λ (z : List ℕ). AreSwept z xs boxes) (sym (left_at xs k x 0 h e)) (swept_cons x (drop (k + 1) xs) xs boxes here rest)
