-- What is left of a set without another, asked number by number.
use Rattle.std.proofs.Common.{◌≡◌, ℕ, zero, suc, ◌+◌, ◌<◌, ◌≤◌, max, Bool, true, false, not, ◌&&◌, [], ◌∷◌, ℤ, pos, negsuc, ◌+ℤ◌, ◌≤ℤ◌, ◌<ℤ◌, unsigned_abs, length, arith, refl, ap, sym, ◌∙◌}
use Rattle.std.specs.Prelude.{int_lt}
use Rattle.std.proofs.lemmas.Int.{ints}
use Rattle.std.proofs.lemmas.Bool.{and_parts, false_from_ne_true}
use Rattle.signed_clause.specs.Ranges.{Ranges, has, is_nil, IsValid, IsSubset, Ascends}
use Rattle.signed_clause.specs.SetAlgebra.{is_disjoint, is_within, less}
use Rattle.signed_clause.specs.Clauses.{Boxes, Literals, box_of, set_of, has_var}
use Rattle.signed_clause.proofs.RangeLaws.{Ascends-ends}
use Rattle.signed_clause.proofs.RangeSteps.{has-less_valid, IsValid-less}
use Rattle.signed_clause.proofs.SetFacts.{disjoint_law, within_law, same_law}
use Rattle.ground_form.specs.Bounds.{low_of, high_of, reach_of}
use Rattle.box_view.specs.Views.{cut_from, cut}
use Rattle.box_view.specs.Firsts.{IsFirst, HasNoneFrom, IsLast, HasNoneTo}
use Rattle.box_view.proofs.EndLaws.{above_low, below_high, ends_in_order, has_low, has_high}
use Rattle.box_view.proofs.SetLaws.{disjoint_sym}

-- values are of 64 bits
pub low_within : (low top : ℤ) (rs : Ranges) (v : ℤ) → Ascends low top rs → has rs v ≡ true → low ≤ℤ v
low_within low top [] v s h = absurd (grind arith)
low_within low top (r ∷ rs) v s h =
    let more : has rs v ≡ true → (r.1 +ℤ pos 2) ≤ℤ v = low_within (r.1 +ℤ pos 2) top rs v s.2 in grind (arith, ints)

pub top_within : (low top : ℤ) (rs : Ranges) (v : ℤ) → Ascends low top rs → has rs v ≡ true → v ≤ℤ top
top_within low top [] v s h = absurd (grind arith)
top_within low top (r ∷ rs) v s h =
    let more : has rs v ≡ true → v ≤ℤ top = top_within (r.1 +ℤ pos 2) top rs v s.2 in
    let ends = Ascends-ends (r.1 +ℤ pos 2) top rs s.2 in grind (arith, ints)

pub has_rest : (d s : Ranges) (v : ℤ) → IsValid d → IsValid s → (has d v && not (has s v)) ≡ has (less d s) v
has_rest d s v f g = sym (has-less_valid d s f g v)

-- ---- tests of what is left

-- where no number passes a test that every common value of two sets does, they have none
none_common : (a b : Ranges) (test : ℤ → Bool) → IsValid a → IsValid b → ((u : ℤ) → test u ≡ (has a u && has b u)) → HasNoneFrom test (negsuc 9223372036854775807) → is_disjoint a b ≡ true
none_common a b test f g t n =
    (disjoint_law a b f g).1 (λ v h. false_from_ne_true (has b v) (λ q.
    let no = n v (low_within _ _ a v f h) (top_within _ _ a v f h) in let is = t v in grind arith))

some_common : (a b : Ranges) (test : ℤ → Bool) (w : ℤ) → IsValid a → IsValid b → ((u : ℤ) → test u ≡ (has a u && has b u)) → test w ≡ true → is_disjoint a b ≡ false
some_common a b test w f g t h =
    false_from_ne_true (is_disjoint a b) (λ q.
    let parts = and_parts (has a w) (has b w) (sym (t w) ∙ h) in
    let no = (disjoint_law a b f g).0 q w parts.0 in let yes = parts.1 in grind arith)

by_cases : (r x : Bool) → (r ≡ true → x ≡ true) → (r ≡ false → x ≡ false) → r ≡ x
by_cases true x h k = sym (h refl)
by_cases false x h k = sym (k refl)

common_from : (a b : Ranges) (test : ℤ → Bool) (r : Bool) → IsValid a → IsValid b → ((u : ℤ) → test u ≡ (has a u && has b u)) →
    (r ≡ true → HasNoneFrom test (negsuc 9223372036854775807)) → (r ≡ false → (w : ℤ) × (test w ≡ true)) → r ≡ is_disjoint a b
common_from a b test r f g t n s =
    by_cases r (is_disjoint a b) (λ q. none_common a b test f g t (n q)) (λ q. let w = s q in some_common a b test w.0 f g t w.1)

pub disjoint_from : (d s t : Ranges) (r : Bool) → IsValid d → IsValid s → IsValid t →
    (r ≡ true → HasNoneFrom (λ u. (has d u && not (has s u)) && has t u) (negsuc 9223372036854775807)) → (r ≡ false → (w : ℤ) × (((has d w && not (has s w)) && has t w) ≡ true)) → r ≡ is_disjoint (less d s) t
disjoint_from d s t r f g h n some =
    common_from (less d s) t (λ u. (has d u && not (has s u)) && has t u) r (IsValid-less d s f g) h (λ u. ap (λ (b : Bool). b && has t u) (has_rest d s u f g)) n some

pub disjoint_turned_from : (d s t : Ranges) (r : Bool) → IsValid d → IsValid s → IsValid t →
    (r ≡ true → HasNoneFrom (λ u. (has d u && not (has s u)) && has t u) (negsuc 9223372036854775807)) → (r ≡ false → (w : ℤ) × (((has d w && not (has s w)) && has t w) ≡ true)) → r ≡ is_disjoint t (less d s)
disjoint_turned_from d s t r f g h n some =
    disjoint_from d s t r f g h n some ∙ disjoint_sym (less d s) t (IsValid-less d s f g) h

-- where the second has all of a set, nothing of it is left
pub within_apart : (d s t : Ranges) → IsValid d → IsValid s → IsValid t → IsSubset t s → true ≡ is_disjoint (less d s) t
within_apart d s t f g h sub =
    sym ((disjoint_law (less d s) t (IsValid-less d s f g) h).1 (λ v k. false_from_ne_true (has t v) (λ q.
    let left = has-less_valid d s f g v in let out = sub v q in absurd (grind arith))))

pub within_apart_turned : (d s t : Ranges) → IsValid d → IsValid s → IsValid t → IsSubset t s → true ≡ is_disjoint t (less d s)
within_apart_turned d s t f g h sub = within_apart d s t f g h sub ∙ disjoint_sym (less d s) t (IsValid-less d s f g) h

pub apart_from : (d s e t : Ranges) (r : Bool) → IsValid d → IsValid s → IsValid e → IsValid t →
    (r ≡ true → HasNoneFrom (λ u. (has d u && not (has s u)) && (has e u && not (has t u))) (negsuc 9223372036854775807)) →
    (r ≡ false → (w : ℤ) × (((has d w && not (has s w)) && (has e w && not (has t w))) ≡ true)) → r ≡ is_disjoint (less d s) (less e t)
apart_from d s e t r f g h i n some =
    common_from (less d s) (less e t) (λ u. (has d u && not (has s u)) && (has e u && not (has t u))) r (IsValid-less d s f g) (IsValid-less e t h i)
    (λ u. ap (λ (b : Bool). b && (has e u && not (has t u))) (has_rest d s u f g) ∙ ap (λ (b : Bool). has (less d s) u && b) (has_rest e t u h i)) n some

none_outside : (a b : Ranges) (test : ℤ → Bool) → IsValid a → IsValid b → ((u : ℤ) → test u ≡ (has a u && not (has b u))) → HasNoneFrom test (negsuc 9223372036854775807) → is_within a b ≡ true
none_outside a b test f g t n =
    (within_law a b f g).1 (λ v h.
    let no = n v (low_within _ _ a v f h) (top_within _ _ a v f h) in let is = t v in grind arith)

some_outside : (a b : Ranges) (test : ℤ → Bool) (w : ℤ) → IsValid a → IsValid b → ((u : ℤ) → test u ≡ (has a u && not (has b u))) → test w ≡ true → is_within a b ≡ false
some_outside a b test w f g t h =
    false_from_ne_true (is_within a b) (λ q.
    let parts = and_parts (has a w) (not (has b w)) (sym (t w) ∙ h) in
    let yes = (within_law a b f g).0 q w parts.0 in let no = parts.1 in grind arith)

pub within_from : (d s t : Ranges) (r : Bool) → IsValid d → IsValid s → IsValid t →
    (r ≡ true → HasNoneFrom (λ u. (has d u && not (has s u)) && not (has t u)) (negsuc 9223372036854775807)) → (r ≡ false → (w : ℤ) × (((has d w && not (has s w)) && not (has t w)) ≡ true)) → r ≡ is_within (less d s) t
within_from d s t r f g h n some =
    let is : (u : ℤ) → ((has d u && not (has s u)) && not (has t u)) ≡ (has (less d s) u && not (has t u)) = λ u. ap (λ (b : Bool). b && not (has t u)) (has_rest d s u f g) in
    by_cases r (is_within (less d s) t) (λ q. none_outside (less d s) t _ (IsValid-less d s f g) h is (n q)) (λ q. let w = some q in some_outside (less d s) t _ w.0 (IsValid-less d s f g) h is w.1)

-- ---- the ends of what is left

not_nil : (rs : Ranges) (v : ℤ) → has rs v ≡ true → is_nil rs ≡ false
not_nil [] v h = absurd (grind arith)
not_nil (r ∷ rs) v h = refl

less_from_test : (a b : ℤ) → int_lt a b ≡ true → a <ℤ b
less_from_test a b h = grind (arith, ints)

same_from_test : (a b : ℤ) → a ≤ℤ b → int_lt a b ≡ false → a ≡ b
same_from_test a b h k = grind (arith, ints)

low_is : (rs : Ranges) (w : ℤ) → IsValid rs → has rs w ≡ true → ((u : ℤ) → negsuc 9223372036854775807 ≤ℤ u → u <ℤ w → has rs u ≡ false) → low_of rs ≡ w
low_is rs w f h n =
    let le = above_low rs w f h in
    let here = has_low rs f (not_nil rs w h) in
    let least = low_within _ _ rs (low_of rs) f here in
    let no_less : int_lt (low_of rs) w ≡ false = false_from_ne_true (int_lt (low_of rs) w) (λ q. let l : low_of rs <ℤ w = less_from_test (low_of rs) w q in let no = n (low_of rs) least l in grind arith) in
    same_from_test (low_of rs) w le no_less

high_is : (rs : Ranges) (w : ℤ) → IsValid rs → has rs w ≡ true → ((u : ℤ) → w <ℤ u → u ≤ℤ pos 9223372036854775807 → has rs u ≡ false) → high_of rs ≡ w
high_is rs w f h n =
    let le = below_high rs w f h in
    let here = has_high rs f (not_nil rs w h) in
    let most = top_within _ _ rs (high_of rs) f here in
    let no_less : int_lt w (high_of rs) ≡ false = false_from_ne_true (int_lt w (high_of rs)) (λ q. let l : w <ℤ high_of rs = less_from_test w (high_of rs) q in let no = n (high_of rs) l most in grind arith) in
    sym (same_from_test w (high_of rs) le no_less)

nil_is : (rs : Ranges) → IsValid rs → ((u : ℤ) → negsuc 9223372036854775807 ≤ℤ u → u ≤ℤ pos 9223372036854775807 → has rs u ≡ false) → rs ≡ []
nil_is [] f n = refl
nil_is (r ∷ rs) f n =
    let here = has_low (r ∷ rs) f refl in
    let no = n r.0 (low_within _ _ (r ∷ rs) r.0 f here) (top_within _ _ (r ∷ rs) r.0 f here) in absurd (grind arith)

pub rest_first : (d s : Ranges) (v w : ℤ) → IsValid d → IsValid s → IsFirst (λ u. has d u && not (has s u)) v w →
    IsFirst (λ u. has (less d s) u) v w
rest_first d s v w f g i = record {
  passes = sym (has_rest d s w f g) ∙ i.passes;
  from = i.from;
  none_before = λ u l k. sym (has_rest d s u f g) ∙ i.none_before u l k;
}

pub rest_none_from : (d s : Ranges) (v : ℤ) → IsValid d → IsValid s → HasNoneFrom (λ u. has d u && not (has s u)) v →
    HasNoneFrom (λ u. has (less d s) u) v
rest_none_from d s v f g n u l k = sym (has_rest d s u f g) ∙ n u l k

pub rest_low : (d s : Ranges) (w : ℤ) → IsValid d → IsValid s → IsFirst (λ u. has d u && not (has s u)) (negsuc 9223372036854775807) w → low_of (less d s) ≡ w
rest_low d s w f g i =
    low_is (less d s) w (IsValid-less d s f g) (sym (has_rest d s w f g) ∙ i.passes) (λ u l k. sym (has_rest d s u f g) ∙ i.none_before u l k)

pub rest_high : (d s : Ranges) (w : ℤ) → IsValid d → IsValid s → IsLast (λ u. has d u && not (has s u)) (pos 9223372036854775807) w → high_of (less d s) ≡ w
rest_high d s w f g i =
    high_is (less d s) w (IsValid-less d s f g) (sym (has_rest d s w f g) ∙ i.passes) (λ u l k. sym (has_rest d s u f g) ∙ i.none_after u l k)

pub rest_none : (d s : Ranges) → IsValid d → IsValid s → HasNoneFrom (λ u. has d u && not (has s u)) (negsuc 9223372036854775807) → less d s ≡ []
rest_none d s f g n = nil_is (less d s) (IsValid-less d s f g) (λ u l k. sym (has_rest d s u f g) ∙ n u l k)

pub rest_none_back : (d s : Ranges) → IsValid d → IsValid s → HasNoneTo (λ u. has d u && not (has s u)) (pos 9223372036854775807) → less d s ≡ []
rest_none_back d s f g n = nil_is (less d s) (IsValid-less d s f g) (λ u l k. sym (has_rest d s u f g) ∙ n u l k)

pub rest_order : (d s : Ranges) → IsValid d → IsValid s → low_of (less d s) ≤ℤ high_of (less d s)
rest_order d s f g = ends_in_order (less d s) (IsValid-less d s f g)

reach_between : (low high a b : ℤ) → low ≤ℤ a → a ≤ℤ high → low ≤ℤ b → b ≤ℤ high → max (unsigned_abs a) (unsigned_abs b) ≤ max (unsigned_abs low) (unsigned_abs high)
reach_between low high a b h k l m = omega (arith, ints)

reach_part : (rs d : Ranges) → IsValid rs → IsValid d → ((u : ℤ) → has rs u ≡ true → has d u ≡ true) → reach_of rs ≤ reach_of d
reach_part [] d f g sub = omega arith
reach_part (r ∷ rs) d f g sub =
    let low = sub (low_of (r ∷ rs)) (has_low (r ∷ rs) f refl) in
    let high = sub (high_of (r ∷ rs)) (has_high (r ∷ rs) f refl) in
    reach_between (low_of d) (high_of d) (low_of (r ∷ rs)) (high_of (r ∷ rs)) (above_low d _ g low) (below_high d _ g low) (above_low d _ g high) (below_high d _ g high)

pub rest_reach : (d s : Ranges) → IsValid d → IsValid s → reach_of (less d s) ≤ reach_of d
rest_reach d s f g =
    reach_part (less d s) d (IsValid-less d s f g) f (λ u h. let p = and_parts (has d u) (not (has s u)) (has_rest d s u f g ∙ h) in p.0)

-- ---- the boxes that are cut

cut_from_box : (n : ℕ) (ds : Boxes) (c : Literals) (x : ℕ) → box_of (cut_from n ds c) x ≡ less (box_of ds x) (set_of c (n + x))
cut_from_box n [] c zero = refl
cut_from_box n [] c (suc x) = refl
cut_from_box n (d ∷ ds) c zero = ap (λ (k : ℕ). less d (set_of c k)) (omega arith)
cut_from_box n (d ∷ ds) c (suc x) = cut_from_box (suc n) ds c x ∙ ap (λ (k : ℕ). less (box_of ds x) (set_of c k)) (omega arith)

pub cut_box : (ds : Boxes) (c : Literals) (x : ℕ) → box_of (cut ds c) x ≡ less (box_of ds x) (set_of c x)
cut_box ds c x = cut_from_box 0 ds c x ∙ ap (λ (k : ℕ). less (box_of ds x) (set_of c k)) (omega arith)

cut_from_length : (n : ℕ) (ds : Boxes) (c : Literals) → length (cut_from n ds c) ≡ length ds
cut_from_length n [] c = refl
cut_from_length n (d ∷ ds) c = let more = cut_from_length (suc n) ds c in omega arith

pub cut_length : (ds : Boxes) (c : Literals) → length (cut ds c) ≡ length ds
cut_length ds c = cut_from_length 0 ds c

-- a variable without a literal keeps its domain
no_set : (c : Literals) (x : ℕ) → has_var c x ≡ false → set_of c x ≡ []
no_set [] x h = refl
no_set (l ∷ c) x h = let more = no_set c x in grind arith

and_true : (b : Bool) → (b && true) ≡ b
and_true b = grind arith

less_nothing : (d : Ranges) → IsValid d → less d [] ≡ d
less_nothing d f =
    let valid_nil : IsValid [] = omega (arith, ints) in
    (same_law (less d []) d (IsValid-less d [] f valid_nil) f).1 (λ v. sym (has_rest d [] v f valid_nil) ∙ and_true (has d v))

pub kept_box : (ds : Boxes) (c : Literals) (x : ℕ) → IsValid (box_of ds x) → has_var c x ≡ false → box_of (cut ds c) x ≡ box_of ds x
kept_box ds c x f h = cut_box ds c x ∙ ap (λ (s : Ranges). less (box_of ds x) s) (no_set c x h) ∙ less_nothing (box_of ds x) f

-- ---- one value of what is left

pub left_is : (one other : Bool) (d s : Ranges) (v : ℤ) → IsValid d → IsValid s → one ≡ has d v → one ≡ true → other ≡ has s v → not other ≡ has (less d s) v
left_is one other d s v f g e y k = let h = has_rest d s v f g in grind arith

pub gone_is : (one : Bool) (d s : Ranges) (v : ℤ) → IsValid d → IsValid s → one ≡ has d v → one ≡ false → one ≡ has (less d s) v
gone_is one d s v f g e y = let h = has_rest d s v f g in grind arith

pub cut_within : (ds : Boxes) (c : Literals) (x : ℕ) → x < length (cut ds c) → x < length ds
cut_within ds c x h = let e = cut_length ds c in omega arith
