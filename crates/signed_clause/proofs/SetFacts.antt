-- What the tests of sets say of their values.
use Rattle.std.proofs.Common.{◌≡◌, ◌↔◌, IsTrue, Bool, true, ◌+ℤ◌, ◌<◌, ◌-◌, ◌&&◌, [], ◌∷◌, ℤ, pos, length, get_or, subst, sym, ap, ◌∙◌, refl, arith}
use Rattle.std.specs.Bool.{Decides}
use Rattle.std.specs.Ordering.{int_eq}
use Rattle.std.proofs.lemmas.Bool.{and_parts}
use Rattle.std.proofs.lemmas.Bool.Decides.{Decides-int_eq}
use Rattle.std.proofs.lemmas.Int.{ints}
use Rattle.signed_clause.specs.Ranges.{Ranges, has, high_from, IsValid, HasNoValue, IsSubset, HaveNoCommonValue, HaveSameValues, IsLeast, IsGreatest, is_nil, Ascends}
use Rattle.signed_clause.specs.SetAlgebra.{meet, less, join, is_disjoint, is_within}
use Rattle.signed_clause.proofs.RangeLaws.{has-below, same_ranges}
use Rattle.signed_clause.proofs.RangeSteps.{high_at, has-meet_valid, has-less_valid, has-join_valid, IsValid-meet, IsValid-less, IsValid-join}

-- a set with no range is one with no value
pub nil_law : (a : Ranges) → IsValid a → IsTrue (is_nil a) ↔ HasNoValue a
nil_law [] s = ((λ h v. refl), (λ h. refl))
nil_law (r ∷ a) s = ((λ h. absurd cc), (λ h. let at = h r.0 in absurd (grind (arith, ints))))

pub disjoint_law : (a b : Ranges) → IsValid a → IsValid b → IsTrue (is_disjoint a b) ↔ HaveNoCommonValue a b
disjoint_law a b s t =
    let law = nil_law (meet a b) (IsValid-meet a b s t) in (
      (λ h v k. let e = has-meet_valid a b s t v in let none = law.0 h v in grind arith),
      (λ h. law.1 (λ v. let e = has-meet_valid a b s t v in let apart = h v in grind arith)),
    )

pub within_law : (a b : Ranges) → IsValid a → IsValid b → IsTrue (is_within a b) ↔ IsSubset a b
within_law a b s t =
    let law = nil_law (less a b) (IsValid-less a b s t) in (
      (λ h v k. let e = has-less_valid a b s t v in let none = law.0 h v in grind arith),
      (λ h. law.1 (λ v. let e = has-less_valid a b s t v in let sub = h v in grind arith)),
    )

-- a set has its own values
pub within_same : (a b : Ranges) → IsValid a → a ≡ b → true ≡ is_within a b
within_same a b s e = sym (subst (λ (z : Ranges). IsTrue (is_within a z)) e ((within_law a a s s).1 (λ v k. k)))

-- valid sets with the same values are the same list
pub same_law : (a b : Ranges) → IsValid a → IsValid b → (a ≡ b) ↔ HaveSameValues a b
same_law a b s t = ((λ e v. ap (λ (z : Ranges). has z v) e), (λ h. same_ranges a b _ _ _ _ s t h))

-- `==` at ranges
pub pair_decides : (a b : ℤ × ℤ) → Decides (int_eq a.0 b.0 && int_eq a.1 b.1) (a ≡ b)
pair_decides (a, a') (b, b') = (
  (λ h. let p = and_parts (int_eq a b) (int_eq a' b') h in let first = (Decides-int_eq a b).0 p.0 in let last = (Decides-int_eq a' b').0 p.1 in cc),
  (λ e. let first = (Decides-int_eq a b).1 (ap (λ (z : ℤ × ℤ). z.0) e) in let last = (Decides-int_eq a' b').1 (ap (λ (z : ℤ × ℤ). z.1) e) in rw (first, last) refl),
)

-- the test of a set's values, made at lists that are the sets
pub is_nil_values : (a x : Ranges) (b : Bool) → IsValid a → x ≡ a → b ≡ is_nil x → IsTrue b ↔ HasNoValue a
is_nil_values a x b s ex e = subst (λ (z : Bool). IsTrue z ↔ HasNoValue a) (sym (e ∙ ap (λ (z : Ranges). is_nil z) ex)) (nil_law a s)

pub disjoint_values : (a b x y : Ranges) (r : Bool) → IsValid a → IsValid b → x ≡ a → y ≡ b → r ≡ is_disjoint x y → IsTrue r ↔ HaveNoCommonValue a b
disjoint_values a b x y r s t ex ey e = let is : r ≡ is_disjoint a b = cc in subst (λ (z : Bool). IsTrue z ↔ HaveNoCommonValue a b) (sym is) (disjoint_law a b s t)

pub within_values : (a b x y : Ranges) (r : Bool) → IsValid a → IsValid b → x ≡ a → y ≡ b → r ≡ is_within x y → IsTrue r ↔ IsSubset a b
within_values a b x y r s t ex ey e = let is : r ≡ is_within a b = cc in subst (λ (z : Bool). IsTrue z ↔ IsSubset a b) (sym is) (within_law a b s t)

pub least_of_span : (low top : ℤ) (r : ℤ × ℤ) (rs : Ranges) → Ascends low top (r ∷ rs) → IsLeast (r ∷ rs) r.0
least_of_span low top r rs s = record {
  member = grind (arith, ints);
  none_below = λ w h. let below = has-below (r.1 +ℤ pos 2) top rs w s.2 in grind (arith, ints);
}

-- the first range begins with the least value
pub least_law : (self xs : Ranges) → IsValid self → xs ≡ self → 0 < length xs → IsLeast self (get_or xs 0 (pos 0, pos 0)).0
least_law self [] s e h = absurd (omega arith)
least_law self (r ∷ rs) s e h = subst (λ (z : Ranges). IsLeast z r.0) e (least_of_span _ _ r rs (subst IsValid (sym e) s))

pub greatest_in : (low top : ℤ) (r : ℤ × ℤ) (rs : Ranges) → Ascends low top (r ∷ rs) → IsGreatest (r ∷ rs) (high_from r.1 rs)
greatest_in low top r [] s = record {
  member = grind (arith, ints);
  none_above = λ w h. grind (arith, ints);
}
greatest_in low top r (q ∷ rs) s =
    let rest = greatest_in (r.1 +ℤ pos 2) top q rs s.2 in
    let here = rest.none_above q.1 in
    record {
      member = let m = rest.member in grind (arith, ints);
      none_above = λ w h. let more = rest.none_above w in let first = rest.none_above q.0 in grind (arith, ints);
    }

-- the last range ends with the greatest value
pub greatest_law : (self xs : Ranges) → IsValid self → xs ≡ self → 0 < length xs → IsGreatest self (get_or xs (length xs - 1) (pos 0, pos 0)).1
greatest_law self [] s e h = absurd (omega arith)
greatest_law self (r ∷ rs) s e h =
    let at = high_at r.1 (r ∷ rs) (length (r ∷ rs) - 1) (omega arith) in
    subst (λ (z : Ranges). IsGreatest z (get_or (r ∷ rs) (length (r ∷ rs) - 1) (pos 0, pos 0)).1) e
    (subst (λ (w : ℤ). IsGreatest (r ∷ rs) w) at (greatest_in _ _ r rs (subst IsValid (sym e) s)))

-- what two sets have in common, where one is within the other
pub meet_first : (a b : Ranges) → IsValid a → IsValid b → IsSubset a b → a ≡ meet a b
meet_first a b s t h = same_ranges a (meet a b) _ _ _ _ s (IsValid-meet a b s t) (λ v. let e = has-meet_valid a b s t v in let sub = h v in grind arith)

pub meet_second : (a b : Ranges) → IsValid a → IsValid b → IsSubset b a → b ≡ meet a b
meet_second a b s t h = same_ranges b (meet a b) _ _ _ _ t (IsValid-meet a b s t) (λ v. let e = has-meet_valid a b s t v in let sub = h v in grind arith)

-- what they have together
pub join_first : (a b : Ranges) → IsValid a → IsValid b → IsSubset b a → a ≡ join a b
join_first a b s t h = same_ranges a (join a b) _ _ _ _ s (IsValid-join a b s t) (λ v. let e = has-join_valid a b s t v in let sub = h v in grind arith)

pub join_second : (a b : Ranges) → IsValid a → IsValid b → IsSubset a b → b ≡ join a b
join_second a b s t h = same_ranges b (join a b) _ _ _ _ t (IsValid-join a b s t) (λ v. let e = has-join_valid a b s t v in let sub = h v in grind arith)
