-- The box of a pick: each of its values is one of an item's.
use Rattle.std.proofs.Common.{◌≡◌, ℕ, zero, suc, ◌<◌, Bool, true, false, ◌||◌, List, [], ◌∷◌, ℤ, ◌≤ℤ◌, length, All, refl, sym, ap, ◌∙◌, subst, arith}
use Rattle.std.proofs.lemmas.Int.{ints}
use Rattle.signed_clause.specs.Ranges.{Ranges, has, is_nil, IsValid}
use Rattle.signed_clause.specs.SetAlgebra.{join}
use Rattle.signed_clause.specs.Clauses.{Boxes, box_of}
use Rattle.signed_clause.proofs.RangeLaws.{has-join, Ascends-join}
use Rattle.signed_clause.proofs.SetFacts.{greatest_in}
use Rattle.ground_form.specs.Bounds.{low_of, high_of, LiesWithin}
use Rattle.ground_form.proofs.Ends.{low_le, le_high}
use Rattle.ground_build.specs.NewDomains.{picked_domain}
use Rattle.form_build.proofs.Joins.{low_there}

either_holds : (P : Type 0) (p q : Bool) → (p ≡ true → P) → (q ≡ true → P) → (p || q) ≡ true → P
either_holds P true q f g h = f refl
either_holds P false q f g h = g h

-- what holds of all values of the items' boxes holds of all values of the pick's
pub picked_all : (P : ℤ → Type 0) (made : Ranges) (items : List (ℤ × ℕ)) (boxes : Boxes) → IsValid made → All (λ d. IsValid d) boxes → All (λ t. t.1 < length boxes) items → ((v : ℤ) → has made v ≡ true → P v) → All (λ t. (v : ℤ) → has (box_of boxes t.1) v ≡ true → P v) items → (v : ℤ) → has (picked_domain made items boxes) v ≡ true → P v
picked_all P made [] boxes valid sets there old h v e = old v e
picked_all P made (t ∷ ts) boxes valid sets there old h v e =
    let own : IsValid (box_of boxes t.1) = sets t.1 [] (there 0 t (omega arith)) in
    picked_all P (join made (box_of boxes t.1)) ts boxes (Ascends-join made (box_of boxes t.1) _ _ valid own) sets (λ k d lt. there (suc k) d (omega (arith, lt)))
    (λ w m. either_holds (P w) (has made w) (has (box_of boxes t.1) w) (old w) (h 0 t (omega arith) w) (sym (has-join made (box_of boxes t.1) _ _ w valid own) ∙ m))
    (λ k d lt. h (suc k) d (omega (arith, lt))) v e

high_there : (s : Ranges) → IsValid s → is_nil s ≡ false → has s (high_of s) ≡ true
high_there [] v h = absurd cc
high_there (r ∷ rs) v h = (greatest_in _ _ r rs v).member

-- a set whose values lie from low to high
pub within_ends : (low high : ℤ) (s : Ranges) → IsValid s → is_nil s ≡ false → ((v : ℤ) → has s v ≡ true → (low ≤ℤ v) × (v ≤ℤ high)) → LiesWithin low high s
within_ends low high s valid some h = ((h (low_of s) (low_there s valid some)).0, (h (high_of s) (high_there s valid some)).1)

-- a pick lies where all its items do
pub picked_within : (low high : ℤ) (items : List (ℤ × ℕ)) (boxes : Boxes) (values : Ranges) → values ≡ picked_domain [] items boxes → IsValid values → is_nil values ≡ false → All (λ d. IsValid d) boxes → All (λ t. t.1 < length boxes) items → All (λ t. LiesWithin low high (box_of boxes t.1)) items → LiesWithin low high values
picked_within low high items boxes values e valid some sets there h =
    within_ends low high values valid some
    (λ v m. picked_all (λ w. (low ≤ℤ w) × (w ≤ℤ high)) [] items boxes (omega (arith, ints)) sets there (λ w n. absurd cc)
    (λ k d lt w n.
    let own = sets _ [] (there k d lt) in
    let least = low_le _ w own n in
    let greatest = le_high _ w own n in
    let lies = h k d lt in
    (omega (arith, ints, lies.0, least), omega (arith, ints, lies.1, greatest)))
    v (subst (λ (z : Ranges). has z v ≡ true) e m))
