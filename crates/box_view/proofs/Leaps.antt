-- Leaps from the values of one to those of another.
use Rattle.std.proofs.Common.{◌≡◌, Bool, true, false, ◌&&◌, ℤ, ◌≤ℤ◌, ◌<ℤ◌, arith, refl, subst, sym}
use Rattle.std.specs.Prelude.{int_lt}
use Rattle.std.proofs.lemmas.Int.{ints}
use Rattle.box_view.specs.Firsts.{IsFirst, HasNoneFrom, IsLast, HasNoneTo}

left_false : (a b : Bool) → a ≡ false → (a && b) ≡ false
left_false a b h = grind arith

right_false : (a b : Bool) → b ≡ false → (a && b) ≡ false
right_false a b h = grind arith

pub none_of_first : (A B : ℤ → Bool) (v : ℤ) → HasNoneFrom A v → HasNoneFrom (λ u. A u && B u) v
none_of_first A B v h u k l = left_false (A u) (B u) (h u k l)

pub none_of_last : (A B : ℤ → Bool) (v : ℤ) → HasNoneTo A v → HasNoneTo (λ u. A u && B u) v
none_of_last A B v h u k l = left_false (A u) (B u) (h u k l)

split_at : (u w : ℤ) (P : Type 0) → (u <ℤ w → P) → (w ≤ℤ u → P) → P
split_at u w P h k =
    (elim (int_lt u w) as (λ b. int_lt u w ≡ b → P) [ true ↦ λ e. h (grind (arith, ints)) | false ↦ λ e. k (grind (arith, ints)) ]) refl

pub none_of_second : (A B : ℤ → Bool) (v w : ℤ) → IsFirst A v w → HasNoneFrom B w → HasNoneFrom (λ u. A u && B u) v
none_of_second A B v w f h u k l =
    split_at u w ((A u && B u) ≡ false) (λ less. left_false (A u) (B u) (f.none_before u k less)) (λ more. right_false (A u) (B u) (h u more l))

pub none_of_second_last : (A B : ℤ → Bool) (v w : ℤ) → IsLast A v w → HasNoneTo B w → HasNoneTo (λ u. A u && B u) v
none_of_second_last A B v w f h u l k =
    split_at w u ((A u && B u) ≡ false) (λ more. left_false (A u) (B u) (f.none_after u more k)) (λ less. right_false (A u) (B u) (h u l less))

-- no number passed over passes both
pub skipped : (A B : ℤ → Bool) (from at one other : ℤ) → IsFirst A at one → IsFirst B one other → ((u : ℤ) → from ≤ℤ u → u <ℤ at → (A u && B u) ≡ false) →
    (u : ℤ) → from ≤ℤ u → u <ℤ other → (A u && B u) ≡ false
skipped A B from at one other f g h u k l =
    split_at u at ((A u && B u) ≡ false) (λ less. h u k less)
    (λ on. split_at u one ((A u && B u) ≡ false) (λ less. left_false (A u) (B u) (f.none_before u on less)) (λ more. right_false (A u) (B u) (g.none_before u more l)))

pub skipped_back : (A B : ℤ → Bool) (from at one other : ℤ) → IsLast A at one → IsLast B one other → ((u : ℤ) → at <ℤ u → u ≤ℤ from → (A u && B u) ≡ false) →
    (u : ℤ) → other <ℤ u → u ≤ℤ from → (A u && B u) ≡ false
skipped_back A B from at one other f g h u l k =
    split_at at u ((A u && B u) ≡ false) (λ more. h u more k)
    (λ on. split_at one u ((A u && B u) ≡ false) (λ more. left_false (A u) (B u) (f.none_after u more on)) (λ less. right_false (A u) (B u) (g.none_after u l less)))

both_true : (a b : Bool) → a ≡ true → b ≡ true → (a && b) ≡ true
both_true a b h k = grind arith

-- where both agree, that is the first common value
pub agreed : (A B : ℤ → Bool) (from at one other : ℤ) → IsFirst A at one → IsFirst B one other → one ≡ other → from ≤ℤ at → ((u : ℤ) → from ≤ℤ u → u <ℤ at → (A u && B u) ≡ false) →
    IsFirst (λ u. A u && B u) from one
agreed A B from at one other f g e h n =
    let bound = f.from in
    record {
      passes = both_true (A one) (B one) f.passes (subst (λ (z : ℤ). B z ≡ true) (sym e) g.passes);
      from = omega (arith, ints);
      none_before = λ u k l. skipped A B from at one other f g n u k (omega (arith, ints));
    }

pub agreed_back : (A B : ℤ → Bool) (from at one other : ℤ) → IsLast A at one → IsLast B one other → one ≡ other → at ≤ℤ from → ((u : ℤ) → at <ℤ u → u ≤ℤ from → (A u && B u) ≡ false) →
    IsLast (λ u. A u && B u) from one
agreed_back A B from at one other f g e h n =
    let bound = f.upto in
    record {
      passes = both_true (A one) (B one) f.passes (subst (λ (z : ℤ). B z ≡ true) (sym e) g.passes);
      upto = omega (arith, ints);
      none_after = λ u l k. skipped_back A B from at one other f g n u (omega (arith, ints)) k;
    }

-- none before and none from there on is none at all
pub none_at_all : (A : ℤ → Bool) (from at : ℤ) → HasNoneFrom A at → ((u : ℤ) → from ≤ℤ u → u <ℤ at → A u ≡ false) → HasNoneFrom A from
none_at_all A from at h n u k l = split_at u at (A u ≡ false) (λ less. n u k less) (λ more. h u more l)

pub none_at_all_back : (A : ℤ → Bool) (from at : ℤ) → HasNoneTo A at → ((u : ℤ) → at <ℤ u → u ≤ℤ from → A u ≡ false) → HasNoneTo A from
none_at_all_back A from at h n u l k = split_at at u (A u ≡ false) (λ more. n u more k) (λ less. h u l less)
