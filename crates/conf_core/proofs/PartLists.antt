-- Lists of numbers in order.
use Rattle.std.proofs.Common.{◌≡◌, ℕ, zero, suc, ◌+◌, ◌<◌, ◌≤◌, List, [], ◌∷◌, ◌++◌, refl, sym, ap, ◌∙◌, arith, All}
use Rattle.std.specs.List.{AllPairs, Contains, range_with_len}
use Rattle.std.proofs.lemmas.List.Elements.{All-nil, All-cons}
use Rattle.std.proofs.lemmas.List.Kept.{AllPairs-cons}

module _ {X : Type 0} where
  pub contains_here : (x : X) (xs : List X) → Contains (x ∷ xs) x
  contains_here x xs = (0, omega arith, refl)

  pub contains_later : (x y : X) (xs : List X) → Contains xs y → Contains (x ∷ xs) y
  contains_later x y xs h = (suc h.0, (let lt = h.1 in omega arith), h.2)

  pub all_as : (P Q : X → Type 0) (xs : List X) → ((x : X) → P x → Q x) → All P xs → All Q xs
  all_as P Q xs f h k d lt = f _ (h k d lt)

module _ {X : Type 0} (R : X → X → Type 0) where
  pub pairs_nil : AllPairs R []
  pairs_nil i j d before there = absurd (omega arith)

-- ---- numbers in order

range_from : (n a : ℕ) → All (λ k. a ≤ k) (range_with_len a n)
range_from zero a = All-nil (λ k. a ≤ k)
range_from (suc n) a =
    All-cons (λ k. a ≤ k) a (range_with_len (a + 1) n) (omega arith)
    (all_as (λ k. a + 1 ≤ k) (λ k. a ≤ k) (range_with_len (a + 1) n) (λ k le. omega (arith, le))
    (range_from n (a + 1)))

range_ascends : (n a : ℕ) → AllPairs ◌<◌ (range_with_len a n)
range_ascends zero a = pairs_nil ◌<◌
range_ascends (suc n) a =
    AllPairs-cons ◌<◌ a (range_with_len (a + 1) n)
    (all_as (λ k. a + 1 ≤ k) (λ k. a < k) (range_with_len (a + 1) n) (λ k le. omega (arith, le))
    (range_from n (a + 1))) (range_ascends n (a + 1))

range_below : (n a : ℕ) → All (λ k. k < a + n) (range_with_len a n)
range_below zero a = All-nil (λ k. k < a + 0)
range_below (suc n) a =
    All-cons (λ k. k < a + suc n) a (range_with_len (a + 1) n) (omega arith)
    (all_as (λ k. k < a + 1 + n) (λ k. k < a + suc n) (range_with_len (a + 1) n)
    (λ k less. omega (arith, less)) (range_below n (a + 1)))

pub all_ascend : (n : ℕ) → AllPairs ◌<◌ (range_with_len 0 n)
all_ascend n = range_ascends n 0

pub all_exist : (n : ℕ) → All (λ k. k < n) (range_with_len 0 n)
all_exist n = all_as (λ k. k < 0 + n) (λ k. k < n) (range_with_len 0 n)
    (λ k less. omega (arith, less)) (range_below n 0)

pub range_push : (n a : ℕ) → range_with_len a (n + 1) ≡ range_with_len a n ++ (a + n) ∷ []
range_push zero a = let e : a + 0 ≡ a = omega arith in ap (λ m. m ∷ []) (sym e)
range_push (suc n) a =
    let e : a + 1 + n ≡ a + suc n = omega arith in
    let more : suc n + 1 ≡ suc (n + 1) = omega arith in
    ap (λ m. range_with_len a m) more
    ∙ ap (λ ms. a ∷ ms) (range_push n (a + 1) ∙ ap (λ m. range_with_len (a + 1) n ++ m ∷ []) e)
