-- Two numbers that ascend, as a list.
use Rattle.std.proofs.Common.{ℕ, zero, suc, ◌<◌, [], ◌∷◌, All, AllPairs, arith}

pub two_ascend : (a b : ℕ) → a < b → AllPairs ◌<◌ (a ∷ b ∷ [])
two_ascend a b h zero zero d i j = absurd (omega (arith, i))
two_ascend a b h zero (suc zero) d i j = h
two_ascend a b h zero (suc (suc k)) d i j = absurd (omega (arith, j))
two_ascend a b h (suc m) k d i j = absurd (omega (arith, i, j))

pub two_are_there : (a b n : ℕ) → a < b → b < n → All (λ k. k < n) (a ∷ b ∷ [])
two_are_there a b n h g zero d i = omega (arith, h, g)
two_are_there a b n h g (suc zero) d i = g
two_are_there a b n h g (suc (suc k)) d i = absurd (omega (arith, i))
