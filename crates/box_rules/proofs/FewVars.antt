-- No interval holds more boxes than there are variables.
use Rattle.std.proofs.Common.{◌≡◌, ℕ, suc, ◌≤◌, true, false, ◌&&◌, cond, List, [], ◌∷◌, ℤ, pos, ◌+ℤ◌, ◌-ℤ◌, length, arith}
use Rattle.std.specs.Prelude.{int_le, int_lt}
use Rattle.std.proofs.lemmas.Int.{ints}
use Rattle.signed_clause.specs.Clauses.{Boxes, box_of}
use Rattle.box_rules.specs.Refuted.{lies_in, count_in, crowded}

few : (a b : ℤ) (xs : List ℕ) (boxes : Boxes) → count_in a b xs boxes ≤ length xs
few a b [] boxes = omega arith
few a b (x ∷ xs) boxes =
    let more = few a b xs boxes in
    elim (lies_in a b (box_of boxes x)) as (λ t. cond t (suc (count_in a b xs boxes)) (count_in a b xs boxes) ≤ length (x ∷ xs)) [
      | true ↦ omega arith
      | false ↦ omega arith
    ]

-- so one of as many numbers as there are variables isn't crowded
pub no_more : (a b : ℤ) (xs : List ℕ) (boxes : Boxes) → (int_le a b && int_lt ((b -ℤ a) +ℤ pos 1) (pos (length xs))) ≡ false → crowded a b xs boxes ≡ false
no_more a b xs boxes h = let n = few a b xs boxes in grind (arith, ints)
