-- The difference of two sums, compared with 0.
use Rattle.std.proofs.Common.{◌≡◌, ℕ, ◌≤◌, ◌^◌, ℤ, pos, negsuc, ◌+ℤ◌, ◌-ℤ◌, ◌*ℤ◌, int_le, int_lt, List, arith}
use Rattle.std.specs.Ordering.{int_eq}
use Rattle.std.proofs.lemmas.Int.{ints}
use Rattle.conf_eval.specs.Meaning.{int_same}
use Rattle.signed_clause.specs.Clauses.{Boxes}
use Rattle.form_build.specs.declared.form.Linear.{Linear}
use Rattle.form_build.specs.Forms.{linear_at}
use Rattle.form_build.specs.Sums.{IsLinear, AreNumbersWithin}
use Rattle.form_build.proofs.Linears.{numbers_within, minus_one}

-- a sum that fits can be turned and added up
pub fits_times : (boxes : Boxes) (f : Linear) → IsLinear (2 ^ 58) boxes f → AreNumbersWithin 1 (2 ^ 62) f
fits_times boxes f h = numbers_within boxes (2 ^ 58) (2 ^ 62) f (omega arith) h

pub fits_plus : (boxes : Boxes) (n : ℕ) (f : Linear) → n ≤ 2 ^ 61 → IsLinear n boxes f → AreNumbersWithin 1 (2 ^ 61) f
fits_plus boxes n f lt h = numbers_within boxes n (2 ^ 61) f lt h

pub less_value : (f g less r : Linear) (a : List ℤ) → linear_at less a ≡ negsuc 0 *ℤ linear_at g a → linear_at r a ≡ linear_at f a +ℤ linear_at less a → linear_at r a ≡ linear_at f a -ℤ linear_at g a
less_value f g less r a e h =
    let m = minus_one (linear_at g a) in
    omega (arith, ints, e, h, m)

pub at_most_of : (v w d : ℤ) → d ≡ v -ℤ w → int_le d (pos 0) ≡ int_le v w
at_most_of v w d e = grind (arith, ints)

pub less_of : (v w d m : ℤ) → d ≡ v -ℤ w → m ≡ d +ℤ pos 1 → int_le m (pos 0) ≡ int_lt v w
less_of v w d m e h = grind (arith, ints)

pub same_of : (v w d : ℤ) → d ≡ v -ℤ w → int_eq d (pos 0) ≡ int_same v w
same_of v w d e = grind (arith, ints)
