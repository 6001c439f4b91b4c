-- Numbers as bytes. What a reader believes after this file: which bytes a number is written as, and
-- which number bytes begin with.
use Rattle.std.specs.Prelude.{ℕ, zero, suc, ◌+◌, ◌-◌, ◌*◌, ◌/◌, ◌%◌, ◌^◌, cond, List, [], ◌∷◌, ℤ, pos, negsuc, nat_lt, ◌==◌, int_lt, unsigned_abs}

-- the digits of seven bits, the least first, of which at most n stand behind the first; the last
-- one has 128 added
abbrev pub coded : ℕ → ℕ → List ℕ
coded zero m = (m % 128 + 128) ∷ []
coded (suc n) m =
    cond (nat_lt m 128) ((m % 128 + 128) ∷ []) ((m % 128) ∷ coded n (m / 128))

-- the bytes of a number of 64 bits
unfoldable pub number_bytes : ℕ → List ℕ
number_bytes m = coded 9 m

-- the number that bytes begin with
abbrev pub number_of : List ℕ → ℕ
number_of [] = 0
number_of (b ∷ bs) = cond (nat_lt b 128) (number_of bs % 2 ^ 57 * 128 + b) (b - 128)

-- what stands behind it
abbrev pub behind_number : List ℕ → List ℕ
behind_number [] = []
behind_number (b ∷ bs) = cond (nat_lt b 128) (behind_number bs) bs

-- a value with a sign as a number: 0, -1, 1, -2 and so on are 0, 1, 2 and 3
abbrev pub unsigned_of : ℤ → ℕ
unsigned_of v = cond (int_lt v (pos 0)) (2 * (unsigned_abs v - 1) + 1) (2 * unsigned_abs v)

-- the value of such a number
abbrev pub signed_of : ℕ → ℤ
signed_of n = cond (n % 2 == 0) (pos (n / 2)) (negsuc (n / 2))
