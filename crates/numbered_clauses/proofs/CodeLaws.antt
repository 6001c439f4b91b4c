-- What is written is read back.
use Rattle.std.proofs.Common.{◌≡◌, Bool, ℕ, zero, suc, ◌+◌, ◌-◌, ◌*◌, ◌/◌, ◌%◌, ◌^◌, ◌<◌, ◌≤◌, true, false, List, [], ◌∷◌, ◌++◌, ℤ, pos, negsuc, length, refl, sym, ap, ◌∙◌, arith, nat_lt, int_lt}
use Rattle.std.specs.List.{AllByRecursion}
use Rattle.std.proofs.lemmas.Bool.{lt-ltb, le-ltb, ltb-true}
use Rattle.numbered_clauses.specs.Numbers.{coded, number_bytes, number_of, behind_number, unsigned_of, signed_of}
use Rattle.std.proofs.lemmas.List.{append_assoc}
use Rattle.std.proofs.Math.Nat.{mod-eq_of_lt}
use Rattle.numbered_clauses.specs.Coded.{range_bytes, ranges_bytes, set_bytes, literal_bytes, literals_bytes, clause_bytes, range_at, behind_range, literal_at, behind_literal, ranges_at, behind_ranges, set_at, behind_set, literals_at, clause_in, FitsRange, FitsSet, FitsLiteral, FitsClause}
use Rattle.signed_clause.specs.Ranges.{Ranges}
use Rattle.signed_clause.specs.Clauses.{Literal, Literals}

-- ---- numbers

even : (m n : ℕ) → m ≡ 2 * n → signed_of m ≡ pos n
even m n e =
    let rest : m % 2 ≡ 0 = omega arith in
    let half : m / 2 ≡ n = omega arith in
    rw (rest, half) refl

odd : (m n : ℕ) → m ≡ 2 * n + 1 → signed_of m ≡ negsuc n
odd m n e =
    let rest : m % 2 ≡ 1 = omega arith in
    let half : m / 2 ≡ n = omega arith in
    rw (rest, half) refl

from_zero : (n : ℕ) → unsigned_of (pos n) ≡ 2 * n
from_zero n = let f : int_lt (pos n) (pos 0) ≡ false = le-ltb n 0 (omega arith) in rw f refl

below_zero : (n : ℕ) → unsigned_of (negsuc n) ≡ 2 * n + 1
below_zero n = let one : suc n - 1 ≡ n = omega arith in ap (λ (k : ℕ). 2 * k + 1) one

pub signed_back : (v : ℤ) → signed_of (unsigned_of v) ≡ v
signed_back (pos n) = even (unsigned_of (pos n)) n (from_zero n)
signed_back (negsuc n) = odd (unsigned_of (negsuc n)) n (below_zero n)

digit_low : (m : ℕ) → nat_lt (m % 128) 128 ≡ true
digit_low m = lt-ltb (m % 128) 128 (omega arith)

last_high : (m : ℕ) → nat_lt (m % 128 + 128) 128 ≡ false
last_high m = le-ltb (m % 128 + 128) 128 (omega arith)

-- the least number that has more digits
abbrev room : ℕ → ℕ
room zero = 128
room (suc n) = 128 * room n

more_digits : (n m : ℕ) (more : List ℕ) (b : Bool) → nat_lt m 128 ≡ b → (b ≡ false → number_of (coded n (m / 128) ++ more) ≡ m / 128) → m < 2 ^ 64 →
    number_of (coded (suc n) m ++ more) ≡ m
more_digits n m more true e back h =
    let low = ltb-true m 128 e in
    let same : m % 128 + 128 - 128 ≡ m = omega arith in
    rw (e, last_high m, same) refl
more_digits n m more false e back h =
    let same : m / 128 % 2 ^ 57 * 128 + m % 128 ≡ m = omega arith in
    rw (e, digit_low m, back refl, same) refl

number_back : (n m : ℕ) (more : List ℕ) → m < 2 ^ 64 → m < room n → number_of (coded n m ++ more) ≡ m
number_back zero m more h r =
    let low : m < 128 = r in
    let same : m % 128 + 128 - 128 ≡ m = omega arith in
    rw (last_high m, same) refl
number_back (suc n) m more h r =
    let low : m < 128 * room n = r in
    more_digits n m more (nat_lt m 128) refl (λ _. number_back n (m / 128) more (omega arith) (omega arith)) h

behind_digits : (n m : ℕ) (more : List ℕ) (b : Bool) → nat_lt m 128 ≡ b → behind_number (coded n (m / 128) ++ more) ≡ more → behind_number (coded (suc n) m ++ more) ≡ more
behind_digits n m more true e back = rw (e, last_high m) refl
behind_digits n m more false e back = rw (e, digit_low m) back

behind_back : (n m : ℕ) (more : List ℕ) → behind_number (coded n m ++ more) ≡ more
behind_back zero m more = rw (last_high m) refl
behind_back (suc n) m more = behind_digits n m more (nat_lt m 128) refl (behind_back n (m / 128) more)

pub number_read : (m : ℕ) (more : List ℕ) → m < 2 ^ 64 → number_of (number_bytes m ++ more) ≡ m
unfolding number_bytes
number_read m more h = number_back 9 m more h (omega arith)

pub number_past : (m : ℕ) (more : List ℕ) → behind_number (number_bytes m ++ more) ≡ more
unfolding number_bytes
number_past m more = behind_back 9 m more

-- ---- the digits of a number, one by one

less_one : (n : ℕ) → suc n - 1 ≡ n
less_one n = omega arith

next_digit : (k m : ℕ) → 0 < k → 128 ≤ m → coded k m ≡ (m % 128) ∷ coded (k - 1) (m / 128)
next_digit zero m h g = absurd (omega arith)
next_digit (suc k) m h g = let high : nat_lt m 128 ≡ false = le-ltb m 128 g in rw (high, less_one k) refl

pub digits_more : (old now after : List ℕ) (k m : ℕ) → 0 < k → 128 ≤ m → now ≡ old ++ (m % 128) ∷ [] → after ≡ now ++ coded (k - 1) (m / 128) → after ≡ old ++ coded k m
digits_more old now after k m h g pushed rest =
    rest ∙ ap (λ (z : List ℕ). z ++ coded (k - 1) (m / 128)) pushed
    ∙ append_assoc old ((m % 128) ∷ []) (coded (k - 1) (m / 128))
    ∙ ap (λ (z : List ℕ). old ++ z) (sym (next_digit k m h g))

-- ---- ranges, sets, literals and clauses

range_read : (r : ℤ × ℤ) (more : List ℕ) → FitsRange r → range_at (range_bytes r ++ more) ≡ r
range_read r more f =
    let low = number_bytes (unsigned_of r.0) in
    let high = number_bytes (unsigned_of r.1) in
    rw (append_assoc low high more, number_read (unsigned_of r.0) (high ++ more) f.0, number_past (unsigned_of r.0) (high ++ more), number_read (unsigned_of r.1) more f.1, signed_back r.0, signed_back r.1) refl

range_past : (r : ℤ × ℤ) (more : List ℕ) → behind_range (range_bytes r ++ more) ≡ more
range_past r more =
    let low = number_bytes (unsigned_of r.0) in
    let high = number_bytes (unsigned_of r.1) in
    rw (append_assoc low high more, number_past (unsigned_of r.0) (high ++ more)) (number_past (unsigned_of r.1) more)

ranges_read : (rs : Ranges) (more : List ℕ) → AllByRecursion FitsRange rs → ranges_at (length rs) (ranges_bytes rs ++ more) ≡ rs
ranges_read [] more f = refl
ranges_read (r ∷ rs) more f =
    rw (append_assoc (range_bytes r) (ranges_bytes rs) more)
    (ap (λ (x : ℤ × ℤ). x ∷ ranges_at (length rs) (behind_range (range_bytes r ++ (ranges_bytes rs ++ more)))) (range_read r (ranges_bytes rs ++ more) f.0)
    ∙ ap (λ (z : Ranges). r ∷ z) (ap (ranges_at (length rs)) (range_past r (ranges_bytes rs ++ more)) ∙ ranges_read rs more f.1))

ranges_past : (rs : Ranges) (more : List ℕ) → behind_ranges (length rs) (ranges_bytes rs ++ more) ≡ more
ranges_past [] more = refl
ranges_past (r ∷ rs) more =
    rw (append_assoc (range_bytes r) (ranges_bytes rs) more)
    (ap (behind_ranges (length rs)) (range_past r (ranges_bytes rs ++ more)) ∙ ranges_past rs more)

set_read : (rs : Ranges) (more : List ℕ) → FitsSet rs → set_at (set_bytes rs ++ more) ≡ rs
set_read rs more f =
    let count = number_bytes (length rs) in
    rw (append_assoc count (ranges_bytes rs) more, number_read (length rs) (ranges_bytes rs ++ more) f.0, number_past (length rs) (ranges_bytes rs ++ more)) (ranges_read rs more f.1)

set_past : (rs : Ranges) (more : List ℕ) → FitsSet rs → behind_set (set_bytes rs ++ more) ≡ more
set_past rs more f =
    let count = number_bytes (length rs) in
    rw (append_assoc count (ranges_bytes rs) more, number_read (length rs) (ranges_bytes rs ++ more) f.0, number_past (length rs) (ranges_bytes rs ++ more)) (ranges_past rs more)

literal_read : (l : Literal) (more : List ℕ) → FitsLiteral l → literal_at (literal_bytes l ++ more) ≡ l
literal_read l more f =
    let var = number_bytes l.0 in
    let same : l.0 % 2 ^ 32 ≡ l.0 = mod-eq_of_lt f.0 in
    rw (append_assoc var (set_bytes l.1) more, number_read l.0 (set_bytes l.1 ++ more) (omega arith), number_past l.0 (set_bytes l.1 ++ more), same, set_read l.1 more f.1) refl

literal_past : (l : Literal) (more : List ℕ) → FitsLiteral l → behind_literal (literal_bytes l ++ more) ≡ more
literal_past l more f =
    let var = number_bytes l.0 in
    rw (append_assoc var (set_bytes l.1) more, number_past l.0 (set_bytes l.1 ++ more)) (set_past l.1 more f.1)

literals_read : (c : Literals) (more : List ℕ) → AllByRecursion FitsLiteral c → literals_at (length c) (literals_bytes c ++ more) ≡ c
literals_read [] more f = refl
literals_read (l ∷ c) more f =
    rw (append_assoc (literal_bytes l) (literals_bytes c) more)
    (ap (λ (x : Literal). x ∷ literals_at (length c) (behind_literal (literal_bytes l ++ (literals_bytes c ++ more)))) (literal_read l (literals_bytes c ++ more) f.0)
    ∙ ap (λ (z : Literals). l ∷ z) (ap (literals_at (length c)) (literal_past l (literals_bytes c ++ more) f.0) ∙ literals_read c more f.1))

pub clause_read : (c : Literals) (more : List ℕ) → FitsClause c → clause_in (clause_bytes c ++ more) ≡ c
clause_read c more f =
    let count = number_bytes (length c) in
    rw (append_assoc count (literals_bytes c) more, number_read (length c) (literals_bytes c ++ more) f.0, number_past (length c) (literals_bytes c ++ more)) (literals_read c more f.1)
