-- What stands in the text of a number, and what a text that begins with a sign comes to.
use Rattle.std.proofs.Common.{◌≡◌, ◌==◌, ℕ, suc, ◌<◌, ◌≤◌, ◌^◌, true, false, List, [], ◌∷◌, drop, refl, sym, ap, ◌∙◌, arith, Option, Some, None, IfNone, ℤ, pos, negsuc, decimal}
use Rattle.std.specs.Char.{is_ascii_digit}
use Rattle.std.specs.Str.{all_ascii_digits}
use Rattle.std.specs.Fmt.{signed_decimal}
use lib.Signed.{mag}
use Rattle.std.proofs.lemmas.Int.{ints}
use Rattle.std.proofs.lemmas.Bool.{and_parts, ne_eqb}
use Rattle.decimal_text.proofs.Digits.{own}
use Rattle.proof_log.specs.Spelling.{IsSigned, lacks}
use Rattle.std.proofs.lemmas.Fmt.{digits_decimal, signed_decimal_injective}

-- a text of digits lacks what is no digit
lacks_digits : (s : ℕ) (ds : List ℕ) → is_ascii_digit s ≡ false → all_ascii_digits ds ≡ true → lacks s ds ≡ true
lacks_digits s [] h d = refl
lacks_digits s (c ∷ cs) h d =
    let p = and_parts (is_ascii_digit c) (all_ascii_digits cs) d in
    let more = lacks_digits s cs h p.1 in
    let apart : (c == s) ≡ false = ne_eqb c s (λ e. let k = ap is_ascii_digit e in absurd cc) in
    rw (apart, more) refl

pub lacks-decimal : (s n : ℕ) → n < 2 ^ 64 → is_ascii_digit s ≡ false → lacks s (decimal n) ≡ true
lacks-decimal s n h d = lacks_digits s (decimal n) d (digits_decimal own n h)

pub lacks-signed : (s : ℕ) (v : ℤ) → IsSigned v → is_ascii_digit s ≡ false → (s ≡ 45 → ⊥) → lacks s (signed_decimal v) ≡ true
lacks-signed s (pos n) h d e = lacks-decimal s n (omega (arith, ints)) d
lacks-signed s (negsuc n) h d e =
    let apart : (45 == s) ≡ false = ne_eqb 45 s (λ k. e (sym k)) in
    rw (apart, lacks-decimal s (suc n) (omega (arith, ints)) d) refl

-- ---- values

mag_bound : (v : ℤ) → IsSigned v → mag v < 2 ^ 63
mag_bound (pos n) h = omega (arith, ints)
mag_bound (negsuc n) h = omega (arith, ints)

pub signed_apart : (v w : ℤ) → IsSigned v → IsSigned w → signed_decimal v ≡ signed_decimal w → v ≡ w
signed_apart v w h k e = signed_decimal_injective v w (mag_bound v h) (mag_bound w k) e

pub no_sign : (text rest : List ℕ) (n : ℕ) → n < 2 ^ 64 → text ≡ 45 ∷ rest → text ≡ decimal n → ⊥
no_sign text rest n h s e = let d : all_ascii_digits (decimal n) ≡ true = digits_decimal own n h in let k : false ≡ all_ascii_digits (decimal n) = ap all_ascii_digits (sym s ∙ e) in absurd cc

-- a text that begins with `-` is that of a value below 0 alone
pub below_none : (text rest : List ℕ) (v : ℤ) → text ≡ 45 ∷ rest → ((n : ℕ) → n < 2 ^ 64 → 0 < n → n ≤ 2 ^ 63 → rest ≡ decimal n → ⊥) → IsSigned v → text ≡ signed_decimal v → ⊥
below_none text rest (pos n) s none h e = no_sign text rest n (omega (arith, ints)) s e
below_none text rest (negsuc n) s none h e =
    let k : 45 ∷ rest ≡ 45 ∷ decimal (suc n) = sym s ∙ e in
    none (suc n) (omega (arith, ints)) (omega arith) (omega (arith, ints)) cc

-- and one that does not is that of a value from 0 on
pub from_none : (text : List ℕ) (v : ℤ) → (text ≡ 45 ∷ drop 1 text → ⊥) → ((n : ℕ) → n < 2 ^ 63 → text ≡ decimal n → ⊥) → IsSigned v → text ≡ signed_decimal v → ⊥
from_none text (pos n) s none h e = none n (omega (arith, ints)) e
from_none text (negsuc n) s none h e = s (let k : drop 1 text ≡ decimal (suc n) = ap (drop 1) e in cc)

-- what a value's text comes to, by its first byte
pub value_below : (text rest : List ℕ) (r : Option ℤ) → text ≡ 45 ∷ drop 1 text → rest ≡ drop 1 text →
    IfNone r ((n : ℕ) → 0 < n → n ≤ 2 ^ 63 → rest ≡ decimal n → ⊥) → IfNone r ((v : ℤ) → IsSigned v → text ≡ signed_decimal v → ⊥)
value_below text rest (Some x) s e h = tt
value_below text rest None s e h = λ v k f. below_none text (drop 1 text) v s (λ n lt p b d. h n p b (e ∙ d)) k f

pub value_from : (text : List ℕ) (r : Option ℤ) → (text ≡ 45 ∷ drop 1 text → ⊥) →
    IfNone r ((n : ℕ) → n < 2 ^ 63 → text ≡ decimal n → ⊥) → IfNone r ((v : ℤ) → IsSigned v → text ≡ signed_decimal v → ⊥)
value_from text (Some x) s h = tt
value_from text None s h = λ v k f. from_none text v s (λ n lt d. h n lt d) k f
