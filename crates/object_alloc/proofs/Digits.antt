-- What stands in the text of a number.
use Rattle.std.proofs.Common.{◌≡◌, ◌==◌, ℕ, ◌<◌, ◌^◌, true, false, List, [], ◌∷◌, refl, ap, decimal}
use Rattle.std.specs.Char.{is_ascii_digit}
use Rattle.std.specs.Str.{all_ascii_digits}
use Rattle.std.proofs.lemmas.Bool.{and_parts, ne_eqb}
use Rattle.class_table.specs.Named.{lacks}
use Rattle.decimal_text.proofs.Digits.{own}
use Rattle.std.proofs.lemmas.Fmt.{digits_decimal}

-- a text of digits lacks what is no digit
lacks_digits : (s : ℕ) (ds : List ℕ) → is_ascii_digit s ≡ false → all_ascii_digits ds ≡ true → lacks s ds ≡ true
lacks_digits s [] h d = refl
lacks_digits s (c ∷ cs) h d =
    let p = and_parts (is_ascii_digit c) (all_ascii_digits cs) d in
    let more = lacks_digits s cs h p.1 in
    let apart : (c == s) ≡ false = ne_eqb c s (λ e. let k = ap is_ascii_digit e in absurd cc) in
    rw (apart, more) refl

pub lacks_decimal : (s n : ℕ) → n < 2 ^ 64 → is_ascii_digit s ≡ false → lacks s (decimal n) ≡ true
lacks_decimal s n h d = lacks_digits s (decimal n) d (digits_decimal own n h)
