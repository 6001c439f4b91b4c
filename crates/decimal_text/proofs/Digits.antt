-- Decimal digits, and the numbers that they spell.
use Rattle.std.proofs.Common.{◌≡◌, ℕ, suc, ◌+◌, ◌-◌, ◌*◌, ◌<◌, ◌≤◌, ◌^◌, inl, inr, true, false, List, [], ◌∷◌, length, get_or, drop, drop-cons, sym, ap, ◌∙◌, arith, rules, decimal}
use Rattle.std.specs.Char.{is_ascii_digit}
use Rattle.std.specs.Str.{all_ascii_digits}
use Rattle.std.proofs.Math.Nat.{eq-zero-or-pos}
use Rattle.std.proofs.lemmas.Bool.{and_parts}
use Rattle.std.proofs.lemmas.List.{drop_all}
use Rattle.std.proofs.lemmas.Str.Parse.{IsNumeralModel, numerals_by_fold}
use Rattle.std.proofs.lemmas.Fmt.{digits_decimal, digits_value-decimal, decimal_nonempty, first_decimal, decimal_digit, decimal-digits_value, decimal_injective}

abbrev pub read_on : ℕ → List ℕ → ℕ
read_on n [] = n
read_on n (c ∷ cs) = read_on (10 * n + (c - 48)) cs

-- what the laws of numerals ask of reading on
pub own : IsNumeralModel (λ ds. all_ascii_digits ds ≡ true) (read_on 0)
own = numerals_by_fold _ (search rules) read_on (search rules)

pub read_grows : (n : ℕ) (ds : List ℕ) → n ≤ read_on n ds
read_grows n [] = omega arith
read_grows n (d ∷ ds) = let more = read_grows (10 * n + (d - 48)) ds in omega arith

-- a text that is no digits, or begins with a zero, or is too large, is that of no number
pub no_digits : (text : List ℕ) (n : ℕ) → n < 2 ^ 64 → text ≡ decimal n → all_ascii_digits text ≡ false → ⊥
no_digits text n h e f = let d : all_ascii_digits (decimal n) ≡ true = digits_decimal own n h in cc

pub too_large : (text : List ℕ) (n : ℕ) → n < 2 ^ 64 → text ≡ decimal n → 2 ^ 64 ≤ read_on 0 text → ⊥
too_large text n h e f = let v : read_on 0 (decimal n) ≡ n = digits_value-decimal own n h in let k : read_on 0 text ≡ n = ap (read_on 0) e ∙ v in omega arith

pub not_begun : (text : List ℕ) (n : ℕ) → n < 2 ^ 64 → text ≡ decimal n → ((0 < length text) × (get_or text 0 0 ≡ 48 → length text ≡ 1) → ⊥) → ⊥
not_begun text n h e f =
    let some = decimal_nonempty n h in
    let size = ap length e in
    elim (eq-zero-or-pos n) [
      | inl z ↦ let d = decimal_digit 0 (omega arith) in let k = ap decimal z in let one : length text ≡ 1 = ap length (e ∙ k ∙ d) in f (omega arith, λ _. one)
      | inr p ↦ let d = first_decimal n p h in let k = ap (λ t. get_or t 0 0) e in f (omega arith, λ g. absurd (omega arith))
    ]

pub digits_are : (text : List ℕ) → all_ascii_digits text ≡ true → 0 < length text → (get_or text 0 0 ≡ 48 → length text ≡ 1) → read_on 0 text < 2 ^ 64 → text ≡ decimal (read_on 0 text)
digits_are text d h z v = sym (decimal-digits_value own text d h z v)

-- a digit that is none, or that makes the number too large, spells no number
pub refused_digit : (text : List ℕ) (m i n : ℕ) → n < 2 ^ 64 → text ≡ decimal n → i < length text → read_on m (drop i text) ≡ read_on 0 text → all_ascii_digits (drop i text) ≡ all_ascii_digits text →
    (is_ascii_digit (get_or text i 0) ≡ true → 2 ^ 64 ≤ 10 * m + (get_or text i 0 - 48)) → ⊥
refused_digit text m i n h e lt v d none =
    let left : drop i text ≡ get_or text i 0 ∷ drop (suc i) text = drop-cons text i 0 lt in
    let digits : all_ascii_digits text ≡ true = ap all_ascii_digits e ∙ digits_decimal own n h in
    let here : all_ascii_digits (get_or text i 0 ∷ drop (suc i) text) ≡ true = ap all_ascii_digits (sym left) ∙ d ∙ digits in
    let digit = and_parts (is_ascii_digit (get_or text i 0)) (all_ascii_digits (drop (suc i) text)) here in
    let grows = read_grows (10 * m + (get_or text i 0 - 48)) (drop (suc i) text) in
    let all : read_on (10 * m + (get_or text i 0 - 48)) (drop (suc i) text) ≡ read_on 0 text = ap (read_on m) (sym left) ∙ v in
    let large = none digit.0 in
    too_large text n h e (omega arith)

-- digits that were all read are the text of the number
pub number_is : (text : List ℕ) (m i : ℕ) → length text ≤ i → read_on m (drop i text) ≡ read_on 0 text → all_ascii_digits (drop i text) ≡ all_ascii_digits text →
    (0 < length text) × (get_or text 0 0 ≡ 48 → length text ≡ 1) → m < 2 ^ 64 → text ≡ decimal m
number_is text m i h v d begun lt =
    let none = drop_all i text h in
    let value : m ≡ read_on 0 text = sym (ap (read_on m) none) ∙ v in
    let digits : all_ascii_digits text ≡ true = sym d ∙ ap all_ascii_digits none in
    let bound : read_on 0 text < 2 ^ 64 = omega arith in
    digits_are text digits begun.0 begun.1 bound ∙ sym (ap decimal value)

-- a text is that of one number
pub one_number : (text : List ℕ) (m n : ℕ) → m < 2 ^ 64 → n < 2 ^ 64 → text ≡ decimal m → text ≡ decimal n → m ≡ n
one_number text m n h k d e = decimal_injective m n h k (sym d ∙ e)
