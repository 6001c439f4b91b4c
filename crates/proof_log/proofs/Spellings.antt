-- Each piece of a line is the text of one value, and has no separator of those around it.
use Rattle.std.proofs.Common.{◌≡◌, ℕ, ◌<◌, ◌^◌, true, false, not, ◌==◌, cond, List, [], ◌∷◌, ◌++◌, length, length-append, refl, sym, ap, ◌∙◌, arith, append_assoc, append-nil, map, ℤ, pos, negsuc, ◌+ℤ◌, ◌≤ℤ◌, decimal}
use Rattle.std.specs.List.{AllByRecursion}
use Rattle.std.specs.Ordering.{int_eq}
use Rattle.std.specs.Char.{is_ascii_digit}
use Rattle.std.specs.Fmt.{signed_decimal}
use Rattle.std.proofs.lemmas.Int.{ints}
use Rattle.std.proofs.lemmas.Fmt.{decimal_nonempty}
use Rattle.std.proofs.lemmas.Bool.{and_from}
use Rattle.std.proofs.lemmas.Bool.Decides.{Decides-int_eq}
use Rattle.std.proofs.lemmas.List.Folds.{list_all-append}
use Rattle.signed_clause.specs.Ranges.{Ranges, Ascends, IsValid}
use Rattle.signed_clause.proofs.RangeLaws.{Ascends-ends}
use Rattle.proof_log.specs.Spelling.{behind, joined, range_text, set_text, literal_text, step_text, IsSigned, IsRange, IsStep, IsLiteral, lacks}
use Rattle.proof_log.specs.Parts.{heads}
use Rattle.proof_log.proofs.Separated.{IsSpelling, same_cut, all_lack, values_same}
use Rattle.decimal_text.proofs.Digits.{one_number}
use Rattle.proof_log.proofs.Digits.{lacks-decimal, lacks-signed, signed_apart}

pub lacks-append : (s : ℕ) (a b : List ℕ) → lacks s a ≡ true → lacks s b ≡ true → lacks s (a ++ b) ≡ true
lacks-append s a b h k = list_all-append (λ x. not (x == s)) a b ∙ and_from _ _ h k

-- ---- values

pub signed_spelling : (s : ℕ) → is_ascii_digit s ≡ false → (s ≡ 45 → ⊥) → IsSpelling s signed_decimal IsSigned
signed_spelling s d e = record {
  lacks = λ v h. lacks-signed s v h d e;
  alone = λ v w h k f. signed_apart v w h k f;
}

-- ---- ranges

-- what stands behind a range's first value
abbrev pub range_tail : ℤ × ℤ → List ℕ
range_tail r = cond (int_eq r.0 r.1) [] (46 ∷ 46 ∷ signed_decimal r.1)

pub range_cut : (r : ℤ × ℤ) → range_text r ≡ signed_decimal r.0 ++ range_tail r
range_cut r = elim (int_eq r.0 r.1) as (λ b. cond b (signed_decimal r.0) (signed_decimal r.0 ++ (46 ∷ 46 ∷ []) ++ signed_decimal r.1) ≡ signed_decimal r.0 ++ cond b [] (46 ∷ 46 ∷ signed_decimal r.1)) [
  | true ↦ sym (append-nil (signed_decimal r.0))
  | false ↦ append_assoc (signed_decimal r.0) (46 ∷ 46 ∷ []) (signed_decimal r.1)
]

pub tail_heads : (r : ℤ × ℤ) → heads 46 (range_tail r) ≡ true
tail_heads r = elim (int_eq r.0 r.1) as (λ b. heads 46 (cond b [] (46 ∷ 46 ∷ signed_decimal r.1)) ≡ true) [ true ↦ refl | false ↦ refl ]

tails_same : (a b c d : ℤ) → IsSigned b → IsSigned d → a ≡ c → range_tail (a, b) ≡ range_tail (c, d) → b ≡ d
tails_same a b c d h k e f =
    elim (int_eq a b) as (λ x. int_eq a b ≡ x → cond x [] (46 ∷ 46 ∷ signed_decimal b) ≡ range_tail (c, d) → b ≡ d) [
      | true ↦ λ p g. (elim (int_eq c d) as (λ y. int_eq c d ≡ y → [] ≡ cond y [] (46 ∷ 46 ∷ signed_decimal d) → b ≡ d) [
        | true ↦ λ q g'. let first = (Decides-int_eq a b).0 p in let second = (Decides-int_eq c d).0 q in cc
        | false ↦ λ q g'. absurd cc
      ]) refl g
      | false ↦ λ p g. (elim (int_eq c d) as (λ y. int_eq c d ≡ y → 46 ∷ 46 ∷ signed_decimal b ≡ cond y [] (46 ∷ 46 ∷ signed_decimal d) → b ≡ d) [
        | true ↦ λ q g'. absurd cc
        | false ↦ λ q g'. signed_apart b d h k cc
      ]) refl g
    ] refl f

range_alone : (r q : ℤ × ℤ) → IsRange r → IsRange q → range_text r ≡ range_text q → r ≡ q
range_alone (a, b) (c, d) h k e =
    let whole : signed_decimal a ++ range_tail (a, b) ≡ signed_decimal c ++ range_tail (c, d) = sym (range_cut (a, b)) ∙ e ∙ range_cut (c, d) in
    let same = same_cut 46 (signed_decimal a) (range_tail (a, b)) (signed_decimal c) (range_tail (c, d))
    (lacks-signed 46 a h.0 refl (λ z. absurd (omega arith))) (lacks-signed 46 c k.0 refl (λ z. absurd (omega arith))) (tail_heads (a, b)) (tail_heads (c, d)) whole in
    let first = signed_apart a c h.0 k.0 same.0 in
    let second = tails_same a b c d h.1 k.1 first same.1 in
    cc

pub range_lacks : (s : ℕ) (r : ℤ × ℤ) → is_ascii_digit s ≡ false → (s ≡ 45 → ⊥) → (46 == s) ≡ false → IsRange r → lacks s (range_text r) ≡ true
range_lacks s r d e f h =
    let first = lacks-signed s r.0 h.0 d e in
    let second = lacks-signed s r.1 h.1 d e in
    let points : lacks s (46 ∷ 46 ∷ []) ≡ true = rw f refl in
    elim (int_eq r.0 r.1) as (λ b. lacks s (cond b (signed_decimal r.0) (signed_decimal r.0 ++ (46 ∷ 46 ∷ []) ++ signed_decimal r.1)) ≡ true) [
      | true ↦ first
      | false ↦ lacks-append s (signed_decimal r.0 ++ 46 ∷ 46 ∷ []) (signed_decimal r.1) (lacks-append s (signed_decimal r.0) (46 ∷ 46 ∷ []) first points) second
    ]

pub range_spelling : (s : ℕ) → is_ascii_digit s ≡ false → (s ≡ 45 → ⊥) → (46 == s) ≡ false → IsSpelling s range_text IsRange
range_spelling s d e f = record {
  lacks = λ r h. range_lacks s r d e f h;
  alone = range_alone;
}

-- ---- sets

ranges_right : (low : ℤ) (rs : Ranges) → negsuc 9223372036854775807 ≤ℤ low → Ascends low (pos 9223372036854775807) rs → AllByRecursion IsRange rs
ranges_right low [] h s = tt
ranges_right low (r ∷ rs) h s =
    let ends = Ascends-ends (r.1 +ℤ pos 2) (pos 9223372036854775807) rs s.2 in
    let first : IsSigned r.0 = (omega (arith, ints), omega (arith, ints)) in
    let second : IsSigned r.1 = (omega (arith, ints), omega (arith, ints)) in
    ((first, second, s.1), ranges_right (r.1 +ℤ pos 2) rs (omega (arith, ints)) s.2)

pub set_right : (rs : Ranges) → IsValid rs → AllByRecursion IsRange rs
set_right rs s = ranges_right _ rs (omega (arith, ints)) s

pub joined_behind : (s : ℕ) (p : List ℕ) (ps : List (List ℕ)) → s ∷ joined s (p ∷ ps) ≡ behind s (p ∷ ps)
joined_behind s p ps = refl

signed_some : (v : ℤ) → IsSigned v → 0 < length (signed_decimal v)
signed_some (pos n) h = decimal_nonempty n (omega (arith, ints))
signed_some (negsuc n) h = omega arith

range_some : (r : ℤ × ℤ) (t : List ℕ) → IsRange r → range_text r ++ t ≡ [] → ⊥
range_some r t h e =
    let some = signed_some r.0 h.0 in
    let cut = ap length (range_cut r) in
    let none = ap length e in
    omega (arith, length-append {A = ℕ})

-- ranges are told by their text
pub ranges_same : (a b : Ranges) → AllByRecursion IsRange a → AllByRecursion IsRange b → set_text a ≡ set_text b → a ≡ b
ranges_same [] [] h k e = refl
ranges_same [] (q ∷ b) h k e = absurd (range_some q _ k.0 (sym e))
ranges_same (r ∷ a) [] h k e = absurd (range_some r _ h.0 e)
ranges_same (r ∷ a) (q ∷ b) h k e = values_same 44 range_text IsRange (range_spelling 44 refl (λ z. absurd (omega arith)) refl) (r ∷ a) (q ∷ b) h k (ap (λ t. 44 ∷ t) e)

lacks-behind : (s sep : ℕ) (ps : List (List ℕ)) → (sep == s) ≡ false → AllByRecursion (λ p. lacks s p ≡ true) ps → lacks s (behind sep ps) ≡ true
lacks-behind s sep [] e a = refl
lacks-behind s sep (p ∷ ps) e a = rw e (lacks-append s p (behind sep ps) a.0 (lacks-behind s sep ps e a.1))

set_lacks : (rs : Ranges) → AllByRecursion IsRange rs → lacks 32 (set_text rs) ≡ true
set_lacks [] a = refl
set_lacks (r ∷ rs) a =
    let w = range_spelling 32 refl (λ z. absurd (omega arith)) refl in
    lacks-append 32 (range_text r) (behind 44 (map range_text rs)) (w.lacks r a.0) (lacks-behind 32 44 (map range_text rs) refl (all_lack 32 range_text IsRange w rs a.1))

pub set_spelling : IsSpelling 32 set_text IsValid
set_spelling = record {
  lacks = λ s h. set_lacks s (set_right s h);
  alone = λ a b h k e. ranges_same a b (set_right a h) (set_right b k) e;
}

-- ---- literals and steps

-- two texts behind numbers and colons
numbers_same : (m n : ℕ) (a b : List ℕ) → m < 2 ^ 64 → n < 2 ^ 64 → decimal m ++ 58 ∷ a ≡ decimal n ++ 58 ∷ b → (m ≡ n) × (a ≡ b)
numbers_same m n a b h k e =
    let same = same_cut 58 (decimal m) (58 ∷ a) (decimal n) (58 ∷ b) (lacks-decimal 58 m h refl) (lacks-decimal 58 n k refl) refl refl e in
    (one_number (decimal m) m n h k refl same.0, cc (same.1))

literal_alone : (l m : ℕ × Ranges) → IsLiteral l → IsLiteral m → literal_text l ≡ literal_text m → l ≡ m
literal_alone (x, s) (y, t) h k e =
    let same = numbers_same x y (set_text s) (set_text t) (omega arith) (omega arith) e in
    let sets = set_spelling.alone s t h.1 k.1 same.1 in
    cc (same.0, sets)

pub literal_spelling : IsSpelling 32 literal_text IsLiteral
literal_spelling = record {
  lacks = λ l h. lacks-append 32 (decimal l.0) (58 ∷ set_text l.1) (lacks-decimal 32 l.0 (omega arith) refl) (set_spelling.lacks l.1 h.1);
  alone = literal_alone;
}

step_alone : (s t : ℕ × ℕ) → IsStep s → IsStep t → step_text s ≡ step_text t → s ≡ t
step_alone (x, j) (y, k) h i e =
    let same = numbers_same x y (decimal j) (decimal k) (omega arith) (omega arith) e in
    let numbers = one_number (decimal j) j k h.1 i.1 refl same.1 in
    cc (same.0, numbers)

pub step_spelling : IsSpelling 32 step_text IsStep
step_spelling = record {
  lacks = λ s h. lacks-append 32 (decimal s.0) (58 ∷ decimal s.1) (lacks-decimal 32 s.0 (omega arith) refl) (lacks-decimal 32 s.1 h.1 refl);
  alone = step_alone;
}

-- what stands between commas
pub commas : IsSpelling 44 range_text IsRange
commas = range_spelling 44 refl (λ z. absurd (omega arith)) refl

-- values behind spaces
pub value_pieces : IsSpelling 32 signed_decimal IsSigned
value_pieces = signed_spelling 32 refl (λ z. absurd (omega arith))
