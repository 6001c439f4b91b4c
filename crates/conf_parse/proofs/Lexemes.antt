-- The shape of words, rows of digits and marks: which bytes they begin with, and which they have.
use Rattle.std.proofs.Common.{◌≡◌, ℕ, true, false, Bool, ◌||◌, ◌==◌, List, [], ◌∷◌, inl, inr, refl, ◌∙◌, ap, arith}
use Rattle.std.proofs.lemmas.Bool.Decides.{nat_tests}
use Rattle.std.specs.Char.{is_ascii_digit}
use Rattle.conf_syntax.specs.declared.token.Key.{Key}
use Rattle.conf_syntax.specs.declared.token.Key.TheVariants as key
use Rattle.conf_syntax.specs.declared.token.Mark.{Mark}
use Rattle.conf_syntax.specs.declared.token.Mark.TheVariants as mark
use Rattle.conf_syntax.specs.declared.token.Token.{Token}
use Rattle.conf_syntax.specs.declared.token.Token.TheVariants as token
use Rattle.conf_syntax.specs.Lexis.{key_text, mark_text}
use Rattle.conf_syntax.specs.Spelling.{is_letter, is_blank, is_word, is_digits, key_text_too, mark_text_too, IsKeySpelling, IsMarkSpelling, IsSpelling, IsLexeme}
use Rattle.conf_parse.specs.Marks.{is_pair, is_single}
use Rattle.conf_parse.proofs.Bools.{and_left_false, or_left, or_right, or_false, not_true, contrary}

-- the bytes with which no mark begins
abbrev pub is_other : ℕ → Bool
is_other b = is_letter b || is_ascii_digit b || is_blank b || b == 47

-- the bytes with which a gap may begin
abbrev pub begins_gap : ℕ → Bool
begins_gap b = is_blank b || b == 47

single_first : (b : ℕ) → is_single b ≡ true → is_other b ≡ false
single_first b is = grind (arith, nat_tests)

pair_first : (b c : ℕ) → is_pair b c ≡ true → is_other b ≡ false
pair_first b c is = grind (arith, nat_tests)

pub letter_no_digit : (b : ℕ) → is_letter b ≡ true → is_ascii_digit b ≡ false
letter_no_digit b is = grind (arith, nat_tests)

pub digit_no_letter : (b : ℕ) → is_ascii_digit b ≡ true → is_letter b ≡ false
digit_no_letter b digit = not_true _ (λ letter. contrary _ digit (letter_no_digit b letter))

pub letter_other : (b : ℕ) → is_letter b ≡ true → is_other b ≡ true
letter_other b is = ap (λ x. x || is_ascii_digit b || is_blank b || b == 47) is

pub digit_other : (b : ℕ) → is_ascii_digit b ≡ true → is_other b ≡ true
digit_other b is = grind (arith, nat_tests)

letter_no_gap : (b : ℕ) → is_letter b ≡ true → begins_gap b ≡ false
letter_no_gap b is = grind (arith, nat_tests)

pub digit_no_gap : (b : ℕ) → is_ascii_digit b ≡ true → begins_gap b ≡ false
digit_no_gap b is = grind (arith, nat_tests)

gap_other : (b : ℕ) → begins_gap b ≡ true → is_other b ≡ true
gap_other b is = grind (arith, nat_tests)

-- two bytes or one; no mark has three bytes
abbrev pub is_symbol : List ℕ → Bool
is_symbol [] = false
is_symbol (b ∷ []) = is_single b
is_symbol (b ∷ c ∷ []) = is_pair b c
is_symbol (b ∷ c ∷ d ∷ bytes) = false

abbrev pub is_fixed : List ℕ → Bool
is_fixed bytes = is_word bytes || is_symbol bytes

abbrev pub is_lexeme : List ℕ → Bool
is_lexeme bytes = is_word bytes || is_digits bytes || is_symbol bytes

pub symbol_first : (b : ℕ) (bytes : List ℕ) → is_symbol (b ∷ bytes) ≡ true → is_other b ≡ false
symbol_first b [] is = single_first b is
symbol_first b (c ∷ []) is = pair_first b c is
symbol_first b (c ∷ d ∷ bytes) is = cc

-- a mark begins with none of the other bytes
pub no_symbol : (b : ℕ) (bytes : List ℕ) → is_other b ≡ true → is_symbol (b ∷ bytes) ≡ false
no_symbol b bytes other = not_true _ (λ symbol. contrary _ other (symbol_first b bytes symbol))

pub other_letter : (b : ℕ) → is_other b ≡ false → is_letter b ≡ false
other_letter b none = not_true _ (λ is. contrary _ (letter_other b is) none)

pub other_digit : (b : ℕ) → is_other b ≡ false → is_ascii_digit b ≡ false
other_digit b none = not_true _ (λ is. contrary _ (digit_other b is) none)

key_fixed : (k : Key) → is_fixed (key_text k) ≡ true
key_fixed key.Enum = refl
key_fixed key.Abstract = refl
key_fixed key.Class = refl
key_fixed key.Extends = refl
key_fixed key.Var = refl
key_fixed key.As = refl
key_fixed key.Int = refl
key_fixed key.Bool = refl
key_fixed key.Ref = refl
key_fixed key.Where = refl
key_fixed key.Forall = refl
key_fixed key.Exists = refl
key_fixed key.Sum = refl
key_fixed key.Count = refl
key_fixed key.AllDifferent = refl
key_fixed key.Pack = refl
key_fixed key.In = refl
key_fixed key.Maximize = refl
key_fixed key.Minimize = refl
key_fixed key.True = refl
key_fixed key.False = refl
key_fixed key.This = refl
key_fixed key.And = refl
key_fixed key.Or = refl
key_fixed key.Not = refl

key_fixed_too : (k : Key) → is_fixed (key_text_too k) ≡ true
key_fixed_too key.Enum = refl
key_fixed_too key.Abstract = refl
key_fixed_too key.Class = refl
key_fixed_too key.Extends = refl
key_fixed_too key.Var = refl
key_fixed_too key.As = refl
key_fixed_too key.Int = refl
key_fixed_too key.Bool = refl
key_fixed_too key.Ref = refl
key_fixed_too key.Where = refl
key_fixed_too key.Forall = refl
key_fixed_too key.Exists = refl
key_fixed_too key.Sum = refl
key_fixed_too key.Count = refl
key_fixed_too key.AllDifferent = refl
key_fixed_too key.Pack = refl
key_fixed_too key.In = refl
key_fixed_too key.Maximize = refl
key_fixed_too key.Minimize = refl
key_fixed_too key.True = refl
key_fixed_too key.False = refl
key_fixed_too key.This = refl
key_fixed_too key.And = refl
key_fixed_too key.Or = refl
key_fixed_too key.Not = refl

mark_symbol : (m : Mark) → is_symbol (mark_text m) ≡ true
mark_symbol mark.OpenBrace = refl
mark_symbol mark.CloseBrace = refl
mark_symbol mark.OpenBracket = refl
mark_symbol mark.CloseBracket = refl
mark_symbol mark.OpenParen = refl
mark_symbol mark.CloseParen = refl
mark_symbol mark.Semicolon = refl
mark_symbol mark.Comma = refl
mark_symbol mark.Dot = refl
mark_symbol mark.DotDot = refl
mark_symbol mark.Arrow = refl
mark_symbol mark.Equal = refl
mark_symbol mark.NotEqual = refl
mark_symbol mark.Less = refl
mark_symbol mark.AtMost = refl
mark_symbol mark.Greater = refl
mark_symbol mark.AtLeast = refl
mark_symbol mark.Plus = refl
mark_symbol mark.Minus = refl
mark_symbol mark.Star = refl

mark_symbol_too : (m : Mark) → is_symbol (mark_text_too m) ≡ true
mark_symbol_too mark.OpenBrace = refl
mark_symbol_too mark.CloseBrace = refl
mark_symbol_too mark.OpenBracket = refl
mark_symbol_too mark.CloseBracket = refl
mark_symbol_too mark.OpenParen = refl
mark_symbol_too mark.CloseParen = refl
mark_symbol_too mark.Semicolon = refl
mark_symbol_too mark.Comma = refl
mark_symbol_too mark.Dot = refl
mark_symbol_too mark.DotDot = refl
mark_symbol_too mark.Arrow = refl
mark_symbol_too mark.Equal = refl
mark_symbol_too mark.NotEqual = refl
mark_symbol_too mark.Less = refl
mark_symbol_too mark.AtMost = refl
mark_symbol_too mark.Greater = refl
mark_symbol_too mark.AtLeast = refl
mark_symbol_too mark.Plus = refl
mark_symbol_too mark.Minus = refl
mark_symbol_too mark.Star = refl

pub key_is_fixed : (k : Key) (bytes : List ℕ) → IsKeySpelling k bytes → is_fixed bytes ≡ true
key_is_fixed k bytes (inl is) = ap is_fixed is ∙ key_fixed k
key_is_fixed k bytes (inr is) = ap is_fixed is ∙ key_fixed_too k

pub mark_is_symbol : (m : Mark) (bytes : List ℕ) → IsMarkSpelling m bytes → is_symbol bytes ≡ true
mark_is_symbol m bytes (inl is) = ap is_symbol is ∙ mark_symbol m
mark_is_symbol m bytes (inr is) = ap is_symbol is ∙ mark_symbol_too m

word_lexeme : (bytes : List ℕ) → is_word bytes ≡ true → is_lexeme bytes ≡ true
word_lexeme bytes is = or_left _ (is_symbol bytes) (or_left _ (is_digits bytes) is)

digits_lexeme : (bytes : List ℕ) → is_digits bytes ≡ true → is_lexeme bytes ≡ true
digits_lexeme bytes is = or_left _ (is_symbol bytes) (or_right (is_word bytes) _ is)

symbol_lexeme : (bytes : List ℕ) → is_symbol bytes ≡ true → is_lexeme bytes ≡ true
symbol_lexeme bytes is = or_right (is_word bytes || is_digits bytes) _ is

fixed_lexeme : (word digits symbol : Bool) → (word || symbol) ≡ true → (word || digits || symbol) ≡ true
fixed_lexeme true true symbol is = refl
fixed_lexeme true false symbol is = refl
fixed_lexeme false true symbol is = refl
fixed_lexeme false false symbol is = is

pub spelling_lexeme : (t : Token) (bytes : List ℕ) → IsSpelling t bytes → is_lexeme bytes ≡ true
spelling_lexeme (token.Word name) bytes is = word_lexeme bytes is.1
spelling_lexeme (token.Number n) bytes is = digits_lexeme bytes is.0
spelling_lexeme (token.Key k) bytes is = fixed_lexeme (is_word bytes) (is_digits bytes) (is_symbol bytes) (key_is_fixed k bytes is)
spelling_lexeme (token.Mark m) bytes is = symbol_lexeme bytes (mark_is_symbol m bytes is)

-- each word, row of digits and mark has this shape
pub lexeme : (bytes : List ℕ) → IsLexeme bytes → is_lexeme bytes ≡ true
lexeme bytes (inl word) = word_lexeme bytes word
lexeme bytes (inr (inl digits)) = digits_lexeme bytes digits
lexeme bytes (inr (inr (t, is))) = spelling_lexeme t bytes is

-- a lexeme has a first byte, with which no gap begins
pub nil_no_lexeme : is_lexeme [] ≡ true → ⊥
nil_no_lexeme is = cc

pub lexeme_no_gap : (b : ℕ) (bytes : List ℕ) → is_lexeme (b ∷ bytes) ≡ true → begins_gap b ≡ false
lexeme_no_gap b bytes is =
    not_true _ (λ gap. let other = gap_other b gap in
    let letter = not_true _ (λ letter. contrary _ gap (letter_no_gap b letter)) in
    let digit = not_true _ (λ digit. contrary _ gap (digit_no_gap b digit)) in
    contrary _ is (or_false _ _ _ (and_left_false _ _ letter) (and_left_false _ _ digit) (no_symbol b bytes other)))
