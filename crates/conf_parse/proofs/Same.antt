-- Bytes spell at most one token.
use Rattle.std.proofs.Common.{◌≡◌, ℕ, ◌<◌, arith, Option, Some, None, true, false, if◌then◌else◌, ◌||◌, List, [], ◌∷◌, inl, inr, refl, ◌∙◌, ap}
use Rattle.std.specs.Str.{bytes_eq}
use Rattle.model_limits.specs.Limits.{most_literal}
use Rattle.conf_syntax.specs.declared.token.Key.{Key}
use Rattle.conf_syntax.specs.declared.token.Key.TheVariants as key
use Rattle.conf_syntax.specs.declared.token.Mark.{Mark}
use Rattle.conf_syntax.specs.declared.token.Mark.TheVariants as mark
use Rattle.conf_syntax.specs.declared.token.Token.{Token}
use Rattle.conf_syntax.specs.declared.token.Token.TheVariants as token
use Rattle.conf_syntax.specs.Lexis.{key_text, mark_text}
use Rattle.conf_syntax.specs.Spelling.{is_word, is_digits, number_of, key_text_too, mark_text_too, IsKeySpelling, IsMarkSpelling, IsSpelling}
use Rattle.conf_parse.proofs.Bools.{and_left, and_left_false, or_second, contrary}
use Rattle.conf_parse.proofs.Keywords.{keys}
use Rattle.conf_parse.proofs.Lexemes.{is_symbol, is_fixed, no_symbol, digit_no_letter, letter_other, digit_other, key_is_fixed, mark_is_symbol}

-- the keyword in a list that these bytes spell
abbrev key_of : List Key → List ℕ → Option Key
key_of [] bytes = None
key_of (k ∷ ks) bytes = if bytes_eq (key_text k) bytes || bytes_eq (key_text_too k) bytes then Some k else key_of ks bytes

abbrev marks : List Mark
marks =
    mark.OpenBrace ∷ mark.CloseBrace ∷ mark.OpenBracket ∷ mark.CloseBracket ∷ mark.OpenParen ∷ mark.CloseParen ∷ mark.Semicolon ∷ mark.Comma ∷ mark.Dot ∷ mark.DotDot ∷ mark.Arrow ∷ mark.Equal ∷ mark.NotEqual ∷ mark.Less ∷ mark.AtMost ∷ mark.Greater ∷ mark.AtLeast ∷ mark.Plus ∷ mark.Minus ∷ mark.Star ∷ []

-- the mark in a list that these bytes spell
abbrev mark_of : List Mark → List ℕ → Option Mark
mark_of [] bytes = None
mark_of (m ∷ ms) bytes = if bytes_eq (mark_text m) bytes || bytes_eq (mark_text_too m) bytes then Some m else mark_of ms bytes

key_found : (k : Key) → key_of keys (key_text k) ≡ Some k
key_found key.Enum = refl
key_found key.Abstract = refl
key_found key.Class = refl
key_found key.Extends = refl
key_found key.Var = refl
key_found key.As = refl
key_found key.Int = refl
key_found key.Bool = refl
key_found key.Ref = refl
key_found key.Where = refl
key_found key.Forall = refl
key_found key.Exists = refl
key_found key.Sum = refl
key_found key.Count = refl
key_found key.AllDifferent = refl
key_found key.Pack = refl
key_found key.In = refl
key_found key.Maximize = refl
key_found key.Minimize = refl
key_found key.True = refl
key_found key.False = refl
key_found key.This = refl
key_found key.And = refl
key_found key.Or = refl
key_found key.Not = refl

key_found_too : (k : Key) → key_of keys (key_text_too k) ≡ Some k
key_found_too key.Enum = refl
key_found_too key.Abstract = refl
key_found_too key.Class = refl
key_found_too key.Extends = refl
key_found_too key.Var = refl
key_found_too key.As = refl
key_found_too key.Int = refl
key_found_too key.Bool = refl
key_found_too key.Ref = refl
key_found_too key.Where = refl
key_found_too key.Forall = refl
key_found_too key.Exists = refl
key_found_too key.Sum = refl
key_found_too key.Count = refl
key_found_too key.AllDifferent = refl
key_found_too key.Pack = refl
key_found_too key.In = refl
key_found_too key.Maximize = refl
key_found_too key.Minimize = refl
key_found_too key.True = refl
key_found_too key.False = refl
key_found_too key.This = refl
key_found_too key.And = refl
key_found_too key.Or = refl
key_found_too key.Not = refl

mark_found : (m : Mark) → mark_of marks (mark_text m) ≡ Some m
mark_found mark.OpenBrace = refl
mark_found mark.CloseBrace = refl
mark_found mark.OpenBracket = refl
mark_found mark.CloseBracket = refl
mark_found mark.OpenParen = refl
mark_found mark.CloseParen = refl
mark_found mark.Semicolon = refl
mark_found mark.Comma = refl
mark_found mark.Dot = refl
mark_found mark.DotDot = refl
mark_found mark.Arrow = refl
mark_found mark.Equal = refl
mark_found mark.NotEqual = refl
mark_found mark.Less = refl
mark_found mark.AtMost = refl
mark_found mark.Greater = refl
mark_found mark.AtLeast = refl
mark_found mark.Plus = refl
mark_found mark.Minus = refl
mark_found mark.Star = refl

mark_found_too : (m : Mark) → mark_of marks (mark_text_too m) ≡ Some m
mark_found_too mark.OpenBrace = refl
mark_found_too mark.CloseBrace = refl
mark_found_too mark.OpenBracket = refl
mark_found_too mark.CloseBracket = refl
mark_found_too mark.OpenParen = refl
mark_found_too mark.CloseParen = refl
mark_found_too mark.Semicolon = refl
mark_found_too mark.Comma = refl
mark_found_too mark.Dot = refl
mark_found_too mark.DotDot = refl
mark_found_too mark.Arrow = refl
mark_found_too mark.Equal = refl
mark_found_too mark.NotEqual = refl
mark_found_too mark.Less = refl
mark_found_too mark.AtMost = refl
mark_found_too mark.Greater = refl
mark_found_too mark.AtLeast = refl
mark_found_too mark.Plus = refl
mark_found_too mark.Minus = refl
mark_found_too mark.Star = refl

mark_no_key : (m : Mark) → key_of keys (mark_text m) ≡ None
mark_no_key mark.OpenBrace = refl
mark_no_key mark.CloseBrace = refl
mark_no_key mark.OpenBracket = refl
mark_no_key mark.CloseBracket = refl
mark_no_key mark.OpenParen = refl
mark_no_key mark.CloseParen = refl
mark_no_key mark.Semicolon = refl
mark_no_key mark.Comma = refl
mark_no_key mark.Dot = refl
mark_no_key mark.DotDot = refl
mark_no_key mark.Arrow = refl
mark_no_key mark.Equal = refl
mark_no_key mark.NotEqual = refl
mark_no_key mark.Less = refl
mark_no_key mark.AtMost = refl
mark_no_key mark.Greater = refl
mark_no_key mark.AtLeast = refl
mark_no_key mark.Plus = refl
mark_no_key mark.Minus = refl
mark_no_key mark.Star = refl

mark_no_key_too : (m : Mark) → key_of keys (mark_text_too m) ≡ None
mark_no_key_too mark.OpenBrace = refl
mark_no_key_too mark.CloseBrace = refl
mark_no_key_too mark.OpenBracket = refl
mark_no_key_too mark.CloseBracket = refl
mark_no_key_too mark.OpenParen = refl
mark_no_key_too mark.CloseParen = refl
mark_no_key_too mark.Semicolon = refl
mark_no_key_too mark.Comma = refl
mark_no_key_too mark.Dot = refl
mark_no_key_too mark.DotDot = refl
mark_no_key_too mark.Arrow = refl
mark_no_key_too mark.Equal = refl
mark_no_key_too mark.NotEqual = refl
mark_no_key_too mark.Less = refl
mark_no_key_too mark.AtMost = refl
mark_no_key_too mark.Greater = refl
mark_no_key_too mark.AtLeast = refl
mark_no_key_too mark.Plus = refl
mark_no_key_too mark.Minus = refl
mark_no_key_too mark.Star = refl

found_key : (k : Key) (bytes : List ℕ) → IsKeySpelling k bytes → key_of keys bytes ≡ Some k
found_key k bytes (inl is) = ap (key_of keys) is ∙ key_found k
found_key k bytes (inr is) = ap (key_of keys) is ∙ key_found_too k

found_mark : (m : Mark) (bytes : List ℕ) → IsMarkSpelling m bytes → mark_of marks bytes ≡ Some m
found_mark m bytes (inl is) = ap (mark_of marks) is ∙ mark_found m
found_mark m bytes (inr is) = ap (mark_of marks) is ∙ mark_found_too m

found_no_key : (m : Mark) (bytes : List ℕ) → IsMarkSpelling m bytes → key_of keys bytes ≡ None
found_no_key m bytes (inl is) = ap (key_of keys) is ∙ mark_no_key m
found_no_key m bytes (inr is) = ap (key_of keys) is ∙ mark_no_key_too m

same_key : (k l : Key) (found : Option Key) → found ≡ Some k → found ≡ Some l → token.Key k ≡ token.Key l
same_key k l found one other = cc

same_mark : (m n : Mark) (found : Option Mark) → found ≡ Some m → found ≡ Some n → token.Mark m ≡ token.Mark n
same_mark m n found one other = cc

no_key : (k : Key) (found : Option Key) → found ≡ Some k → found ≡ None → ⊥
no_key k found one other = cc

-- digits are no word and no mark
digits_no_word : (bytes : List ℕ) → is_digits bytes ≡ true → is_word bytes ≡ false
digits_no_word [] digits = refl
digits_no_word (b ∷ bytes) digits = and_left_false _ _ (digit_no_letter b (and_left _ _ digits))

digits_no_symbol : (bytes : List ℕ) → is_digits bytes ≡ true → is_symbol bytes ≡ false
digits_no_symbol [] digits = refl
digits_no_symbol (b ∷ bytes) digits = no_symbol b bytes (digit_other b (and_left _ _ digits))

pub digits_no_fixed : (bytes : List ℕ) → is_digits bytes ≡ true → is_fixed bytes ≡ true → ⊥
digits_no_fixed bytes digits is =
    contrary _ (or_second _ _ is (digits_no_word bytes digits)) (digits_no_symbol bytes digits)

word_no_symbol : (bytes : List ℕ) → is_word bytes ≡ true → is_symbol bytes ≡ false
word_no_symbol [] word = refl
word_no_symbol (b ∷ bytes) word = no_symbol b bytes (letter_other b (and_left _ _ word))

same_word : (one other bytes : List ℕ) → bytes ≡ one → bytes ≡ other → token.Word one ≡ token.Word other
same_word one other bytes first second = cc

same_number : (one other value : ℕ) → value ≡ one → value ≡ other → token.Number one ≡ token.Number other
same_number one other value first second = cc

pub same_token : (t u : Token) (bytes : List ℕ) → IsSpelling t bytes → IsSpelling u bytes → t ≡ u
same_token (token.Word one) (token.Word other) bytes first second = same_word one other bytes first.0 second.0
same_token (token.Word one) (token.Number n) bytes first second = absurd (contrary _ first.1 (digits_no_word bytes second.0))
same_token (token.Word one) (token.Key k) bytes first second = absurd (first.2 k second)
same_token (token.Word one) (token.Mark m) bytes first second = absurd (contrary _ (mark_is_symbol m bytes second) (word_no_symbol bytes first.1))
same_token (token.Number n) (token.Word other) bytes first second = absurd (contrary _ second.1 (digits_no_word bytes first.0))
same_token (token.Number n) (token.Number o) bytes first second = same_number n o _ first.1 second.1
same_token (token.Number n) (token.Key k) bytes first second = absurd (digits_no_fixed bytes first.0 (key_is_fixed k bytes second))
same_token (token.Number n) (token.Mark m) bytes first second = absurd (contrary _ (mark_is_symbol m bytes second) (digits_no_symbol bytes first.0))
same_token (token.Key k) (token.Word other) bytes first second = absurd (second.2 k first)
same_token (token.Key k) (token.Number n) bytes first second = absurd (digits_no_fixed bytes second.0 (key_is_fixed k bytes first))
same_token (token.Key k) (token.Key l) bytes first second = same_key k l _ (found_key k bytes first) (found_key l bytes second)
same_token (token.Key k) (token.Mark m) bytes first second = absurd (no_key k _ (found_key k bytes first) (found_no_key m bytes second))
same_token (token.Mark m) (token.Word other) bytes first second = absurd (contrary _ (mark_is_symbol m bytes first) (word_no_symbol bytes second.1))
same_token (token.Mark m) (token.Number n) bytes first second = absurd (contrary _ (mark_is_symbol m bytes first) (digits_no_symbol bytes second.0))
same_token (token.Mark m) (token.Key k) bytes first second = absurd (no_key k _ (found_key k bytes second) (found_no_key m bytes first))
same_token (token.Mark m) (token.Mark n) bytes first second = same_mark m n _ (found_mark m bytes first) (found_mark n bytes second)

-- no token's spelling is a row of digits of a greater value
pub too_large : (t : Token) (bytes : List ℕ) → IsSpelling t bytes → is_digits bytes ≡ true → most_literal < number_of bytes → ⊥
too_large (token.Word name) bytes is digits large = contrary _ is.1 (digits_no_word bytes digits)
too_large (token.Number n) bytes is digits large = omega (arith, is.1, is.2)
too_large (token.Key k) bytes is digits large = digits_no_fixed bytes digits (key_is_fixed k bytes is)
too_large (token.Mark m) bytes is digits large = contrary _ (mark_is_symbol m bytes is) (digits_no_symbol bytes digits)
