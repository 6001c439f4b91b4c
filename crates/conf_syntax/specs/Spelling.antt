-- Which texts spell which tokens, and at which place a text that spells none is stuck. A text is a
-- row of pieces: blank bytes, comments and spellings of tokens, where blanks and comments make up
-- the gaps. At each place the longest word, row of digits or mark is taken; so two spellings may
-- stand side by side only where the first can't be read on into the other. What is stuck at a place
-- is a row of pieces up to there.
use Rattle.std.specs.Prelude.{ℕ, ◌+◌, ◌-◌, ◌*◌, ◌≡◌, ◌<◌, ◌≤◌, ◌≢◌, Bool, true, false, ◌||◌, ◌&&◌, ◌==◌, not, nat_le, List, [], ◌∷◌, ◌++◌, ◌⊎◌, codes, fold, length}
use Rattle.std.specs.List.{list_all}
use Rattle.std.specs.Char.{is_ascii_digit}
use Rattle.model_limits.specs.Limits.{most_literal}
use Rattle.conf_syntax.specs.Lexis.{key_text, mark_text}
use Rattle.conf_syntax.specs.declared.token.Key.{Key}
use Rattle.conf_syntax.specs.declared.token.Key.TheVariants as key
use Rattle.conf_syntax.specs.declared.token.Mark.{Mark}
use Rattle.conf_syntax.specs.declared.token.Mark.TheVariants as mark
use Rattle.conf_syntax.specs.declared.token.Token.{Token}
use Rattle.conf_syntax.specs.declared.token.Token.TheVariants as token
use Rattle.conf_syntax.specs.declared.token.Placed.{Placed}

-- space, tab, LF and CR
abbrev pub is_blank : ℕ → Bool
is_blank b = b == 32 || b == 9 || b == 10 || b == 13

-- any byte but LF
abbrev pub in_line : ℕ → Bool
in_line b = not (b == 10)

-- a letter of ASCII or an underscore
abbrev pub is_letter : ℕ → Bool
is_letter b = nat_le 65 b && nat_le b 90 || nat_le 97 b && nat_le b 122 || b == 95

-- what goes on a word
abbrev pub goes_on : ℕ → Bool
goes_on b = is_letter b || is_ascii_digit b

-- a letter, then letters and digits
abbrev pub is_word : List ℕ → Bool
is_word [] = false
is_word (b ∷ bytes) = is_letter b && list_all goes_on bytes

-- one or more digits
abbrev pub is_digits : List ℕ → Bool
is_digits [] = false
is_digits (b ∷ bytes) = is_ascii_digit b && list_all is_ascii_digit bytes

-- the number that digits spell
abbrev pub number_of : List ℕ → ℕ
number_of digits = fold (λ n digit. 10 * n + (digit - 48)) 0 digits

-- the second spelling of a keyword; the first where it has no second
abbrev pub key_text_too : Key → List ℕ
key_text_too key.Forall = codes "foreach"
key_text_too key.And = codes "&&"
key_text_too key.Or = codes "||"
key_text_too key.Not = codes "!"
key_text_too k = key_text k

-- the second spelling of a mark; the first where it has no second
abbrev pub mark_text_too : Mark → List ℕ
mark_text_too mark.Equal = codes "=="
mark_text_too m = mark_text m

abbrev pub IsKeySpelling : Key → List ℕ → Type 0
IsKeySpelling k bytes = (bytes ≡ key_text k) ⊎ (bytes ≡ key_text_too k)

abbrev pub IsMarkSpelling : Mark → List ℕ → Type 0
IsMarkSpelling m bytes = (bytes ≡ mark_text m) ⊎ (bytes ≡ mark_text_too m)

-- these bytes spell this token; a word is no keyword
abbrev pub IsSpelling : Token → List ℕ → Type 0
IsSpelling (token.Word name) bytes =
    (bytes ≡ name) × (is_word bytes ≡ true) × ((k : Key) → IsKeySpelling k bytes → ⊥)
IsSpelling (token.Number n) bytes =
    (is_digits bytes ≡ true) × (number_of bytes ≡ n) × (n ≤ most_literal)
IsSpelling (token.Key k) bytes = IsKeySpelling k bytes
IsSpelling (token.Mark m) bytes = IsMarkSpelling m bytes

-- a word, a row of digits of any value, or a mark
abbrev pub IsLexeme : List ℕ → Type 0
IsLexeme bytes =
    (is_word bytes ≡ true) ⊎ (is_digits bytes ≡ true) ⊎ ((t : Token) × IsSpelling t bytes)

-- no longer word, row of digits or mark begins where `bytes` begins, before `behind`; where a gap
-- stands behind, none does
abbrev pub IsLongest : List ℕ → List ℕ → Type 0
IsLongest bytes behind =
    (more back : List ℕ) → behind ≡ more ++ back → more ≢ [] → IsLexeme (bytes ++ more) → ⊥

-- the list ends here, or its first byte fails the test
abbrev pub Stops : (ℕ → Bool) → List ℕ → Type 0
Stops test [] = Unit {0}
Stops test (b ∷ bytes) = test b ≡ false

-- a piece of a text; a comment has the bytes behind its `//`
pub data Piece : Type 0 where
  Blank : ℕ → Piece
  Comment : List ℕ → Piece
  Spelled : Token → List ℕ → Piece

abbrev pub piece_bytes : Piece → List ℕ
piece_bytes (Blank b) = b ∷ []
piece_bytes (Comment bytes) = codes "//" ++ bytes
piece_bytes (Spelled t bytes) = bytes

-- a piece as it stands before `behind`; a comment runs to the next LF, which is no part of it, or
-- to the end
abbrev pub IsPiece : Piece → List ℕ → Type 0
IsPiece (Blank b) behind = is_blank b ≡ true
IsPiece (Comment bytes) behind = (list_all in_line bytes ≡ true) × Stops in_line behind
IsPiece (Spelled t bytes) behind = IsSpelling t bytes × IsLongest bytes behind

-- the text is these pieces and then the rest
abbrev pub IsRow : List ℕ → List Piece → List ℕ → Type 0
IsRow text [] rest = text ≡ rest
IsRow text (piece ∷ pieces) rest =
    (behind : List ℕ) × (text ≡ piece_bytes piece ++ behind) × IsPiece piece behind
    × IsRow behind pieces rest

-- the token of a piece that begins at a place
abbrev pub piece_tokens : ℕ → Piece → List Placed
piece_tokens at (Spelled t bytes) = record { token = t; at = at } ∷ []
piece_tokens at piece = []

-- the tokens of pieces that begin at a place, each with the place of its first byte
abbrev pub tokens_from : ℕ → List Piece → List Placed
tokens_from at [] = []
tokens_from at (piece ∷ pieces) =
    piece_tokens at piece ++ tokens_from (at + length (piece_bytes piece)) pieces

-- how many bytes pieces have
abbrev pub pieces_length : List Piece → ℕ
pieces_length [] = 0
pieces_length (piece ∷ pieces) = length (piece_bytes piece) + pieces_length pieces

-- the text is a row of pieces, and these are its tokens with their places
abbrev pub Spells : List ℕ → List Placed → Type 0
Spells text tokens = (pieces : List Piece) × IsRow text pieces [] × (tokens ≡ tokens_from 0 pieces)

-- no blank, comment, word, number or mark begins at the first byte
abbrev pub BeginsNothing : List ℕ → Type 0
BeginsNothing rest =
    (rest ≢ []) × ((piece : Piece) (behind : List ℕ) → rest ≡ piece_bytes piece ++ behind
    → IsPiece piece behind → ⊥) ×
    ((bytes behind : List ℕ) → rest ≡ bytes ++ behind → IsLexeme bytes → ⊥)

-- a row of digits begins here whose value is above the greatest
abbrev pub BeginsTooLarge : List ℕ → Type 0
BeginsTooLarge rest =
    (digits : List ℕ) × (behind : List ℕ) × (rest ≡ digits ++ behind) × (is_digits digits ≡ true)
    × IsLongest digits behind × (most_literal < number_of digits)

-- the text is pieces up to a place where nothing begins (so each comment before it ends with its
-- LF)
abbrev pub IsStuckAtByte : List ℕ → ℕ → Type 0
IsStuckAtByte text at =
    (pieces : List Piece) × (rest : List ℕ) × IsRow text pieces rest × (at ≡ pieces_length pieces)
    × BeginsNothing rest

-- the text is pieces up to a place where a number begins that is too large
abbrev pub IsStuckAtNumber : List ℕ → ℕ → Type 0
IsStuckAtNumber text at =
    (pieces : List Piece) × (rest : List ℕ) × IsRow text pieces rest × (at ≡ pieces_length pieces)
    × BeginsTooLarge rest

-- how a text is read: whole, or up to the place where it is stuck
pub data Reading : Type 0 where
  Whole : List Placed → Reading
  BadByteAt : ℕ → Reading
  TooLargeAt : ℕ → Reading

abbrev pub Reads : List ℕ → Reading → Type 0
Reads text (Whole tokens) = Spells text tokens
Reads text (BadByteAt at) = IsStuckAtByte text at
Reads text (TooLargeAt at) = IsStuckAtNumber text at

-- a text spells at most one list of tokens; one that spells some isn't stuck; and it is stuck at
-- one place for one reason
abbrev pub IsReadOneWay : List ℕ → Type 0
IsReadOneWay text = (one other : Reading) → Reads text one → Reads text other → one ≡ other
