-- What stands at the front of a text: a token, or a blank or comment.
use Rattle.std.specs.Prelude.{ℕ, Bool, ◌||◌, ◌&&◌, ◌==◌, false, ◌≡◌, ◌<◌, ◌≤◌, List, [], ◌∷◌, true, length, take, drop}
use Rattle.conf_syntax.specs.declared.token.Token.{Token}
use Rattle.conf_parse.specs.Marks.{is_pair}
use Rattle.conf_syntax.specs.Spelling.{is_blank, Piece, Spelled, IsPiece, IsSpelling, piece_bytes, piece_tokens}

-- the token of so many bytes that begins here
pub record IsTokenAt (text : List ℕ) (found : Token × ℕ) : Type 0 where
  pub some : 0 < found.1
  pub within : found.1 ≤ length text
  pub piece : IsPiece (Spelled found.0 (take found.1 text)) (drop found.1 text)

-- the token of two bytes, of which the first is given
pub record IsPairAt (first : ℕ) (behind : List ℕ) (found : Token) : Type 0 where
  pub second : ℕ
  pub rest : List ℕ
  pub is : behind ≡ second ∷ rest
  pub pair : is_pair first second ≡ true
  pub spelling : IsSpelling found (first ∷ second ∷ [])

-- a blank or a comment stands at the front
abbrev pub has_gap : List ℕ → Bool
has_gap [] = false
has_gap (b ∷ []) = is_blank b
has_gap (b ∷ c ∷ bytes) = is_blank b || b == 47 && c == 47

-- the first so many bytes are a piece without a token
pub record IsGapAt (text : List ℕ) (n : ℕ) : Type 0 where
  pub some : 0 < n
  pub within : n ≤ length text
  pub gap : Piece
  pub bytes : piece_bytes gap ≡ take n text
  pub piece : IsPiece gap (drop n text)
  pub silent : (at : ℕ) → piece_tokens at gap ≡ []
