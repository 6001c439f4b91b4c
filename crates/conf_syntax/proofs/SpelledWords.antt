-- The words of tokens that a text spells are words.
use Rattle.std.proofs.Common.{◌≡◌, ℕ, ◌+◌, true, List, [], ◌∷◌, length, refl, ap, sym, ◌∙◌, subst}
use Rattle.conf_syntax.specs.declared.token.Placed.{Placed}
use Rattle.conf_syntax.specs.declared.token.Token.{Token}
use Rattle.conf_syntax.specs.declared.token.Token.TheVariants as token
use Rattle.conf_syntax.specs.Places.{bare}
use Rattle.conf_syntax.specs.Spelling.{Piece, Blank, Comment, Spelled, IsRow, IsSpelling, Spells, is_word, piece_bytes, tokens_from}
use Rattle.conf_syntax.specs.Words.{is_worded, AreWords}

worded : (t : Token) (bytes : List ℕ) → IsSpelling t bytes → is_worded t ≡ true
worded (token.Word w) bytes s = ap is_word (sym s.0) ∙ s.1
worded (token.Number n) bytes s = refl
worded (token.Key k) bytes s = refl
worded (token.Mark m) bytes s = refl

row_worded : (at : ℕ) (text : List ℕ) (pieces : List Piece) (rest : List ℕ) → IsRow text pieces rest → AreWords (bare (tokens_from at pieces))
row_worded at text [] rest r = refl
row_worded at text (Blank b ∷ ps) rest (behind, e, p, r) = row_worded (at + length (piece_bytes (Blank b))) behind ps rest r
row_worded at text (Comment bs ∷ ps) rest (behind, e, p, r) = row_worded (at + length (piece_bytes (Comment bs))) behind ps rest r
row_worded at text (Spelled t bs ∷ ps) rest (behind, e, p, r) = rw (worded t bs p.0) (row_worded (at + length bs) behind ps rest r)

pub spelled_words : (text : List ℕ) (tokens : List Placed) → Spells text tokens → AreWords (bare tokens)
spelled_words text tokens s = subst (λ ts. AreWords (bare ts)) (sym s.2) (row_worded 0 text s.0 [] s.1)
