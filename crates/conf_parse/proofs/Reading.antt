-- How far a text has been read: the pieces so far, their tokens and their length.
use Rattle.std.proofs.Common.{◌≡◌, ℕ, ◌+◌, ◌-◌, ◌≤◌, List, [], ◌∷◌, ◌++◌, length, take, drop, refl, sym, ◌∙◌, ap, subst, append_assoc, append-nil, add_assoc, arith, length-drop, length-take, length-append}
use Rattle.std.proofs.lemmas.List.{take-append-drop, take_all, drop_all, drop-drop}
use Rattle.conf_syntax.specs.declared.token.Token.{Token}
use Rattle.conf_syntax.specs.declared.token.Placed.{Placed}
use Rattle.conf_syntax.specs.Spelling.{Piece, Blank, Comment, Spelled, BeginsNothing, BeginsTooLarge, IsPiece, IsRow, Spells, piece_bytes, piece_tokens, pieces_length, tokens_from}
use Rattle.conf_parse.specs.declared.lexer.LexError.{LexError}
use Rattle.conf_parse.specs.declared.lexer.LexError.TheVariants.{BadByte, LiteralTooLarge, Memory}
use Rattle.conf_parse.specs.Refusals.{IsRefusedAs, IsRefusedHere}
use Rattle.conf_parse.proofs.Lexemes.{spelling_lexeme, nil_no_lexeme}
use Rattle.conf_parse.specs.Tokens.{IsTokenAt, IsGapAt}

pub record IsRead (text : List ℕ) (tokens : List Placed) (at : ℕ) : Type 0 where
  pub pieces : List Piece
  pub row : IsRow text pieces (drop at text)
  pub spelled : tokens ≡ tokens_from 0 pieces
  pub far : at ≡ pieces_length pieces
  pub within : at ≤ length text

row_more : (text : List ℕ) (pieces : List Piece) (piece : Piece) (behind : List ℕ) → IsRow text pieces (piece_bytes piece ++ behind) → IsPiece piece behind → IsRow text (pieces ++ piece ∷ []) behind
row_more text [] piece behind row is = (behind, row, is, refl)
row_more text (first ∷ pieces) piece behind row is = (row.0, row.1, row.2, row_more row.0 pieces piece behind row.3 is)

tokens_more : (at : ℕ) (pieces : List Piece) (piece : Piece) → tokens_from at (pieces ++ piece ∷ []) ≡ tokens_from at pieces ++ piece_tokens (at + pieces_length pieces) piece
tokens_more at [] piece = append-nil (piece_tokens at piece) ∙ ap (λ n. piece_tokens n piece) (omega arith)
tokens_more at (first ∷ pieces) piece =
    ap (λ ts. piece_tokens at first ++ ts) (tokens_more (at + length (piece_bytes first)) pieces piece ∙ ap (λ n. tokens_from (at + length (piece_bytes first)) pieces ++ piece_tokens n piece) (add_assoc at (length (piece_bytes first)) (pieces_length pieces))) ∙
    sym (append_assoc (piece_tokens at first) (tokens_from (at + length (piece_bytes first)) pieces) _)

length_more : (pieces : List Piece) (piece : Piece) → pieces_length (pieces ++ piece ∷ []) ≡ pieces_length pieces + length (piece_bytes piece)
length_more [] piece = omega arith
length_more (first ∷ pieces) piece = let e = length_more pieces piece in omega arith

spelled_more : (tokens : List Placed) (at : ℕ) (piece : Piece) (pieces : List Piece) → tokens ≡ tokens_from 0 pieces → at ≡ pieces_length pieces → tokens ++ piece_tokens at piece ≡ tokens_from 0 (pieces ++ piece ∷ [])
spelled_more tokens at piece pieces spelled far =
    let zero_first : pieces_length pieces ≡ 0 + pieces_length pieces = omega arith in
    ap (λ ts. ts ++ piece_tokens at piece) spelled ∙ ap (λ n. tokens_from 0 pieces ++ piece_tokens n piece) (far ∙ zero_first) ∙ sym (tokens_more 0 pieces piece)

read_more : (text : List ℕ) (tokens : List Placed) (at n : ℕ) (piece : Piece) → IsRead text tokens at → n ≤ length (drop at text) → piece_bytes piece ≡ take n (drop at text) → IsPiece piece (drop n (drop at text)) → IsRead text (tokens ++ piece_tokens at piece) (at + n)
read_more text tokens at n piece read fits bytes is =
    let rest = drop at text in
    let P : List ℕ → Type 0 = λ xs. IsRow text read.pieces xs in
    let Q : List ℕ → Type 0 = λ xs. IsRow text (read.pieces ++ piece ∷ []) xs in
    let whole : rest ≡ piece_bytes piece ++ drop n rest = sym (take-append-drop n rest) ∙ ap (λ xs. xs ++ drop n rest) (sym bytes) in
    record {
      pieces = read.pieces ++ piece ∷ [];
      row = subst Q (drop-drop n at text) (row_more text read.pieces piece (drop n rest) (subst P whole read.row) is);
      spelled = spelled_more tokens at piece read.pieces read.spelled read.far;
      far = let len = ap length bytes in let more = length_more read.pieces piece in omega (arith, read.far, length-take n rest);
      within = omega (arith, read.within, length-drop at text);
    }

rest_whole : (text : List ℕ) (at : ℕ) → take (length text - at) (drop at text) ≡ drop at text
rest_whole text at = take_all (length text - at) (drop at text) (omega (arith, length-drop at text))

pub read_token : (text : List ℕ) (tokens pushed : List Placed) (at n : ℕ) (t : Token) → IsRead text tokens at → IsTokenAt (take (length text - at) (drop at text)) (t, n) → pushed ≡ tokens ++ record { token = t; at = at } ∷ [] → IsRead text pushed (at + n)
read_token text tokens pushed at n t read found push =
    let P : List ℕ → Type 0 = λ xs. IsTokenAt xs (t, n) in
    let here = subst P (rest_whole text at) found in
    let R : List Placed → Type 0 = λ ts. IsRead text ts (at + n) in
    subst R (sym push) (read_more text tokens at n (Spelled t (take n (drop at text))) read here.within refl here.piece)

pub read_gap : (text : List ℕ) (tokens : List Placed) (at n : ℕ) → IsRead text tokens at → IsGapAt (take (length text - at) (drop at text)) n → IsRead text tokens (at + n)
read_gap text tokens at n read found =
    let P : List ℕ → Type 0 = λ xs. IsGapAt xs n in
    let here = subst P (rest_whole text at) found in
    let R : List Placed → Type 0 = λ ts. IsRead text ts (at + n) in
    subst R (ap (λ ts. tokens ++ ts) (here.silent at) ∙ append-nil tokens) (read_more text tokens at n here.gap read here.within here.bytes here.piece)

pub read_all : (text : List ℕ) (tokens : List Placed) (at : ℕ) → IsRead text tokens at → length text ≤ at → Spells text tokens
read_all text tokens at read end =
    let P : List ℕ → Type 0 = λ xs. IsRow text read.pieces xs in
    (read.pieces, subst P (drop_all at text end) read.row, read.spelled)

pub refused : (text : List ℕ) (tokens : List Placed) (at : ℕ) (error : LexError) → IsRead text tokens at → IsRefusedHere (take (length text - at) (drop at text)) at error → IsRefusedAs text error
refused text tokens at (BadByte place) read here =
    let P : List ℕ → Type 0 = BeginsNothing in
    (read.pieces, drop at text, read.row, here.0 ∙ read.far, subst P (rest_whole text at) here.1)
refused text tokens at (LiteralTooLarge place) read here =
    let P : List ℕ → Type 0 = BeginsTooLarge in
    (read.pieces, drop at text, read.row, here.0 ∙ read.far, subst P (rest_whole text at) here.1)
refused text tokens at Memory read here = tt

-- a spelling has bytes
piece_few : (at : ℕ) (piece : Piece) (behind : List ℕ) → IsPiece piece behind → length (piece_tokens at piece) ≤ length (piece_bytes piece)
piece_few at (Blank b) behind is = omega arith
piece_few at (Comment bytes) behind is = omega arith
piece_few at (Spelled t []) behind is = absurd (nil_no_lexeme (spelling_lexeme t [] is.0))
piece_few at (Spelled t (b ∷ bytes)) behind is = omega arith

row_few : (at : ℕ) (text : List ℕ) (pieces : List Piece) (rest : List ℕ) → IsRow text pieces rest → length (tokens_from at pieces) ≤ length text
row_few at text [] rest row = omega arith
row_few at text (piece ∷ pieces) rest row =
    let far = at + length (piece_bytes piece) in
    omega (arith, piece_few at piece row.0 row.2, row_few far row.0 pieces rest row.3, ap length row.1, length-append (piece_bytes piece) row.0, length-append (piece_tokens at piece) (tokens_from far pieces))

pub few : (text : List ℕ) (tokens : List Placed) → Spells text tokens → length tokens ≤ length text
few text tokens spells =
    let e = ap length spells.2 in omega (arith, row_few 0 text spells.0 [] spells.1)
