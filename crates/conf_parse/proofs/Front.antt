-- The token, blank or comment at the front of a text, from what its reader has seen.
use Rattle.std.proofs.Common.{◌≡◌, ℕ, zero, suc, ◌+◌, ◌<◌, ◌≤◌, true, false, Bool, ◌||◌, ◌&&◌, ◌==◌, List, [], ◌∷◌, ◌++◌, inr, length, take, drop, slice_index_or, refl, sym, ◌∙◌, ap, subst, arith}
use Rattle.std.proofs.lemmas.List.{take-append-drop}
use Rattle.std.specs.Char.{is_ascii_digit}
use Rattle.std.specs.List.{list_all}
use Rattle.model_limits.specs.Limits.{most_literal}
use Rattle.conf_syntax.specs.declared.token.Token.{Token}
use Rattle.conf_syntax.specs.Spelling.{Blank, Comment, IsSpelling, is_letter, is_blank, in_line, goes_on, is_word, is_digits, Stops, IsLexeme, IsPiece, BeginsNothing, BeginsTooLarge, piece_bytes, Piece, Spelled, number_of}
use Rattle.conf_parse.specs.Marks.{is_pair, is_single}
use Rattle.conf_parse.specs.Tokens.{IsPairAt, IsTokenAt, IsGapAt, has_gap}
use Rattle.conf_parse.proofs.Bools.{and_right, and_left_false, or_left, or_false, or_both_false, contrary}
use Rattle.conf_parse.proofs.Lexemes.{is_symbol, is_lexeme, lexeme, nil_no_lexeme}
use Rattle.conf_parse.proofs.Lists.{head_same, tail_same, cons_no_nil}
use Rattle.conf_parse.proofs.Longest.{longest_word, longest_digits, longest_pair, longest_single}

-- a row that begins with a byte that it has
pub record IsSomeRow (is_row : List ℕ → Bool) (text : List ℕ) (n : ℕ) : Type 0 where
  pub some : 0 < n
  pub row : is_row (take n text) ≡ true

goes_on_letter : (b : ℕ) → is_letter b ≡ true → goes_on b ≡ false → ⊥
goes_on_letter b letter none = let e = ap (λ x. x || is_ascii_digit b) letter in cc

word_row : (b : ℕ) (bytes : List ℕ) (n : ℕ) → is_letter b ≡ true → list_all goes_on (take n (b ∷ bytes)) ≡ true → Stops goes_on (drop n (b ∷ bytes)) → IsSomeRow is_word (b ∷ bytes) n
word_row b bytes zero letter row stops = absurd (goes_on_letter b letter stops)
word_row b bytes (suc n) letter row stops =
    record { some = omega arith; row = ap (λ x. x && list_all goes_on (take n bytes)) letter ∙ and_right _ _ row }

pub word_front : (text : List ℕ) (n : ℕ) → 0 < length text → is_letter (slice_index_or text 0 0) ≡ true → list_all goes_on (take n text) ≡ true → Stops goes_on (drop n text) → IsSomeRow is_word text n
word_front [] n some letter row stops = absurd (omega arith)
word_front (b ∷ bytes) n some letter row stops = word_row b bytes n letter row stops

digits_row : (b : ℕ) (bytes : List ℕ) (n : ℕ) → is_ascii_digit b ≡ true → list_all is_ascii_digit (take n (b ∷ bytes)) ≡ true → Stops is_ascii_digit (drop n (b ∷ bytes)) → IsSomeRow is_digits (b ∷ bytes) n
digits_row b bytes zero digit row stops = cc
digits_row b bytes (suc n) digit row stops = record { some = omega arith; row = row }

pub digits_front : (text : List ℕ) (n : ℕ) → 0 < length text → is_ascii_digit (slice_index_or text 0 0) ≡ true → list_all is_ascii_digit (take n text) ≡ true → Stops is_ascii_digit (drop n text) → IsSomeRow is_digits text n
digits_front [] n some digit row stops = absurd (omega arith)
digits_front (b ∷ bytes) n some digit row stops = digits_row b bytes n digit row stops

pub word_is : (text : List ℕ) (t : Token) (n : ℕ) → IsSomeRow is_word text n → n ≤ length text → Stops goes_on (drop n text) → IsSpelling t (take n text) → IsTokenAt text (t, n)
word_is text t n row within stops spelling =
    record { some = row.some; within = within; piece = (spelling, longest_word _ _ row.row stops) }

pub number_is : (text : List ℕ) (t : Token) (n : ℕ) → IsSomeRow is_digits text n → n ≤ length text → Stops is_ascii_digit (drop n text) → IsSpelling t (take n text) → IsTokenAt text (t, n)
number_is text t n row within stops spelling =
    record { some = row.some; within = within; piece = (spelling, longest_digits _ _ row.row stops) }

pub pair_is : (text : List ℕ) (b : ℕ) (behind : List ℕ) (t : Token) → text ≡ b ∷ behind → IsPairAt b behind t → IsTokenAt text (t, 2)
pair_is text b behind t is pair =
    let P : List ℕ → Type 0 = λ bytes. IsTokenAt bytes (t, 2) in
    let front : text ≡ b ∷ pair.second ∷ pair.rest = is ∙ ap (λ bytes. b ∷ bytes) pair.is in
    subst P (sym front) (record { some = omega arith; within = omega arith; piece = (pair.spelling, longest_pair b pair.second pair.rest pair.pair) })

pub single_is : (text : List ℕ) (b : ℕ) (behind : List ℕ) (t : Token) → text ≡ b ∷ behind → is_single b ≡ true → IsSpelling t (b ∷ []) → Stops (is_pair b) behind → IsTokenAt text (t, 1)
single_is text b behind t is single spelling stops =
    let P : List ℕ → Type 0 = λ bytes. IsTokenAt bytes (t, 1) in
    subst P (sym is) (record { some = omega arith; within = omega arith; piece = (spelling, longest_single b behind single stops) })

pub blank_is : (text : List ℕ) (b : ℕ) (behind : List ℕ) → text ≡ b ∷ behind → is_blank b ≡ true → IsGapAt text 1
blank_is text b behind is blank =
    let P : List ℕ → Type 0 = λ bytes. IsGapAt bytes 1 in
    subst P (sym is) (record { some = omega arith; within = omega arith; gap = Blank b; bytes = refl; piece = blank; silent = λ at. refl })

comment_front : (bytes : List ℕ) (n : ℕ) → n ≤ length bytes → list_all in_line (take n bytes) ≡ true → Stops in_line (drop n bytes) → IsGapAt (47 ∷ 47 ∷ bytes) (suc (suc n))
comment_front bytes n within row stops =
    record { some = omega arith; within = omega arith; gap = Comment (take n bytes); bytes = refl; piece = (row, stops); silent = λ at. refl }

pub comment_is : (text : List ℕ) (b c : ℕ) (behind bytes : List ℕ) (n : ℕ) → text ≡ b ∷ behind → behind ≡ c ∷ bytes → b ≡ 47 → c ≡ 47 → n ≤ length bytes → list_all in_line (take n bytes) ≡ true → Stops in_line (drop n bytes) → IsGapAt text (2 + n)
comment_is text b c behind bytes n is also first second within row stops =
    let front : text ≡ 47 ∷ 47 ∷ bytes = cc in
    let two : suc (suc n) ≡ 2 + n = omega arith in
    let P : List ℕ → Type 0 = λ bytes. IsGapAt bytes (2 + n) in
    let Q : ℕ → Type 0 = λ m. IsGapAt (47 ∷ 47 ∷ bytes) m in
    subst P (sym front) (subst Q two (comment_front bytes n within row stops))

pub too_large_is : (text : List ℕ) (n : ℕ) → IsSomeRow is_digits text n → Stops is_ascii_digit (drop n text) → most_literal < number_of (take n text) → BeginsTooLarge text
too_large_is text n row stops large =
    (take n text, drop n text, sym (take-append-drop n text), row.row, longest_digits _ _ row.row stops, large)

pub no_gap_at_end : (text : List ℕ) → text ≡ [] → has_gap text ≡ false
no_gap_at_end text is = ap has_gap is

pub no_gap_in_one : (text : List ℕ) (b : ℕ) (behind : List ℕ) → text ≡ b ∷ behind → is_blank b ≡ false → behind ≡ [] → has_gap text ≡ false
no_gap_in_one text b behind is blank end =
    ap has_gap (is ∙ ap (λ bytes. b ∷ bytes) end) ∙ blank

pub no_gap_in_two : (text : List ℕ) (b : ℕ) (behind : List ℕ) (c : ℕ) (bytes : List ℕ) → text ≡ b ∷ behind → is_blank b ≡ false → behind ≡ c ∷ bytes → (b == 47 && c == 47) ≡ false → has_gap text ≡ false
no_gap_in_two text b behind c bytes is blank also slashes =
    ap has_gap (is ∙ ap (λ bytes. b ∷ bytes) also) ∙ or_both_false _ _ blank slashes

blank_has_gap : (b : ℕ) (behind : List ℕ) → is_blank b ≡ true → has_gap (b ∷ behind) ≡ true
blank_has_gap b [] blank = blank
blank_has_gap b (c ∷ bytes) blank = or_left _ _ blank

-- what has no gap and no token at its front begins nothing
no_piece : (text : List ℕ) → has_gap text ≡ false → ((bytes behind : List ℕ) → text ≡ bytes ++ behind → IsLexeme bytes → ⊥) → (piece : Piece) (behind : List ℕ) → text ≡ piece_bytes piece ++ behind → IsPiece piece behind → ⊥
no_piece text gap none (Blank b) behind is fits = contrary _ (ap has_gap is ∙ blank_has_gap b behind fits) gap
no_piece text gap none (Comment bytes) behind is fits = contrary _ (ap has_gap is) gap
no_piece text gap none (Spelled t bytes) behind is fits = none bytes behind is (inr (inr (t, fits.0)))

no_lexeme_of : (b : ℕ) (bytes : List ℕ) → is_letter b ≡ false → is_ascii_digit b ≡ false → is_symbol (b ∷ bytes) ≡ false → is_lexeme (b ∷ bytes) ≡ false
no_lexeme_of b bytes letter digit symbol = or_false _ _ _ (and_left_false _ _ letter) (and_left_false _ _ digit) symbol

no_symbol_of : (b : ℕ) (behind more rest : List ℕ) → is_single b ≡ false → Stops (is_pair b) behind → behind ≡ more ++ rest → is_symbol (b ∷ more) ≡ false
no_symbol_of b behind [] rest single pair is = single
no_symbol_of b behind (c ∷ []) rest single pair is = let P : List ℕ → Type 0 = Stops (is_pair b) in subst P is pair
no_symbol_of b behind (c ∷ d ∷ more) rest single pair is = refl

no_lexeme : (b : ℕ) (behind bytes rest : List ℕ) → is_letter b ≡ false → is_ascii_digit b ≡ false → is_single b ≡ false → Stops (is_pair b) behind → b ∷ behind ≡ bytes ++ rest → is_lexeme bytes ≡ true → ⊥
no_lexeme b behind [] rest letter digit single pair is lexeme = nil_no_lexeme lexeme
no_lexeme b behind (c ∷ bytes) rest letter digit single pair is lexeme =
    let P : ℕ → Type 0 = λ x. is_lexeme (x ∷ bytes) ≡ true in
    contrary _ (subst P (sym (head_same _ _ _ _ is)) lexeme) (no_lexeme_of b bytes letter digit (no_symbol_of b behind bytes rest single pair (tail_same _ _ _ _ is)))

nothing_front : (b : ℕ) (behind : List ℕ) → has_gap (b ∷ behind) ≡ false → is_letter b ≡ false → is_ascii_digit b ≡ false → is_single b ≡ false → Stops (is_pair b) behind → BeginsNothing (b ∷ behind)
nothing_front b behind gap letter digit single pair =
    let none : (bytes rest : List ℕ) → b ∷ behind ≡ bytes ++ rest → IsLexeme bytes → ⊥ = λ bytes rest is fits. no_lexeme b behind bytes rest letter digit single pair is (lexeme bytes fits) in
    (cons_no_nil b behind, no_piece (b ∷ behind) gap none, none)

pub nothing_is : (text : List ℕ) (b : ℕ) (behind : List ℕ) → text ≡ b ∷ behind → has_gap text ≡ false → is_letter (slice_index_or text 0 0) ≡ false → is_ascii_digit (slice_index_or text 0 0) ≡ false → is_single b ≡ false → Stops (is_pair b) behind → BeginsNothing text
nothing_is text b behind is gap letter digit single pair =
    let P : List ℕ → Type 0 = BeginsNothing in
    subst P (sym is) (nothing_front b behind (ap has_gap (sym is) ∙ gap) (ap (λ bytes. is_letter (slice_index_or bytes 0 0)) (sym is) ∙ letter) (ap (λ bytes. is_ascii_digit (slice_index_or bytes 0 0)) (sym is) ∙ digit) single pair)
