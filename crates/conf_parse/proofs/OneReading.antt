-- A text is read in one way: one row of pieces leads to the place where nothing more begins.
use Rattle.std.proofs.Common.{◌≡◌, ℕ, true, Bool, List, [], ◌∷◌, ◌++◌, inl, inr, refl, sym, ◌∙◌, ap, subst}
use Rattle.std.specs.List.{list_all}
use Rattle.conf_syntax.specs.declared.token.Token.{Token}
use Rattle.conf_syntax.specs.declared.token.Placed.{Placed}
use Rattle.conf_syntax.specs.Spelling.{Piece, Blank, Comment, Spelled, IsPiece, IsRow, Spells, IsSpelling, IsLexeme, IsLongest, Stops, BeginsNothing, BeginsTooLarge, IsStuckAtByte, IsStuckAtNumber, IsReadOneWay, Whole, BadByteAt, TooLargeAt, is_blank, in_line, is_digits, piece_bytes, pieces_length, tokens_from}
use Rattle.conf_parse.proofs.Bools.{and_left, and_right, or_left, contrary}
use Rattle.conf_parse.proofs.Lists.{head_same, tail_same, cons_no_nil}
use Rattle.conf_parse.proofs.Lexemes.{begins_gap, spelling_lexeme, lexeme_no_gap, nil_no_lexeme, digit_no_gap}
use Rattle.conf_parse.proofs.Same.{same_token, too_large}

-- of two fronts of a list, one is the other, or goes on where the other ends
data IsCut (xs back ys rest : List ℕ) : Type 0 where
  alike : xs ≡ ys → back ≡ rest → IsCut xs back ys rest
  shorter : (m : ℕ) (more : List ℕ) → ys ≡ xs ++ m ∷ more → back ≡ (m ∷ more) ++ rest → IsCut xs back ys rest
  longer : (m : ℕ) (more : List ℕ) → xs ≡ ys ++ m ∷ more → rest ≡ (m ∷ more) ++ back → IsCut xs back ys rest

cut_more : (x y : ℕ) (xs back ys rest : List ℕ) → x ≡ y → IsCut xs back ys rest → IsCut (x ∷ xs) back (y ∷ ys) rest
cut_more x y xs back ys rest first (alike is also) = alike (cc) also
cut_more x y xs back ys rest first (shorter m more is also) = shorter m more (cc) also
cut_more x y xs back ys rest first (longer m more is also) = longer m more (cc) also

cut : (xs back ys rest : List ℕ) → xs ++ back ≡ ys ++ rest → IsCut xs back ys rest
cut [] back [] rest is = alike refl is
cut [] back (y ∷ ys) rest is = shorter y ys refl is
cut (x ∷ xs) back [] rest is = longer x xs refl (sym is)
cut (x ∷ xs) back (y ∷ ys) rest is = cut_more x y xs back ys rest (head_same _ _ _ _ is) (cut xs back ys rest (tail_same _ _ _ _ is))

-- the same front and the same rest
record IsSameFront (xs back ys rest : List ℕ) : Type 0 where
  pub front : xs ≡ ys
  pub after : back ≡ rest

-- the longest lexeme is one
longest_same : (xs back ys rest : List ℕ) → IsLexeme xs → IsLexeme ys → IsLongest xs back → IsLongest ys rest → IsCut xs back ys rest → IsSameFront xs back ys rest
longest_same xs back ys rest one other ends also (alike front behind) = record { front = front; after = behind }
longest_same xs back ys rest one other ends also (shorter m more is behind) =
    absurd (ends (m ∷ more) rest behind (cons_no_nil m more) (subst IsLexeme is other))
longest_same xs back ys rest one other ends also (longer m more is behind) =
    absurd (also (m ∷ more) back behind (cons_no_nil m more) (subst IsLexeme is one))

has_test : (test : ℕ → Bool) (xs : List ℕ) (m : ℕ) (more : List ℕ) → list_all test (xs ++ m ∷ more) ≡ true → test m ≡ true
has_test test [] m more all = and_left _ _ all
has_test test (x ∷ xs) m more all = has_test test xs m more (and_right _ _ all)

-- a row that stops is one
goes_further : (test : ℕ → Bool) (xs : List ℕ) (m : ℕ) (more back rest : List ℕ) → list_all test (xs ++ m ∷ more) ≡ true → back ≡ (m ∷ more) ++ rest → Stops test back → ⊥
goes_further test xs m more back rest all is stops =
    let P : List ℕ → Type 0 = Stops test in contrary _ (has_test test xs m more all) (subst P is stops)

run_same : (test : ℕ → Bool) (xs back ys rest : List ℕ) → list_all test xs ≡ true → list_all test ys ≡ true → Stops test back → Stops test rest → IsCut xs back ys rest → IsSameFront xs back ys rest
run_same test xs back ys rest one other ends also (alike front behind) = record { front = front; after = behind }
run_same test xs back ys rest one other ends also (shorter m more is behind) =
    absurd (goes_further test xs m more back rest (ap (list_all test) (sym is) ∙ other) behind ends)
run_same test xs back ys rest one other ends also (longer m more is behind) =
    absurd (goes_further test ys m more rest back (ap (list_all test) (sym is) ∙ one) behind also)

-- the same piece and the same bytes behind it
record IsSamePiece (p : Piece) (back : List ℕ) (q : Piece) (rest : List ℕ) : Type 0 where
  pub piece : p ≡ q
  pub after : back ≡ rest

-- no spelling begins as a gap
gap_no_spelling : (b : ℕ) (bytes : List ℕ) (t : Token) (spelling rest : List ℕ) → begins_gap b ≡ true → b ∷ bytes ≡ spelling ++ rest → IsSpelling t spelling → ⊥
gap_no_spelling b bytes t [] rest gap is spells = nil_no_lexeme (spelling_lexeme t [] spells)
gap_no_spelling b bytes t (x ∷ spelling) rest gap is spells =
    let none = lexeme_no_gap x spelling (spelling_lexeme t (x ∷ spelling) spells) in
    contrary _ gap (ap begins_gap (head_same _ _ _ _ is) ∙ none)

same_blank : (b c : ℕ) (back rest : List ℕ) → b ∷ back ≡ c ∷ rest → IsSamePiece (Blank b) back (Blank c) rest
same_blank b c back rest is = record { piece = ap Blank (head_same _ _ _ _ is); after = tail_same _ _ _ _ is }

blank_no_comment : (b : ℕ) (back rest : List ℕ) → is_blank b ≡ true → b ∷ back ≡ 47 ∷ rest → ⊥
blank_no_comment b back rest blank is = contrary _ blank (ap is_blank (head_same _ _ _ _ is))

same_comment : (xs back ys rest : List ℕ) → IsSameFront xs back ys rest → IsSamePiece (Comment xs) back (Comment ys) rest
same_comment xs back ys rest is = record { piece = ap Comment is.front; after = is.after }

same_spelled : (t u : Token) (xs back ys rest : List ℕ) → IsSpelling t xs → IsSpelling u ys → IsSameFront xs back ys rest → IsSamePiece (Spelled t xs) back (Spelled u ys) rest
same_spelled t u xs back ys rest one other is =
    let P : List ℕ → Type 0 = IsSpelling u in
    let token = same_token t u xs one (subst P (sym is.front) other) in
    record { piece = ap (λ x. Spelled x xs) token ∙ ap (λ bytes. Spelled u bytes) is.front; after = is.after }

same_piece : (p : Piece) (back : List ℕ) (q : Piece) (rest : List ℕ) → piece_bytes p ++ back ≡ piece_bytes q ++ rest → IsPiece p back → IsPiece q rest → IsSamePiece p back q rest
same_piece (Blank b) back (Blank c) rest is one other = same_blank b c back rest is
same_piece (Blank b) back (Comment ys) rest is one other = absurd (blank_no_comment b _ _ one is)
same_piece (Blank b) back (Spelled u ys) rest is one other = absurd (gap_no_spelling b back u ys rest (or_left _ _ one) is other.0)
same_piece (Comment xs) back (Blank c) rest is one other = absurd (blank_no_comment c _ _ other (sym is))
same_piece (Comment xs) back (Comment ys) rest is one other =
    same_comment xs back ys rest (run_same in_line xs back ys rest one.0 other.0 one.1 other.1 (cut xs back ys rest (tail_same _ _ _ _ (tail_same _ _ _ _ is))))
same_piece (Comment xs) back (Spelled u ys) rest is one other = absurd (gap_no_spelling 47 _ u ys rest refl is other.0)
same_piece (Spelled t xs) back (Blank c) rest is one other = absurd (gap_no_spelling c rest t xs back (or_left _ _ other) (sym is) one.0)
same_piece (Spelled t xs) back (Comment ys) rest is one other = absurd (gap_no_spelling 47 _ t xs back refl (sym is) one.0)
same_piece (Spelled t xs) back (Spelled u ys) rest is one other =
    same_spelled t u xs back ys rest one.0 other.0 (longest_same xs back ys rest (inr (inr (t, one.0))) (inr (inr (u, other.0))) one.1 other.1 (cut xs back ys rest is))

-- no piece begins here
record IsFinal (rest : List ℕ) : Type 0 where
  pub none : (piece : Piece) (behind : List ℕ) → rest ≡ piece_bytes piece ++ behind → IsPiece piece behind → ⊥

nil_no_piece : (piece : Piece) (behind : List ℕ) → [] ≡ piece_bytes piece ++ behind → IsPiece piece behind → ⊥
nil_no_piece (Blank b) behind is fits = cc
nil_no_piece (Comment bytes) behind is fits = cc
nil_no_piece (Spelled t []) behind is fits = nil_no_lexeme (spelling_lexeme t [] fits.0)
nil_no_piece (Spelled t (b ∷ bytes)) behind is fits = cc

-- digits do not begin as a gap
gap_no_digits : (b : ℕ) (bytes digits rest : List ℕ) → begins_gap b ≡ true → b ∷ bytes ≡ digits ++ rest → is_digits digits ≡ true → ⊥
gap_no_digits b bytes [] rest gap is all = cc
gap_no_digits b bytes (x ∷ digits) rest gap is all =
    contrary _ gap (ap begins_gap (head_same _ _ _ _ is) ∙ digit_no_gap x (and_left _ _ all))

large_no_piece : (rest : List ℕ) (large : BeginsTooLarge rest) (piece : Piece) (behind : List ℕ) → rest ≡ piece_bytes piece ++ behind → IsPiece piece behind → ⊥
large_no_piece rest large (Blank b) behind is fits = gap_no_digits b behind large.0 large.1 (or_left _ _ fits) (sym is ∙ large.2) large.3
large_no_piece rest large (Comment bytes) behind is fits = gap_no_digits 47 (47 ∷ bytes ++ behind) large.0 large.1 refl (sym is ∙ large.2) large.3
large_no_piece rest large (Spelled t bytes) behind is fits =
    let same = longest_same bytes behind large.0 large.1 (inr (inr (t, fits.0))) (inr (inl large.3)) fits.1 large.4 (cut bytes behind large.0 large.1 (sym is ∙ large.2)) in
    let P : List ℕ → Type 0 = IsSpelling t in
    too_large t large.0 (subst P same.front fits.0) large.3 large.5

nil_no_digits : (digits behind : List ℕ) → [] ≡ digits ++ behind → is_digits digits ≡ true → ⊥
nil_no_digits [] behind is all = cc
nil_no_digits (b ∷ digits) behind is all = cc

nil_not_large : BeginsTooLarge [] → ⊥
nil_not_large large = nil_no_digits large.0 large.1 large.2 large.3

-- the same pieces and the same rest
record IsSameRow (ps : List Piece) (back : List ℕ) (qs : List Piece) (rest : List ℕ) : Type 0 where
  pub pieces : ps ≡ qs
  pub after : back ≡ rest

row_more : (p : Piece) (ps : List Piece) (back : List ℕ) (q : Piece) (qs : List Piece) (rest : List ℕ) → p ≡ q → IsSameRow ps back qs rest → IsSameRow (p ∷ ps) back (q ∷ qs) rest
row_more p ps back q qs rest is same = let pieces = same.pieces in record { pieces = cc; after = same.after }

same_row : (text : List ℕ) (ps : List Piece) (back : List ℕ) (qs : List Piece) (rest : List ℕ) → IsRow text ps back → IsRow text qs rest → IsFinal back → IsFinal rest → IsSameRow ps back qs rest
same_row text [] back [] rest one other ends also = record { pieces = refl; after = sym one ∙ other }
same_row text [] back (q ∷ qs) rest one other ends also = absurd (ends.none q other.0 (sym one ∙ other.1) other.2)
same_row text (p ∷ ps) back [] rest one other ends also = absurd (also.none p one.0 (sym other ∙ one.1) one.2)
same_row text (p ∷ ps) back (q ∷ qs) rest one other ends also =
    let piece = same_piece p one.0 q other.0 (sym one.1 ∙ other.1) one.2 other.2 in
    let P : List ℕ → Type 0 = λ behind. IsRow behind ps back in
    row_more p ps back q qs rest piece.piece (same_row other.0 ps back qs rest (subst P piece.after one.3) other.3 ends also)

nil_final : IsFinal []
nil_final = record { none = λ piece behind is fits. nil_no_piece piece behind is fits }

nothing_final : (rest : List ℕ) → BeginsNothing rest → IsFinal rest
nothing_final rest begins = record { none = begins.1 }

large_final : (rest : List ℕ) → BeginsTooLarge rest → IsFinal rest
large_final rest begins = record { none = λ piece behind is fits. large_no_piece rest begins piece behind is fits }

one_list : (text : List ℕ) (one other : List Placed) → Spells text one → Spells text other → one ≡ other
one_list text one other first second =
    let same = same_row text first.0 [] second.0 [] first.1 second.1 nil_final nil_final in
    first.2 ∙ ap (tokens_from 0) same.pieces ∙ sym second.2

spelled_not_stuck_at_byte : (text : List ℕ) (tokens : List Placed) (at : ℕ) → Spells text tokens → IsStuckAtByte text at → ⊥
spelled_not_stuck_at_byte text tokens at spells stuck =
    let same = same_row text spells.0 [] stuck.0 stuck.1 spells.1 stuck.2 nil_final (nothing_final stuck.1 stuck.4) in
    stuck.4.0 (sym same.after)

spelled_not_stuck_at_number : (text : List ℕ) (tokens : List Placed) (at : ℕ) → Spells text tokens → IsStuckAtNumber text at → ⊥
spelled_not_stuck_at_number text tokens at spells stuck =
    let same = same_row text spells.0 [] stuck.0 stuck.1 spells.1 stuck.2 nil_final (large_final stuck.1 stuck.4) in
    let P : List ℕ → Type 0 = BeginsTooLarge in nil_not_large (subst P (sym same.after) stuck.4)

one_byte : (text : List ℕ) (at place : ℕ) → IsStuckAtByte text at → IsStuckAtByte text place → at ≡ place
one_byte text at place one other =
    let same = same_row text one.0 one.1 other.0 other.1 one.2 other.2 (nothing_final one.1 one.4) (nothing_final other.1 other.4) in
    one.3 ∙ ap pieces_length same.pieces ∙ sym other.3

one_number : (text : List ℕ) (at place : ℕ) → IsStuckAtNumber text at → IsStuckAtNumber text place → at ≡ place
one_number text at place one other =
    let same = same_row text one.0 one.1 other.0 other.1 one.2 other.2 (large_final one.1 one.4) (large_final other.1 other.4) in
    one.3 ∙ ap pieces_length same.pieces ∙ sym other.3

byte_or_number : (text : List ℕ) (at place : ℕ) → IsStuckAtByte text at → IsStuckAtNumber text place → ⊥
byte_or_number text at place one other =
    let same = same_row text one.0 one.1 other.0 other.1 one.2 other.2 (nothing_final one.1 one.4) (large_final other.1 other.4) in
    let large = other.4 in
    one.4.2 large.0 large.1 (same.after ∙ large.2) (inr (inl large.3))

-- a text is read in at most one way
pub read_one_way : (text : List ℕ) → IsReadOneWay text
read_one_way text (Whole one) (Whole other) first second = ap Whole (one_list text one other first second)
read_one_way text (BadByteAt at) (BadByteAt place) first second = ap BadByteAt (one_byte text at place first second)
read_one_way text (TooLargeAt at) (TooLargeAt place) first second = ap TooLargeAt (one_number text at place first second)
read_one_way text (Whole tokens) (BadByteAt at) first second = absurd (spelled_not_stuck_at_byte text tokens at first second)
read_one_way text (Whole tokens) (TooLargeAt at) first second = absurd (spelled_not_stuck_at_number text tokens at first second)
read_one_way text (BadByteAt at) (Whole tokens) first second = absurd (spelled_not_stuck_at_byte text tokens at second first)
read_one_way text (TooLargeAt at) (Whole tokens) first second = absurd (spelled_not_stuck_at_number text tokens at second first)
read_one_way text (BadByteAt at) (TooLargeAt place) first second = absurd (byte_or_number text at place first second)
read_one_way text (TooLargeAt at) (BadByteAt place) first second = absurd (byte_or_number text place at second first)
