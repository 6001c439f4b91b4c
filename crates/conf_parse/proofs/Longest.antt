-- Where a word, a row of digits or a mark is the longest that begins at its place.
use Rattle.std.proofs.Common.{◌≡◌, ℕ, true, false, Bool, List, [], ◌∷◌, ◌++◌, refl, subst}
use Rattle.std.specs.Char.{is_ascii_digit}
use Rattle.std.specs.List.{list_all}
use Rattle.conf_syntax.specs.Spelling.{goes_on, is_word, is_digits, IsLongest, Stops}
use Rattle.conf_parse.specs.Marks.{is_pair, is_single}
use Rattle.conf_parse.proofs.Bools.{and_left, and_left_false, and_right_false, or_false}
use Rattle.conf_parse.proofs.Lexemes.{is_symbol, is_lexeme, lexeme, is_other, symbol_first, no_symbol, letter_no_digit, digit_no_letter, letter_other, digit_other, other_letter, other_digit}

-- no lexeme has `bytes` and more
record HasNoMore (bytes behind : List ℕ) : Type 0 where
  pub none : (m : ℕ) (more back : List ℕ) → behind ≡ m ∷ (more ++ back) → is_lexeme (bytes ++ m ∷ more) ≡ false

longest_by : (bytes behind : List ℕ) → HasNoMore bytes behind → IsLongest bytes behind
longest_by bytes behind has [] back is some longer = some refl
longest_by bytes behind has (m ∷ more) back is some longer =
    let fails = has.none m more back is in let holds = lexeme (bytes ++ m ∷ more) longer in cc

-- a byte that ends a row
stopped : (test : ℕ → Bool) (behind : List ℕ) (m : ℕ) (rest : List ℕ) → Stops test behind → behind ≡ m ∷ rest → test m ≡ false
stopped test behind m rest stops is = let P : List ℕ → Type 0 = Stops test in subst P is stops

all_but : (test : ℕ → Bool) (bytes : List ℕ) (m : ℕ) (more : List ℕ) → test m ≡ false → list_all test (bytes ++ m ∷ more) ≡ false
all_but test [] m more fails = and_left_false (test m) (list_all test more) fails
all_but test (b ∷ bytes) m more fails = and_right_false (test b) _ (all_but test bytes m more fails)

word_no_more : (bytes : List ℕ) (m : ℕ) (more : List ℕ) → is_word bytes ≡ true → goes_on m ≡ false → is_lexeme (bytes ++ m ∷ more) ≡ false
word_no_more [] m more word stop = cc
word_no_more (b ∷ bytes) m more word stop =
    let letter = and_left _ _ word in
    or_false _ _ _ (and_right_false _ _ (all_but goes_on bytes m more stop)) (and_left_false _ _ (letter_no_digit b letter)) (no_symbol b _ (letter_other b letter))

digits_no_more : (bytes : List ℕ) (m : ℕ) (more : List ℕ) → is_digits bytes ≡ true → is_ascii_digit m ≡ false → is_lexeme (bytes ++ m ∷ more) ≡ false
digits_no_more [] m more digits stop = cc
digits_no_more (b ∷ bytes) m more digits stop =
    let digit = and_left _ _ digits in
    or_false _ _ _ (and_left_false _ _ (digit_no_letter b digit)) (and_right_false _ _ (all_but is_ascii_digit bytes m more stop)) (no_symbol b _ (digit_other b digit))

symbol_no_more : (b : ℕ) (bytes : List ℕ) → is_other b ≡ false → is_symbol (b ∷ bytes) ≡ false → is_lexeme (b ∷ bytes) ≡ false
symbol_no_more b bytes none last =
    or_false _ _ _ (and_left_false _ _ (other_letter b none)) (and_left_false _ _ (other_digit b none)) last

pub longest_word : (bytes behind : List ℕ) → is_word bytes ≡ true → Stops goes_on behind → IsLongest bytes behind
longest_word bytes behind word stops =
    longest_by bytes behind (record { none = λ m more back is. word_no_more bytes m more word (stopped goes_on behind m (more ++ back) stops is) })

pub longest_digits : (bytes behind : List ℕ) → is_digits bytes ≡ true → Stops is_ascii_digit behind → IsLongest bytes behind
longest_digits bytes behind digits stops =
    longest_by bytes behind (record { none = λ m more back is. digits_no_more bytes m more digits (stopped is_ascii_digit behind m (more ++ back) stops is) })

pub longest_pair : (b c : ℕ) (behind : List ℕ) → is_pair b c ≡ true → IsLongest (b ∷ c ∷ []) behind
longest_pair b c behind pair =
    longest_by (b ∷ c ∷ []) behind (record { none = λ m more back is. symbol_no_more b (c ∷ m ∷ more) (symbol_first b (c ∷ []) pair) refl })

single_no_more : (b m : ℕ) (more : List ℕ) → is_pair b m ≡ false → is_symbol (b ∷ m ∷ more) ≡ false
single_no_more b m [] none = none
single_no_more b m (n ∷ more) none = refl

pub longest_single : (b : ℕ) (behind : List ℕ) → is_single b ≡ true → Stops (is_pair b) behind → IsLongest (b ∷ []) behind
longest_single b behind single stops =
    longest_by (b ∷ []) behind (record { none = λ m more back is. symbol_no_more b (m ∷ more) (symbol_first b [] single) (single_no_more b m more (stopped (is_pair b) behind m (more ++ back) stops is)) })
