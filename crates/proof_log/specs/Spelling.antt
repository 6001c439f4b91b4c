-- How the lines of a log are spelled. What a reader believes after this file: each line has one
-- text, made of its word and then its pieces, each behind one space; numbers are decimal with no
-- leading zero, sets are their ranges in order.
use Rattle.std.specs.Prelude.{◌≡◌, ℕ, ◌<◌, ◌^◌, false, cond, List, [], ◌∷◌, ◌++◌, ℤ, pos, negsuc, ◌≤ℤ◌, map, codes, decimal, Bool, not, ◌==◌}
use Rattle.std.specs.Fmt.{signed_decimal}
use Rattle.std.specs.List.{AllByRecursion, list_all}
use Rattle.std.specs.Ordering.{int_eq}
use Rattle.signed_clause.specs.Ranges.{Ranges, IsValid, is_nil}
use Rattle.signed_clause.specs.Clauses.{Literals, IsClause}
use Rattle.log_form.specs.declared.line.Line.{Line}
use Rattle.log_form.specs.declared.line.Line.TheVariants.{Axiom, Chain, Bound, Use, Found, Decide, Empty}

-- ---- pieces

-- a range: both ends with two points between, or the one value alone
abbrev pub range_text : ℤ × ℤ → List ℕ
range_text r =
    cond (int_eq r.0 r.1) (signed_decimal r.0) (signed_decimal r.0 ++ codes ".."
    ++ signed_decimal r.1)

-- texts, each with the separator before it
abbrev pub behind : ℕ → List (List ℕ) → List ℕ
behind separator [] = []
behind separator (text ∷ texts) = separator ∷ text ++ behind separator texts

-- texts with the separator between them
abbrev pub joined : ℕ → List (List ℕ) → List ℕ
joined separator [] = []
joined separator (text ∷ texts) = text ++ behind separator texts

-- a set: its ranges with commas between them; of the empty set this is no byte
abbrev pub set_text : Ranges → List ℕ
set_text s = joined 44 (map range_text s)

-- a literal: variable, colon, set
abbrev pub literal_text : ℕ × List (ℤ × ℤ) → List ℕ
literal_text l = decimal l.0 ++ 58 ∷ set_text l.1

-- a step of a chain: variable, colon, number of a clause
abbrev pub step_text : ℕ × ℕ → List ℕ
step_text s = decimal s.0 ++ 58 ∷ decimal s.1

-- ---- lines

-- the word that a line begins with
abbrev pub word_of : Line → List ℕ
word_of (Axiom k c) = codes "axiom"
word_of (Chain chain c) = codes "chain"
word_of (Bound values) = codes "bound"
word_of (Use i) = codes "use"
word_of (Found values) = codes "found"
word_of (Decide x set) = codes "decide"
word_of (Empty x) = codes "empty"

-- what stands behind it
abbrev pub pieces_of : Line → List (List ℕ)
pieces_of (Axiom k c) = decimal k ∷ map literal_text c
pieces_of (Chain chain c) =
    decimal chain.first ∷ map step_text chain.steps ++ codes "=" ∷ map literal_text c
pieces_of (Bound values) = map signed_decimal values
pieces_of (Use i) = decimal i ∷ []
pieces_of (Found values) = map signed_decimal values
pieces_of (Decide x set) = decimal x ∷ set_text set ∷ []
pieces_of (Empty x) = decimal x ∷ []

-- the text of a line, without the LF that ends it
abbrev pub line_text : Line → List ℕ
line_text l = word_of l ++ behind 32 (pieces_of l)

-- the text of a log: each line ends with one LF
abbrev pub lines_text : List Line → List ℕ
lines_text [] = []
lines_text (l ∷ ls) = line_text l ++ 10 ∷ lines_text ls

-- ---- which lines there are

-- a number of 64 bits with a sign
abbrev pub IsSigned : ℤ → Type 0
IsSigned v = (negsuc 9223372036854775807 ≤ℤ v) × (v ≤ℤ pos 9223372036854775807)

-- a range of such values, up to its end
abbrev pub IsRange : ℤ × ℤ → Type 0
IsRange r = IsSigned r.0 × IsSigned r.1 × (r.0 ≤ℤ r.1)

-- a variable's number has 32 bits, a clause's 64
abbrev pub IsStep : ℕ × ℕ → Type 0
IsStep s = (s.0 < 2 ^ 32) × (s.1 < 2 ^ 64)

-- a literal of a clause: its set is valid and not empty
abbrev pub IsLiteral : ℕ × List (ℤ × ℤ) → Type 0
IsLiteral l = (l.0 < 2 ^ 32) × IsValid l.1 × (is_nil l.1 ≡ false)

-- the literals of a clause
abbrev pub AreLiterals : Literals → Type 0
AreLiterals c = IsClause c × AllByRecursion IsLiteral c

-- the line's numbers are in range, its clause is one, and its set is valid
abbrev pub IsLine : Line → Type 0
IsLine (Axiom k c) = (k < 2 ^ 32) × AreLiterals c
IsLine (Chain chain c) = (chain.first < 2 ^ 64) × AllByRecursion IsStep chain.steps × AreLiterals c
IsLine (Bound values) = AllByRecursion IsSigned values
IsLine (Use i) = i < 2 ^ 64
IsLine (Found values) = AllByRecursion IsSigned values
IsLine (Decide x set) = (x < 2 ^ 32) × IsValid set
IsLine (Empty x) = x < 2 ^ 32

-- the bytes are the text of the line
pub record Spells (bytes : List ℕ) (l : Line) : Type 0 where
  pub line : IsLine l
  pub text : bytes ≡ line_text l

-- ---- reading a piece

-- the text is that of x
abbrev pub IsTextOf : {X : Type 0} → (X → List ℕ) → (X → Type 0) → List ℕ → X → Type 0
IsTextOf spelling IsRight text x = IsRight x × (text ≡ spelling x)

-- the text is that of none
abbrev pub IsTextOfNone : {X : Type 0} → (X → List ℕ) → (X → Type 0) → List ℕ → Type 0
IsTextOfNone {X} spelling IsRight text = (x : X) → IsRight x → text ≡ spelling x → ⊥

-- the separator doesn't stand in the text
abbrev pub lacks : ℕ → List ℕ → Bool
lacks s text = list_all (λ b. not (b == s)) text
