-- The word of a name: each byte that is no letter or digit is an underscore, one stands before a
-- digit, and one behind a word that can't be a name.
use Rattle.std.specs.Prelude.{ℕ, Bool, true, if◌then◌else◌, List, [], ◌∷◌, ◌++◌, codes, bytes_eq, map}
use Rattle.std.specs.List.{list_any}
use Rattle.std.specs.Char.{is_ascii_alphanumeric, is_ascii_digit}

abbrev pub word_byte : ℕ → ℕ
word_byte b = if is_ascii_alphanumeric b then b else 95

-- nothing, or what begins with a digit
abbrev pub lead : List ℕ → Bool
lead [] = true
lead (b ∷ bytes) = is_ascii_digit b

abbrev pub begun : List ℕ → List ℕ
begun name = (if lead name then 95 ∷ [] else []) ++ map word_byte name

-- the keywords of the language
abbrev pub keywords : List (List ℕ)
keywords =
    codes "enum" ∷ codes "abstract" ∷ codes "class" ∷ codes "extends" ∷ codes "var" ∷ codes "as"
    ∷ codes "int" ∷ codes "bool" ∷ codes "ref" ∷ codes "where" ∷ codes "forall" ∷ codes "foreach"
    ∷ codes "exists" ∷ codes "sum" ∷ codes "count" ∷ codes "alldifferent" ∷ codes "pack"
    ∷ codes "in" ∷ codes "maximize" ∷ codes "minimize" ∷ codes "true" ∷ codes "false"
    ∷ codes "this" ∷ codes "and" ∷ codes "or" ∷ codes "not" ∷ []

-- the words that a model made of tables uses for itself
abbrev pub own_words : List (List ℕ)
own_words =
    codes "Host" ∷ codes "Service" ∷ codes "host" ∷ codes "most" ∷ codes "h" ∷ codes "s"
    ∷ codes "used" ∷ codes "moves" ∷ codes "moved" ∷ []

abbrev pub kept_words : List (List ℕ)
kept_words = keywords ++ own_words

abbrev pub is_kept : List ℕ → Bool
is_kept word = list_any (bytes_eq word) kept_words

abbrev pub word_of : List ℕ → List ℕ
word_of name = begun name ++ (if is_kept (begun name) then 95 ∷ [] else [])
