-- How paths and values are spelled: as the language spells them where their bytes allow, and in
-- quotes where not, so that no byte but a printable one of ASCII is written.
use Rattle.std.specs.Prelude.{ℕ, Bool, true, false, not, ◌&&◌, ◌||◌, ◌==◌, ◌+◌, ◌/◌, ◌%◌, if◌then◌else◌, nat_le, nat_lt, List, [], ◌∷◌, ◌++◌, codes, bytes_eq, decimal}
use Rattle.std.specs.List.{flat_map, list_all}
use Rattle.serde_json.specs.Data.{Num, unsigned, negative, float, Data, null, boolean, number, string, array, object, Items, no_items, item}
use Rattle.serde_json.specs.Find.{is_float}
use Rattle.serde_json.specs.Written.{number_text}
use Rattle.view_leaves.specs.Paths.{PathStep, Path, index, key}

-- ---- quoted text

abbrev pub hex_digit : ℕ → ℕ
hex_digit n = if nat_lt n 10 then n + 48 else n + 87

-- a quote or a backslash has a backslash before it; a byte that isn't printable ASCII is `\x` and
-- two digits
abbrev pub escaped_byte : ℕ → List ℕ
escaped_byte b =
    if b == 34 || b == 92 then 92 ∷ b ∷ []
    else if nat_le 32 b && nat_le b 126 then b ∷ []
    else 92 ∷ 120 ∷ hex_digit (b / 16) ∷ hex_digit (b % 16) ∷ []

abbrev pub quoted : List ℕ → List ℕ
quoted bytes = 34 ∷ flat_map escaped_byte bytes ++ 34 ∷ []

-- ---- paths

abbrev pub is_letter : ℕ → Bool
is_letter b = (nat_le 65 b && nat_le b 90) || (nat_le 97 b && nat_le b 122) || b == 95

-- a letter, a digit or `_`
abbrev pub is_name_byte : ℕ → Bool
is_name_byte b = is_letter b || (nat_le 48 b && nat_le b 57)

-- a key that is spelled as it is
abbrev pub is_plain_key : List ℕ → Bool
is_plain_key [] = false
is_plain_key (b ∷ bytes) = list_all is_name_byte (b ∷ bytes)

abbrev pub key_text : List ℕ → List ℕ
key_text k = if is_plain_key k then k else quoted k

-- a step: `[3]`, or a dot and the key
abbrev pub step_text : PathStep → List ℕ
step_text (index n) = 91 ∷ decimal n ++ 93 ∷ []
step_text (key k) = 46 ∷ key_text k

-- the first step has no dot
abbrev pub first_text : PathStep → List ℕ
first_text (index n) = step_text (index n)
first_text (key k) = key_text k

abbrev pub path_text : Path → List ℕ
path_text [] = []
path_text (s ∷ p) = first_text s ++ flat_map step_text p

-- ---- values

-- a byte of a path: one of a name, a dot or a bracket
abbrev pub is_path_byte : ℕ → Bool
is_path_byte b = is_name_byte b || b == 46 || b == 91 || b == 93

-- a word of JSON that is no string
abbrev pub is_literal : List ℕ → Bool
is_literal w =
    bytes_eq w (codes "true") || bytes_eq w (codes "false") || bytes_eq w (codes "null")

-- a string that is spelled without quotes: it reads as a name or a path
abbrev pub is_plain_word : List ℕ → Bool
is_plain_word [] = false
is_plain_word (b ∷ bytes) =
    is_letter b && list_all is_path_byte bytes && not (is_literal (b ∷ bytes))

abbrev pub word_text : List ℕ → List ℕ
word_text w = if is_plain_word w then w else quoted w

abbrev pub truth_text : Bool → List ℕ
truth_text true = codes "true"
truth_text false = codes "false"

abbrev pub item_text : Data → List ℕ
item_text null = []
item_text (boolean b) = []
item_text (number n) = []
item_text (string s) = word_text s
item_text (array ds) = []
item_text (object ms) = []

-- the words of a set, parted by a comma and a space
abbrev pub words_text : Bool → Items → List ℕ
words_text later no_items = []
words_text later (item d ds) =
    (if later then codes ", " else []) ++ item_text d ++ words_text true ds

-- the value of a leaf
abbrev pub value_text : Data → List ℕ
value_text null = codes "null"
value_text (boolean b) = truth_text b
value_text (number n) = number_text n
value_text (string s) = word_text s
value_text (array ds) = 91 ∷ words_text false ds ++ 93 ∷ []
value_text (object ms) = codes "{}"

-- a number with a fraction or an exponent; how it is spelled isn't said here
abbrev pub is_fraction : Data → Bool
is_fraction null = false
is_fraction (boolean b) = false
is_fraction (number n) = is_float n
is_fraction (string s) = false
is_fraction (array ds) = false
is_fraction (object ms) = false
