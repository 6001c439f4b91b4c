-- The words of a set: those of an array of strings, each once, in order of their bytes.
use Rattle.std.specs.Prelude.{ℕ, Bool, not, List, [], ◌∷◌, filter}
use Rattle.std.specs.List.{list_any}
use Rattle.std.specs.Ordering.{nat_cmp, match_ordering, is_eq}
use Rattle.std.specs.Cmp.Lexicographic.{slice_cmp}
use Rattle.serde_json.specs.Data.{Data, null, boolean, number, string, array, object, Items, no_items, item}

abbrev pub Words : Type 0
Words = List (List ℕ)

-- these words with one more, at its place in the order
abbrev pub with_word : Words → List ℕ → Words
with_word [] w = w ∷ []
with_word (v ∷ vs) w =
    match_ordering (slice_cmp nat_cmp w v) (w ∷ v ∷ vs) (v ∷ vs) (v ∷ with_word vs w)

abbrev pub with_value : Words → Data → Words
with_value ws null = ws
with_value ws (boolean b) = ws
with_value ws (number n) = ws
with_value ws (string s) = with_word ws s
with_value ws (array ds) = ws
with_value ws (object ms) = ws

-- these words and those of the strings
abbrev pub words_of : Words → Items → Words
words_of ws no_items = ws
words_of ws (item d ds) = words_of (with_value ws d) ds

abbrev pub has_word : Words → List ℕ → Bool
has_word ws w = list_any (λ v. is_eq (slice_cmp nat_cmp w v)) ws

-- the words of the first that the second lacks
abbrev pub lacking : Words → Words → Words
lacking ws other = filter (λ w. not (has_word other w)) ws
