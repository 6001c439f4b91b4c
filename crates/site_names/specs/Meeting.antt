-- Which words meet: the first that is the same as an earlier one, and that one, by their places.
use Rattle.std.specs.Prelude.{ℕ, Bool, List, [], ◌∷◌, ◌++◌, Option, None, nat_eq, if◌then◌else◌, length, position, option_map}
use Rattle.std.specs.List.{list_any}
use Rattle.std.specs.Cmp.Lexicographic.{pointwise}
use Rattle.site_names.specs.declared.pairs.Pair.{Pair}

-- their bytes are the same
abbrev pub same_word : List ℕ → List ℕ → Bool
same_word a b = pointwise nat_eq a b

-- the places of two words that are the same
abbrev pub Meeting : Type 0
Meeting = ℕ × ℕ

abbrev pub pair_seen : Pair → Meeting
pair_seen p = (p.first, p.second)

-- where a word stands among those before it, and how many these are
abbrev pub again : List (List ℕ) → List ℕ → Option Meeting
again seen w = option_map (λ first. (first, length seen)) (position (same_word w) seen)

-- the words that were met all differ; the next one may be one of them
abbrev pub meeting : List (List ℕ) → List (List ℕ) → Option Meeting
meeting seen [] = None
meeting seen (w ∷ ws) =
    if list_any (same_word w) seen then again seen w else meeting (seen ++ w ∷ []) ws
