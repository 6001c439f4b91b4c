-- The objects that failed. What a reader believes after this file: which objects some words name,
-- and which word is refused.
use Rattle.std.specs.Prelude.{◌≡◌, ℕ, ◌+◌, cond, List, [], ◌∷◌, Option, None, Some, filter_map, is_some}
use Rattle.class_table.specs.Outline.{Outline}
use Rattle.object_alloc.specs.Paths.{object_named}
use Rattle.reconfigure.specs.declared.failed.FailedError.{FailedError}
use Rattle.reconfigure.specs.declared.failed.FailedError.TheVariants.{UnknownObject, Memory}

-- the objects whose paths the words are, in order
abbrev pub objects_named : Outline → List (List ℕ) → List ℕ
objects_named o words = filter_map (object_named o) words

-- the number of the first word that is no object's path, where the first word has number n
abbrev pub unknown_from : Outline → ℕ → List (List ℕ) → Option ℕ
unknown_from o n [] = None
unknown_from o n (w ∷ ws) =
    cond (is_some (object_named o w)) (unknown_from o (n + 1) ws) (Some n)

-- the number, counted from 1, of the first word that is no object's path
abbrev pub unknown_word : Outline → List (List ℕ) → Option ℕ
unknown_word o words = unknown_from o 1 words

-- when there is no answer: a word names no object, the first such one; or all name one, and memory
-- lacks
abbrev pub IsFailedError : Outline → List (List ℕ) → FailedError → Type 0
IsFailedError o words (UnknownObject n) = unknown_word o words ≡ Some n
IsFailedError o words Memory = unknown_word o words ≡ None
