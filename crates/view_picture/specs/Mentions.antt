-- Who stands where: the guests of a word are the owners of the leaves that refer to it.
use Rattle.std.specs.Prelude.{ℕ, suc, Bool, true, false, ◌&&◌, ◌||◌, if◌then◌else◌, List, [], ◌∷◌, ◌++◌, bytes_eq, map, filter}
use Rattle.serde_json.specs.Data.{Data, null, boolean, number, string, array, object, Items, no_items, item}
use Rattle.view_leaves.specs.Leaves.{PathLeaf}
use Rattle.view_leaves.specs.Paths.{PathStep, Path, index, key}

-- whether a path's last step is to what stands under this key
abbrev pub is_named : List ℕ → Path → Bool
is_named a [] = false
is_named a (index n ∷ []) = false
is_named a (key k ∷ []) = bytes_eq k a
is_named a (s ∷ t ∷ p) = is_named a (t ∷ p)

abbrev pub without_last : Path → Path
without_last [] = []
without_last (s ∷ []) = []
without_last (s ∷ t ∷ p) = s ∷ without_last (t ∷ p)

-- who has the leaf of this path; a variable of the top level stands for itself
abbrev pub owner : Path → Path
owner [] = []
owner (s ∷ []) = s ∷ []
owner (s ∷ t ∷ p) = without_last (s ∷ t ∷ p)

-- whether a value is this word
abbrev pub is_same : List ℕ → Data → Bool
is_same w null = false
is_same w (boolean b) = false
is_same w (number n) = false
is_same w (string s) = bytes_eq w s
is_same w (array ds) = false
is_same w (object ms) = false

abbrev pub has_item : List ℕ → Items → Bool
has_item w no_items = false
has_item w (item d ds) = is_same w d || has_item w ds

-- whether a value is this word, or a set that has it
abbrev pub has_word : List ℕ → Data → Bool
has_word w null = false
has_word w (boolean b) = false
has_word w (number n) = false
has_word w (string s) = bytes_eq w s
has_word w (array ds) = has_item w ds
has_word w (object ms) = false

-- whether a leaf is an attribute of this name that refers to this word
abbrev pub refers : List ℕ → List ℕ → PathLeaf → Bool
refers a w l = is_named a l.0 && has_word w l.1

-- the guests of a word, one for each leaf that refers to it, in order
abbrev pub guests : List ℕ → List ℕ → List PathLeaf → List Path
guests a w ls = map (λ l. owner l.0) (filter (refers a w) ls)

-- the same with the numbers of the leaves, counted from n
abbrev pub numbered : List ℕ → List ℕ → ℕ → List PathLeaf → List (ℕ × Path)
numbered a w n [] = []
numbered a w n (l ∷ ls) =
    (if refers a w l then (n, owner l.0) ∷ [] else []) ++ numbered a w (suc n) ls
