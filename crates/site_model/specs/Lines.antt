-- Lines of a model, made of pieces.
use Rattle.std.specs.Prelude.{ℕ, List, [], ◌∷◌, ◌++◌, codes, replicate}
use Rattle.std.specs.List.{flat_map}
use Rattle.site_names.specs.Words.{word_of}

-- pieces, one behind the other
abbrev pub joined : List (List ℕ) → List ℕ
joined pieces = flat_map (λ p. p) pieces

-- the enumeration of the values of a label is named as the label, with an s
abbrev pub values_word : List ℕ → List ℕ
values_word column = word_of (column ++ codes "s")

-- the end of a constraint, with the operator's name behind it
abbrev pub remark : List ℕ → List (List ℕ)
remark name = codes ";  // " ∷ name ∷ codes "\n" ∷ []

-- the greatest number of so many digits
abbrev pub nines : ℕ → List ℕ
nines n = replicate n 57
