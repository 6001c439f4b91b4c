-- Values by their paths.
use Rattle.std.specs.Prelude.{ℤ, List, ℕ, [], ◌∷◌, codes, Option, None, Some, option_and_then}
use Rattle.serde_json.specs.Data.{Data}
use Rattle.serde_json.specs.Find.{get, at, as_number, as_i64, as_str}
use Rattle.view_leaves.specs.Paths.{PathStep, Path, index, key}

-- what stands where a step goes, and where a path does
abbrev pub value_into : PathStep → Data → Option Data
value_into (index n) d = at n d
value_into (key k) d = get k d

abbrev pub value_at : Path → Data → Option Data
value_at [] d = Some d
value_at (s ∷ p) d = option_and_then (value_at p) (value_into s d)

-- the number of a name: a whole one of 64 bits
abbrev pub number_of : List ℕ → Data → Option ℤ
number_of k d = option_and_then as_i64 (option_and_then as_number (get k d))

abbrev pub class_of : Data → Option (List ℕ)
class_of d = option_and_then as_str (get (codes "class") d)
