-- What a table keeps of its names: that paths can be read back from them. A path puts dots and
-- brackets between names, and no name of a variable or an attribute has one in it; and each
-- top-level variable is found by its name.
use Rattle.std.specs.Prelude.{◌≡◌, ℕ, Bool, true, not, ◌&&◌, List, [], ◌∷◌, Some, nat_eq, slice_get, All}
use Rattle.class_table.specs.declared.names.NameMeaning.TheVariants as meaning
use Rattle.class_table.specs.declared.table.Variable.{Variable}
use Rattle.class_table.specs.Names.{means}
use Rattle.class_table.specs.Outline.{Outline, attributes}

-- this byte isn't in the text
abbrev pub lacks : ℕ → List ℕ → Bool
lacks b [] = true
lacks b (x ∷ xs) = not (nat_eq x b) && lacks b xs

-- a dot and an opening bracket, which end a name in a path
abbrev pub dot : ℕ
dot = 46

abbrev pub bracket : ℕ
bracket = 91

abbrev pub IsPlain : Variable → Type 0
IsPlain v = (lacks dot v.name && lacks bracket v.name) ≡ true

-- no name of a variable or an attribute has a dot or a bracket, and the name of each top-level
-- variable means that variable
pub record IsNamed (o : Outline) : Type 0 where
  pub roots : All IsPlain o.roots
  pub attributes : (c : ℕ) → All IsPlain (attributes o.classes c)
  pub meant : (k : ℕ) (v : Variable) → slice_get o.roots k ≡ Some v → means o.names v.name
      ≡ Some (meaning.Variable k)
