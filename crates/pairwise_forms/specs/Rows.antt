-- Items by their variables. What a reader believes after this file: which variables stand for the
-- places, sizes and rooms of items.
use Rattle.std.specs.Prelude.{◌≡◌, ℕ, List, ℤ, length, map}
use Rattle.std.specs.List.{All}
use Rattle.ground_form.specs.declared.ground.Ground.{Ground}
use Rattle.ground_form.specs.Meaning.{value_of}
use Rattle.ground_build.specs.Growing.{AreItemVariables}
use Rattle.form_build.specs.Forms.{linear_at}
use Rattle.form_build.specs.Worlds.{IsWorld}
use Rattle.pairwise_forms.specs.declared.members.Packed.{Packed}

-- the values of a place, a size and a room
abbrev pub row_values : ℕ × ℕ × ℕ → List ℤ → ℤ × ℤ × ℤ
row_values r a = (value_of a r.0, value_of a r.1, value_of a r.2)

abbrev pub item_values : Packed → List ℤ → ℤ × ℤ × ℤ
item_values e a = (value_of a e.place, linear_at e.size a, linear_at e.room a)

-- the variables of the items in every world, in order
pub record AreRows (g : Ground) (es : List Packed) (rows : List (ℕ × ℕ × ℕ)) : Type 0 where
  pub exist : All (AreItemVariables g) rows
  pub count : length rows ≡ length es
  pub seen : (a : List ℤ) → IsWorld g a → map (λ (r : ℕ × ℕ × ℕ). row_values r a) rows
      ≡ map (λ (e : Packed). item_values e a) es
