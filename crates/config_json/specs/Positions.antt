-- The positions of objects, as they are kept.
use Rattle.std.specs.Prelude.{◌≡◌, ℕ, ◌<◌, List, Option, None, length, slice_index_or, option_map}
use Rattle.std.specs.Borrow.{Bor}
use Rattle.class_table.specs.Outline.{Outline}
use Rattle.serde_json.specs.declared.value.Value.{Value}
use Rattle.serde_json.specs.Data.{Data}
use Rattle.serde_json.specs.View.{view}
use Rattle.config_json.specs.Former.{object_position}

abbrev pub seen : Option (Bor Value) → Option Data
seen found = option_map (λ (v : Bor Value). view v.now) found

-- the positions of the first so many objects, and no more
pub record ArePositions (o : Outline) (d : Data) (count : ℕ) (positions : List (Option (Bor Value))) :
    Type 0 where
  pub size : length positions ≡ count
  pub each : (n : ℕ) → n < count → seen (slice_index_or positions n None) ≡ object_position o d n
