-- Which texts the columns of the hosts have.
use Rattle.std.specs.Prelude.{ℕ, Bool, List, [], is_some, map, position, slice_get, unwrap_or}
use Rattle.std.specs.List.{list_all}
use Rattle.site_names.specs.Meeting.{same_word}
use Rattle.site_tables.specs.Grid.{GridCell, GridRow}
use Rattle.site_tables.specs.Values.{values_at}

-- the texts of each column
abbrev pub known_texts : List GridRow → List GridCell → List (List (List ℕ))
known_texts rows columns = map (λ c. values_at c.0 [] rows) columns

-- whether a column has this text
abbrev pub is_known : List (List (List ℕ)) → ℕ → List ℕ → Bool
is_known known k t = is_some (position (same_word t) (unwrap_or (slice_get known k) []))

abbrev pub are_known : List (List (List ℕ)) → ℕ → List (List ℕ) → Bool
are_known known k ts = list_all (is_known known k) ts
