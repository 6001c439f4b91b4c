-- What a user may name: attributes that leaves have, parts, and objects.
use Rattle.std.specs.Prelude.{ℕ, Bool, false, ◌&&◌, List, bytes_eq, is_some}
use Rattle.std.specs.List.{list_all, list_any}
use Rattle.std.specs.Option.{option_map_or}
use Rattle.serde_json.specs.Data.{Data}
use Rattle.serde_json.specs.Find.{as_object}
use Rattle.view_leaves.specs.Leaves.{PathLeaf}
use Rattle.view_leaves.specs.Paths.{Path}
use Rattle.view_leaves.specs.Spelling.{path_text}
use Rattle.view_picture.specs.Lookup.{value_at}
use Rattle.view_picture.specs.Mentions.{is_named}
use Rattle.view_picture.specs.Parts.{parts}

abbrev pub has_attribute : List ℕ → List PathLeaf → Bool
has_attribute a ls = list_any (λ l. is_named a l.0) ls

abbrev pub is_among : List Path → List ℕ → Bool
is_among ps w = list_any (λ p. bytes_eq (path_text p) w) ps

-- whether each of these words is the path of a part
abbrev pub are_parts : List PathLeaf → List (List ℕ) → Bool
are_parts ls ws = list_all (is_among (parts ls)) ws

-- whether an object stands at a path, and whether a part is an object whose path is this word
abbrev pub is_object : Data → Path → Bool
is_object d p = option_map_or (λ v. is_some (as_object v)) (value_at p d) false

abbrev pub is_object_named : Data → List ℕ → Path → Bool
is_object_named d w p = bytes_eq (path_text p) w && is_object d p

abbrev pub has_object : Data → List PathLeaf → List ℕ → Bool
has_object d ls w = list_any (is_object_named d w) (parts ls)
