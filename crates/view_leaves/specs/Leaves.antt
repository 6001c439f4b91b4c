-- The leaves of a configuration: what stands in its objects, at any depth, and isn't made of parts.
use Rattle.std.specs.Prelude.{◌≡◌, ℕ, suc, Bool, true, false, not, ◌&&◌, ◌||◌, if◌then◌else◌, List, [], ◌∷◌, ◌++◌, Option, Some, None, codes, bytes_eq, ⊤}
use Rattle.std.specs.Option.{option_map_or}
use Rattle.std.specs.declared.cmp.Ordering.TheVariants.{Less}
use Rattle.std.specs.Ordering.{nat_cmp}
use Rattle.std.specs.Cmp.Lexicographic.{slice_cmp}
use Rattle.serde_json.specs.Data.{Num, Data, null, boolean, number, string, array, object, Items, no_items, item, Members, no_members, member}
use Rattle.serde_json.specs.Find.{as_object}
use Rattle.view_leaves.specs.Paths.{Path, index, key}

-- a leaf: its path and its value
abbrev pub PathLeaf : Type 0
PathLeaf = Path × Data

abbrev pub is_word : Data → Bool
is_word null = false
is_word (boolean b) = false
is_word (number n) = false
is_word (string s) = true
is_word (array ds) = false
is_word (object ms) = false

-- an array of strings is a set, which is one leaf; so is an empty array
abbrev pub all_words : Items → Bool
all_words no_items = true
all_words (item d ds) = is_word d && all_words ds

-- the key that tells an object's class, of which the leaves don't tell
abbrev pub is_class : List ℕ → Bool
is_class k = bytes_eq k (codes "class")

-- whether an object has parts; one without any is a leaf
abbrev pub has_parts : Members → Bool
has_parts no_members = false
has_parts (member k d ms) = not (is_class k) || has_parts ms

-- the leaves of what stands at a path, those of the elements from number n on, and those of an
-- object's parts
abbrev mutual
  pub leaves_from : Path → Data → List PathLeaf
  leaves_from p null = (p, null) ∷ []
  leaves_from p (boolean b) = (p, boolean b) ∷ []
  leaves_from p (number n) = (p, number n) ∷ []
  leaves_from p (string s) = (p, string s) ∷ []
  leaves_from p (array ds) = if all_words ds then (p, array ds) ∷ [] else item_leaves p 0 ds
  leaves_from p (object ms) = if has_parts ms then member_leaves p ms else (p, object ms) ∷ []

  pub item_leaves : Path → ℕ → Items → List PathLeaf
  item_leaves p n no_items = []
  item_leaves p n (item d ds) = leaves_from (p ++ index n ∷ []) d ++ item_leaves p (suc n) ds

  pub member_leaves : Path → Members → List PathLeaf
  member_leaves p no_members = []
  member_leaves p (member k d ms) =
      (if is_class k then [] else leaves_from (p ++ key k ∷ []) d) ++ member_leaves p ms

-- the leaves of a configuration; a value that is no object has none
abbrev pub leaves : Data → List PathLeaf
leaves d = option_map_or (member_leaves []) (as_object d) []

-- each of these keys stands behind this one
abbrev pub AreBehind : List ℕ → Members → Type 0
AreBehind k no_members = ⊤
AreBehind k (member l d ms) = (slice_cmp nat_cmp k l ≡ Less) × AreBehind k ms

-- the keys of each object ascend, of those that the leaves come from
abbrev mutual
  pub IsInOrder : Data → Type 0
  IsInOrder null = ⊤
  IsInOrder (boolean b) = ⊤
  IsInOrder (number n) = ⊤
  IsInOrder (string s) = ⊤
  IsInOrder (array ds) = all_words ds ≡ false → AreInOrder ds
  IsInOrder (object ms) = has_parts ms ≡ true → MembersInOrder ms

  pub AreInOrder : Items → Type 0
  AreInOrder no_items = ⊤
  AreInOrder (item d ds) = IsInOrder d × AreInOrder ds

  pub MembersInOrder : Members → Type 0
  MembersInOrder no_members = ⊤
  MembersInOrder (member k d ms) =
      AreBehind k ms × (is_class k ≡ false → IsInOrder d) × MembersInOrder ms
