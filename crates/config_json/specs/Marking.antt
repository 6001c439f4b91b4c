-- Objects that are marked while the strings of an array are read.
use Rattle.std.specs.Prelude.{◌≡◌, ℕ, ◌<◌, Bool, false, List, [], length, nat_eq, slice_index_or}
use Rattle.std.specs.List.{list_any}
use Rattle.class_table.specs.Outline.{Outline}
use Rattle.object_alloc.specs.Walk.{objects}
use Rattle.serde_json.specs.Data.{Items}
use Rattle.config_json.specs.Former.{members_in}

-- the marks are those of the objects that were named so far; with the strings that are left they
-- are those of all
pub record IsMarking (o : Outline) (c : ℕ) (all left : Items) (flags : List Bool) : Type 0 where
  pub seen : List ℕ
  pub left_is : members_in o c seen left ≡ members_in o c [] all
  pub count : length flags ≡ length (objects o)
  pub flags_are : (n : ℕ) → n < length (objects o) → slice_index_or flags n false
      ≡ list_any (nat_eq n) seen
