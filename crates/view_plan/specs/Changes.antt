-- How two values of one leaf differ, and which differences a reconfiguration counts.
use Rattle.std.specs.Prelude.{ℕ, ◌==◌, Bool, true, false, not, ◌&&◌, ◌||◌, if◌then◌else◌, List, [], ◌∷◌, Option, None, Some, ℤ, int_le, is_some, length, bytes_eq}
use Rattle.std.specs.Option.{option_map_or}
use Rattle.std.specs.Float.Ieee as ieee
use Rattle.serde_json.specs.Data.{Num, Data, null, boolean, number, string, array, object, Items}
use Rattle.serde_json.specs.Events.{items_len}
use Rattle.serde_json.specs.Find.{as_null, as_bool, as_number, as_str, as_array, as_object, as_integer, to_float}
use Rattle.view_plan.specs.Words.{Words, words_of, lacking}

-- what became of a leaf: it was added, removed, or has another value; of a set which members were
-- added and taken, and whether both were sets of one size in which no member stood twice
pub data PlanChange : Type 0 where
  Added : Data → PlanChange
  Removed : Data → PlanChange
  Changed : Data → Data → PlanChange
  Members : Words → Words → Bool → PlanChange

abbrev pub same_truth : Bool → Bool → Bool
same_truth true b = b
same_truth false b = not b

-- whole numbers by value, and others too; none of the first is one of the second
abbrev pub same_values : Option ℤ → Option ℤ → Num → Num → Bool
same_values (Some y) (Some z) m n = int_le y z && int_le z y
same_values (Some y) None m n = false
same_values None (Some z) m n = false
same_values None None m n = ieee.eq (to_float m) (to_float n)

abbrev pub same_number : Num → Num → Bool
same_number m n = same_values (as_integer m) (as_integer n) m n

-- whether the values of two leaves, of which none is a set, are the same; an object that is a leaf
-- has no parts
abbrev pub same_value : Data → Data → Bool
same_value null e = is_some (as_null e)
same_value (boolean b) e = option_map_or (same_truth b) (as_bool e) false
same_value (number n) e = option_map_or (same_number n) (as_number e) false
same_value (string s) e = option_map_or (bytes_eq s) (as_str e) false
same_value (array ds) e = false
same_value (object ms) e = is_some (as_object e)

-- both are sets of one size, and no word stands twice in the first
abbrev pub fits : Items → Items → Bool
fits ds es = (items_len ds == length (words_of [] ds)) && (items_len ds == items_len es)

abbrev pub set_change : Words → Words → Bool → Option PlanChange
set_change added taken both =
    if (length added == 0) && (length taken == 0) then None else Some (Members added taken both)

-- sets differ by their words, whatever the order
abbrev pub members_change : Items → Items → Option PlanChange
members_change ds es =
    set_change (lacking (words_of [] es) (words_of [] ds)) (lacking (words_of [] ds) (words_of [] es))
    (fits ds es)

abbrev pub change_by : Option Items → Option Items → Data → Data → Option PlanChange
change_by (Some ds) (Some es) d e = members_change ds es
change_by (Some ds) None d e = Some (Changed d e)
change_by None (Some es) d e = Some (Changed d e)
change_by None None d e = if same_value d e then None else Some (Changed d e)

-- how a leaf that had the first value differs where it has the second
abbrev pub change_between : Data → Data → Option PlanChange
change_between d e = change_by (as_array d) (as_array e) d e

abbrev pub is_whole : Num → Bool
is_whole n = is_some (as_integer n)

-- whether both are values of one kind: truth values, whole numbers or words
abbrev pub alike : Data → Data → Bool
alike null e = false
alike (boolean b) e = is_some (as_bool e)
alike (number n) e = is_whole n && option_map_or is_whole (as_number e) false
alike (string s) e = is_some (as_str e)
alike (array ds) e = false
alike (object ms) e = false

-- whether a change counts: the leaf had a value of its kind before and has another one now
abbrev pub is_counted : PlanChange → Bool
is_counted (Added d) = false
is_counted (Removed d) = false
is_counted (Changed d e) = alike d e
is_counted (Members added taken both) = both
