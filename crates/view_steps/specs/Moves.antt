-- Where a move goes from and to, the sizes that it moves, and its halves by way of a stop.
use Rattle.std.specs.Prelude.{ℕ, ℤ, pos, ◌-ℤ◌, Bool, false, not, ◌&&◌, if◌then◌else◌, List, Option, None, Some, bytes_eq, filter, map, is_some}
use Rattle.std.specs.List.{list_all}
use Rattle.serde_json.specs.Data.{Data}
use Rattle.serde_json.specs.Find.{as_str, as_array}
use Rattle.view_leaves.specs.Paths.{Path}
use Rattle.view_picture.specs.Mentions.{is_named, has_word}
use Rattle.view_picture.specs.Picture.{PictureSize, amount}
use Rattle.view_plan.specs.Changes.{PlanChange, Added, Removed, Changed, Members}
use Rattle.view_plan.specs.Plan.{PlanLine}

-- the lines of an attribute
abbrev pub moves_among : List ℕ → List PlanLine → List PlanLine
moves_among a ls = filter (λ (l : PlanLine). is_named a l.0) ls

abbrev pub is_single : Data → Bool
is_single d = not (is_some (as_array d))

-- whether a change is of one reference, and of no set
abbrev pub is_plain : PlanChange → Bool
is_plain (Added e) = is_single e
is_plain (Removed d) = is_single d
is_plain (Changed d e) = is_single d && is_single e
is_plain (Members added taken both) = false

abbrev pub are_plain : List PlanLine → Bool
are_plain ls = list_all (λ (l : PlanLine). is_plain l.1) ls

abbrev pub from_word : PlanChange → Option (List ℕ)
from_word (Added e) = None
from_word (Removed d) = as_str d
from_word (Changed d e) = as_str d
from_word (Members added taken both) = None

abbrev pub to_word : PlanChange → Option (List ℕ)
to_word (Added e) = as_str e
to_word (Removed d) = None
to_word (Changed d e) = as_str e
to_word (Members added taken both) = None

abbrev pub is_word : Option (List ℕ) → List ℕ → Bool
is_word None w = false
is_word (Some v) w = bytes_eq w v

abbrev pub refers_to : List ℕ → Option Data → Bool
refers_to w None = false
refers_to w (Some d) = has_word w d

-- the sizes of a guest, and the same with turned signs
abbrev pub amounts : Data → List PictureSize → Path → List ℤ
amounts d sizes p = map (λ (s : PictureSize). amount d s.name p) sizes

abbrev pub turned : List ℤ → List ℤ
turned vs = map (λ v. pos 0 -ℤ v) vs

-- ---- by way of a stop

-- whether these are three words, of which the first is neither of the others
abbrev pub is_other : Option (List ℕ) → Option (List ℕ) → Option (List ℕ) → Bool
is_other None a b = false
is_other (Some s) None b = false
is_other (Some s) (Some a) None = false
is_other (Some s) (Some a) (Some b) = not (bytes_eq a s) && not (bytes_eq b s)

-- the first half of a move by way of a stop, where there is one and the move goes from one holder to
-- another, of which neither is the stop
abbrev pub to_stop : Option Data → PlanChange → Option PlanChange
to_stop None c = None
to_stop (Some s) (Added e) = None
to_stop (Some s) (Removed d) = None
to_stop (Some s) (Changed d e) =
    if is_other (as_str s) (as_str d) (as_str e) then Some (Changed d s) else None
to_stop (Some s) (Members added taken both) = None

-- the second half
abbrev pub from_stop : Option Data → PlanChange → PlanChange
from_stop None c = c
from_stop (Some s) (Added e) = Added e
from_stop (Some s) (Removed d) = Removed d
from_stop (Some s) (Changed d e) = Changed s e
from_stop (Some s) (Members added taken both) = Members added taken both

-- what stands where something went to the stop
abbrev pub on_stop : Option Data → Data → Data
on_stop None d = d
on_stop (Some s) d = s
