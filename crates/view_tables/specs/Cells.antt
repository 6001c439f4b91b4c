-- The cells of tables.
use Rattle.std.specs.Prelude.{ℕ, ℤ, Bool, true, false, if◌then◌else◌, List, [], ◌∷◌, ◌++◌, Option, None, Some, codes, bytes_eq, map}
use Rattle.std.specs.List.{flat_map, list_any}
use Rattle.std.specs.Fmt.{signed_decimal}
use Rattle.view_leaves.specs.Spelling.{path_text, value_text, word_text}
use Rattle.view_picture.specs.Picture.{PictureGuest, PictureHolding, PictureLoad, PictureSize}
use Rattle.view_plan.specs.Changes.{PlanChange, Added, Removed, Changed, Members}
use Rattle.view_plan.specs.Plan.{PlanLine}
use Rattle.view_plan.specs.Text.{counts}

-- words, parted by spaces
abbrev pub words_cell : Bool → List (List ℕ) → List ℕ
words_cell later [] = []
words_cell later (w ∷ ws) = (if later then codes " " else []) ++ word_text w ++ words_cell true ws

-- ---- plans

abbrev pub change_name : PlanChange → List ℕ
change_name (Added e) = codes "added"
change_name (Removed d) = codes "removed"
change_name (Changed d e) = codes "changed"
change_name (Members added taken both) = codes "members"

-- what was there: the value, or the members that were taken from a set
abbrev pub old_cell : PlanChange → List ℕ
old_cell (Added e) = []
old_cell (Removed d) = value_text d
old_cell (Changed d e) = value_text d
old_cell (Members added taken both) = words_cell false taken

-- what is there: the value, or the members that were added to a set
abbrev pub new_cell : PlanChange → List ℕ
new_cell (Added e) = value_text e
new_cell (Removed d) = []
new_cell (Changed d e) = value_text e
new_cell (Members added taken both) = words_cell false added

-- 1 where the line counts as a change
abbrev pub count_cell : Bool → List ℕ
count_cell true = codes "1"
count_cell false = codes "0"

abbrev pub line_cells : PlanLine → List (List ℕ)
line_cells l =
    path_text l.0 ∷ change_name l.1 ∷ old_cell l.1 ∷ new_cell l.1 ∷ count_cell (counts l) ∷ []

abbrev pub plan_head : List (List ℕ)
plan_head =
    codes "path" ∷ codes "change" ∷ codes "from" ∷ codes "to" ∷ codes "counts" ∷ []

abbrev pub plan_rows : List PlanLine → List (List (List ℕ))
plan_rows ls = plan_head ∷ map line_cells ls

-- ---- pictures

abbrev pub size_heads : PictureSize → List (List ℕ)
size_heads s = (s.name ++ codes " sum") ∷ (s.capacity ++ codes " capacity") ∷ []

abbrev pub picture_head : List PictureSize → List (List ℕ)
picture_head sizes =
    codes "holder" ∷ codes "failed" ∷ codes "guests" ∷ flat_map size_heads sizes

abbrev pub capacity_cell : Option ℤ → List ℕ
capacity_cell None = []
capacity_cell (Some c) = signed_decimal c

abbrev pub load_cells : PictureLoad → List (List ℕ)
load_cells l = signed_decimal l.sum ∷ capacity_cell l.capacity ∷ []

-- guests, parted by spaces
abbrev pub guests_cell : Bool → List PictureGuest → List ℕ
guests_cell later [] = []
guests_cell later (g ∷ gs) =
    (if later then codes " " else []) ++ path_text g.path ++ guests_cell true gs

abbrev pub is_among : List (List ℕ) → List ℕ → Bool
is_among failed name = list_any (λ w. bytes_eq w name) failed

abbrev pub holding_cells : List (List ℕ) → PictureHolding → List (List ℕ)
holding_cells failed h =
    path_text h.holder ∷ count_cell (is_among failed (path_text h.holder))
    ∷ guests_cell false h.guests ∷ flat_map load_cells h.loads

abbrev pub picture_rows : List (List ℕ) → List PictureSize → List PictureHolding → List (List (List ℕ))
picture_rows failed sizes hs = picture_head sizes ∷ map (holding_cells failed) hs
