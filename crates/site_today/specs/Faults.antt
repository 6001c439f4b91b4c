-- What is wrong with the table of today: the first fault in the order of these definitions, or none.
use Rattle.std.specs.Prelude.{ℕ, Bool, ◌==◌, if◌then◌else◌, List, [], ◌∷◌, Option, None, Some, is_some, length, map, option_map, position, slice_get}
use Rattle.site_names.specs.Meeting.{Meeting, meeting, same_word}
use Rattle.site_tables.specs.Grid.{GridRow, behind, header, text_at}
use Rattle.site_tables.specs.Values.{values_at}
use Rattle.site_tables.specs.declared.fault.Fault.{Fault}
use Rattle.site_tables.specs.declared.fault.FaultKind.TheVariants as kind
use Rattle.site_today.specs.Header.{fault_at, header_fault, place, today_columns}
use Rattle.site_today.specs.declared.header.TodayColumns.{TodayColumns}

-- the first of two that is a fault
abbrev pub or_else : Option Fault → Option Fault → Option Fault
or_else None o = o
or_else (Some f) o = Some f

abbrev pub is_among : List (List ℕ) → List ℕ → Bool
is_among names t = is_some (position (same_word t) names)

-- the service is one of these, and so is the host
abbrev pub cells_fault : List (List ℕ) → List (List ℕ) → TodayColumns → GridRow → Option Fault
cells_fault services hosts columns r =
    if is_among services (text_at columns.service r)
    then (if is_among hosts (text_at columns.host r) then None
    else Some (fault_at r.0 columns.host kind.NoSuchHost))
    else Some (fault_at r.0 columns.service kind.NoSuchService)

-- a row has two cells
abbrev pub row_fault : List (List ℕ) → List (List ℕ) → TodayColumns → GridRow → Option Fault
row_fault services hosts columns r =
    if length r.1 == 2 then cells_fault services hosts columns r
    else Some (fault_at r.0 0 kind.CellCount)

abbrev pub rows_fault : List (List ℕ) → List (List ℕ) → TodayColumns → List GridRow → Option Fault
rows_fault services hosts columns [] = None
rows_fault services hosts columns (r ∷ rs) =
    or_else (row_fault services hosts columns r) (rows_fault services hosts columns rs)

-- the number of a row of these
abbrev pub number_of : Option GridRow → ℕ
number_of None = 0
number_of (Some r) = r.0

abbrev pub number_at : List GridRow → ℕ → ℕ
number_at rows k = number_of (slice_get rows k)

-- a service stands in one row alone: the first row whose service an earlier one has, and that one
abbrev pub twice_at : TodayColumns → List GridRow → Meeting → Fault
twice_at columns rows m =
    fault_at (number_at rows m.1) columns.service
    (kind.Meets (place (number_at rows m.0) columns.service))

abbrev pub twice_fault : TodayColumns → List GridRow → Option Fault
twice_fault columns rows =
    option_map (twice_at columns rows) (meeting [] (map (text_at columns.service) rows))

-- the rows behind the header, where these services and hosts are there
abbrev pub known_fault : List (List ℕ) → List (List ℕ) → TodayColumns → List GridRow → Option Fault
known_fault services hosts columns rows =
    or_else (rows_fault services hosts columns rows) (twice_fault columns rows)

abbrev pub today_fault : List GridRow → List GridRow → List GridRow → Option Fault
today_fault hosts services today =
    or_else (header_fault (header today))
    (known_fault (values_at 0 [] (behind services)) (values_at 0 [] (behind hosts))
    (today_columns (header today)) (behind today))
