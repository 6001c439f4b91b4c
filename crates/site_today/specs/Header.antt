-- The header of the table of today: the columns `service` and `host`, in either order.
use Rattle.std.specs.Prelude.{ℕ, if◌then◌else◌, List, [], ◌∷◌, Option, None, Some, codes, bytes_eq}
use Rattle.site_tables.specs.Grid.{GridCell, first_text}
use Rattle.site_tables.specs.declared.fault.Fault.{Fault}
use Rattle.site_tables.specs.declared.fault.FaultKind.{FaultKind}
use Rattle.site_tables.specs.declared.fault.FaultKind.TheVariants as kind
use Rattle.site_tables.specs.declared.fault.Place.{Place}
use Rattle.site_tables.specs.declared.fault.TableName.TheVariants as table
use Rattle.site_today.specs.declared.header.TodayColumns.{TodayColumns}

abbrev pub place : ℕ → ℕ → Place
place row column = record { table = table.Today; row = row; column = column }

abbrev pub fault_at : ℕ → ℕ → FaultKind → Fault
fault_at row column k = record { place = place row column; kind = k }

-- nothing stands behind both
abbrev pub third_fault : List GridCell → Option Fault
third_fault [] = None
third_fault (c ∷ cs) = Some (fault_at 0 2 kind.NoSuchColumn)

-- this column stands behind the first
abbrev pub second_fault : List ℕ → List GridCell → Option Fault
second_fault name [] = Some (fault_at 0 1 kind.NoSuchColumn)
second_fault name (c ∷ cs) =
    if bytes_eq c.1 name then third_fault cs else Some (fault_at 0 1 kind.NoSuchColumn)

abbrev pub header_fault : List GridCell → Option Fault
header_fault [] = Some (fault_at 0 0 kind.NoRow)
header_fault (c ∷ cs) =
    if bytes_eq c.1 (codes "service") then second_fault (codes "host") cs
    else if bytes_eq c.1 (codes "host") then second_fault (codes "service") cs
    else Some (fault_at 0 0 kind.NoSuchColumn)

-- which is which
abbrev pub today_columns : List GridCell → TodayColumns
today_columns cells =
    if bytes_eq (first_text cells) (codes "host") then record { service = 1; host = 0 }
    else record { service = 0; host = 1 }
