-- What is wrong with the headers.
use Rattle.std.specs.Prelude.{ℕ, Bool, false, not, ◌==◌, nat_lt, if◌then◌else◌, List, [], ◌∷◌, Option, None, Some, length, map}
use Rattle.site_names.specs.Meeting.{Meeting, meeting}
use Rattle.site_tables.specs.Columns.{host_column, service_column}
use Rattle.site_tables.specs.Grid.{GridCell}
use Rattle.site_tables.specs.declared.columns.HostColumn.{HostColumn}
use Rattle.site_tables.specs.declared.columns.HostColumn.TheVariants as host
use Rattle.site_tables.specs.declared.columns.ServiceColumn.{ServiceColumn}
use Rattle.site_tables.specs.declared.columns.ServiceColumn.TheVariants as service
use Rattle.site_tables.specs.declared.fault.Fault.{Fault}
use Rattle.site_tables.specs.declared.fault.FaultKind.{FaultKind}
use Rattle.site_tables.specs.declared.fault.FaultKind.TheVariants as kind
use Rattle.site_tables.specs.declared.fault.Place.{Place}
use Rattle.site_tables.specs.declared.fault.TableName.{TableName}
use Rattle.site_tables.specs.declared.fault.TableName.TheVariants as table

abbrev pub place : TableName → ℕ → ℕ → Place
place t row column = record { table = t; row = row; column = column }

abbrev pub fault_at : TableName → ℕ → ℕ → FaultKind → Fault
fault_at t row column k = record { place = place t row column; kind = k }

-- the first of two that is a fault
abbrev pub or_else : Option Fault → Option Fault → Option Fault
or_else None o = o
or_else (Some f) o = Some f

-- there is a header, of at most 64 columns
abbrev pub header_fault : TableName → List GridCell → Option Fault
header_fault t cells =
    if length cells == 0 then Some (fault_at t 0 0 kind.NoRow)
    else if nat_lt 64 (length cells) then Some (fault_at t 0 64 kind.NoSuchColumn) else None

-- the first column is that of names, and no other is; each means something
abbrev pub host_fits : ℕ → HostColumn → Bool
host_fits k host.Name = k == 0
host_fits k host.Amount = not (k == 0)
host_fits k host.Label = not (k == 0)
host_fits k host.Nothing = false

abbrev pub host_columns_fault : List GridCell → List GridCell → Option Fault
host_columns_fault services [] = None
host_columns_fault services (c ∷ cs) =
    if host_fits c.0 (host_column services c.1) then host_columns_fault services cs
    else Some (fault_at table.Hosts 0 c.0 kind.NoSuchColumn)

abbrev pub service_fits : ℕ → ServiceColumn → Bool
service_fits k service.Name = k == 0
service_fits k (service.Amount h) = not (k == 0)
service_fits k service.Apart = not (k == 0)
service_fits k (service.ApartBy h) = not (k == 0)
service_fits k service.With = not (k == 0)
service_fits k (service.Within h) = not (k == 0)
service_fits k (service.Without h) = not (k == 0)
service_fits k service.Pin = not (k == 0)
service_fits k service.Moves = not (k == 0)
service_fits k service.Nothing = false

abbrev pub service_columns_fault : List GridCell → List GridCell → List GridCell → Option Fault
service_columns_fault hosts services [] = None
service_columns_fault hosts services (c ∷ cs) =
    if service_fits c.0 (service_column hosts services c.1)
    then service_columns_fault hosts services cs
    else Some (fault_at table.Services 0 c.0 kind.NoSuchColumn)

-- no two columns have the same name
abbrev pub twice_at : TableName → Option Meeting → Option Fault
twice_at t None = None
twice_at t (Some m) = Some (fault_at t 0 m.1 (kind.Meets (place t 0 m.0)))

abbrev pub twice_fault : TableName → List GridCell → Option Fault
twice_fault t cells = twice_at t (meeting [] (map (λ c. c.1) cells))

abbrev pub headers_fault : List GridCell → List GridCell → Option Fault
headers_fault hosts services =
    or_else (header_fault table.Hosts hosts) (header_fault table.Services services)

-- both headers
abbrev pub columns_fault : List GridCell → List GridCell → Option Fault
columns_fault hosts services =
    or_else (headers_fault hosts services)
    (or_else (host_columns_fault services hosts)
    (or_else (service_columns_fault hosts services services)
    (twice_fault table.Services services)))
