-- What is wrong with the rows.
use Rattle.std.specs.Prelude.{ℕ, ◌==◌, if◌then◌else◌, List, [], ◌∷◌, Option, None, Some, length, option_map}
use Rattle.std.specs.List.{slice_split}
use Rattle.site_faults.specs.Columns.{fault_at, or_else}
use Rattle.site_faults.specs.Known.{is_known, are_known}
use Rattle.site_tables.specs.Cells.{is_amount, is_name}
use Rattle.site_tables.specs.Columns.{host_kind_at, service_kind_at}
use Rattle.site_tables.specs.Grid.{GridCell, GridRow}
use Rattle.site_tables.specs.declared.columns.HostColumn.{HostColumn}
use Rattle.site_tables.specs.declared.columns.HostColumn.TheVariants as host
use Rattle.site_tables.specs.declared.columns.ServiceColumn.{ServiceColumn}
use Rattle.site_tables.specs.declared.columns.ServiceColumn.TheVariants as service
use Rattle.site_tables.specs.declared.fault.Fault.{Fault}
use Rattle.site_tables.specs.declared.fault.FaultKind.{FaultKind}
use Rattle.site_tables.specs.declared.fault.FaultKind.TheVariants as kind
use Rattle.site_tables.specs.declared.fault.TableName.TheVariants as table

-- where a name or an amount has to stand
abbrev pub name_fault : List ℕ → Option FaultKind
name_fault t = if is_name t then None else Some kind.NotAName

abbrev pub amount_fault : List ℕ → Option FaultKind
amount_fault t = if is_amount t then None else Some kind.NotANumber

abbrev pub host_cell_fault : HostColumn → List ℕ → Option FaultKind
host_cell_fault host.Name t = name_fault t
host_cell_fault host.Amount t = amount_fault t
host_cell_fault host.Label t = name_fault t
host_cell_fault host.Nothing t = None

abbrev pub host_cells_fault : List HostColumn → ℕ → List GridCell → Option Fault
host_cells_fault kinds row [] = None
host_cells_fault kinds row (c ∷ cs) =
    or_else (option_map (fault_at table.Hosts row c.0)
    (host_cell_fault (host_kind_at kinds c.0) c.1)) (host_cells_fault kinds row cs)

-- a row has as many cells as the header, and each is as its column wants it
abbrev pub host_row_fault : List HostColumn → GridRow → Option Fault
host_row_fault kinds r =
    if length r.1 == length kinds then host_cells_fault kinds r.0 r.1
    else Some (fault_at table.Hosts r.0 0 kind.CellCount)

abbrev pub host_rows_fault : List HostColumn → List GridRow → Option Fault
host_rows_fault kinds [] = None
host_rows_fault kinds (r ∷ rs) = or_else (host_row_fault kinds r) (host_rows_fault kinds rs)

-- a host has to be there, and values of labels have to be some host's; an empty cell asks nothing
abbrev pub pin_fault : List (List (List ℕ)) → List ℕ → Option FaultKind
pin_fault known t =
    if length t == 0 then None else if is_known known 0 t then None else Some kind.NoSuchHost

abbrev pub values_fault : List (List (List ℕ)) → ℕ → List ℕ → Option FaultKind
values_fault known k t =
    if length t == 0 then None
    else if are_known known k (slice_split (λ b. b == 124) t) then None
    else Some kind.NoSuchValue

-- what a move costs; an empty cell says 1
abbrev pub moves_fault : List ℕ → Option FaultKind
moves_fault t = if length t == 0 then None else amount_fault t

abbrev pub service_cell_fault : List (List (List ℕ)) → ServiceColumn → List ℕ → Option FaultKind
service_cell_fault known service.Name t = name_fault t
service_cell_fault known (service.Amount k) t = amount_fault t
service_cell_fault known service.Pin t = pin_fault known t
service_cell_fault known service.Moves t = moves_fault t
service_cell_fault known (service.Within k) t = values_fault known k t
service_cell_fault known (service.Without k) t = values_fault known k t
service_cell_fault known service.Apart t = None
service_cell_fault known (service.ApartBy k) t = None
service_cell_fault known service.With t = None
service_cell_fault known service.Nothing t = None

abbrev pub service_cells_fault : List (List (List ℕ)) → List ServiceColumn → ℕ → List GridCell
    → Option Fault
service_cells_fault known kinds row [] = None
service_cells_fault known kinds row (c ∷ cs) =
    or_else (option_map (fault_at table.Services row c.0)
    (service_cell_fault known (service_kind_at kinds c.0) c.1))
    (service_cells_fault known kinds row cs)

abbrev pub service_row_fault : List (List (List ℕ)) → List ServiceColumn → GridRow → Option Fault
service_row_fault known kinds r =
    if length r.1 == length kinds then service_cells_fault known kinds r.0 r.1
    else Some (fault_at table.Services r.0 0 kind.CellCount)

abbrev pub service_rows_fault : List (List (List ℕ)) → List ServiceColumn → List GridRow
    → Option Fault
service_rows_fault known kinds [] = None
service_rows_fault known kinds (r ∷ rs) =
    or_else (service_row_fault known kinds r) (service_rows_fault known kinds rs)
