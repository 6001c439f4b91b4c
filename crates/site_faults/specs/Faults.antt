-- What is wrong with the tables of a site: the first fault in the order of these definitions, or
-- none.
use Rattle.std.specs.Prelude.{nat_lt, if◌then◌else◌, List, [], ◌∷◌, Option, None, Some, length}
use Rattle.site_faults.specs.Columns.{columns_fault, fault_at, or_else}
use Rattle.site_faults.specs.Known.{known_texts}
use Rattle.site_faults.specs.Meets.{names_fault}
use Rattle.site_faults.specs.Rows.{host_rows_fault, service_rows_fault}
use Rattle.site_tables.specs.Columns.{host_columns, service_columns}
use Rattle.site_tables.specs.Grid.{GridRow, behind, header}
use Rattle.site_tables.specs.declared.columns.HostColumn.{HostColumn}
use Rattle.site_tables.specs.declared.columns.ServiceColumn.{ServiceColumn}
use Rattle.site_tables.specs.declared.fault.Fault.{Fault}
use Rattle.site_tables.specs.declared.fault.FaultKind.TheVariants as kind
use Rattle.site_tables.specs.declared.fault.TableName.{TableName}
use Rattle.site_tables.specs.declared.fault.TableName.TheVariants as table

-- at most 10,000 rows
abbrev pub many_fault : TableName → List GridRow → Option Fault
many_fault t rows =
    if nat_lt 10000 (length rows) then Some (fault_at t 10001 0 kind.TooManyRows) else None

-- there is a host
abbrev pub none_fault : List GridRow → Option Fault
none_fault [] = Some (fault_at table.Hosts 1 0 kind.NoRow)
none_fault (r ∷ rs) = None

abbrev pub counts_fault : List GridRow → List GridRow → Option Fault
counts_fault hosts services =
    or_else (none_fault hosts) (or_else (many_fault table.Hosts hosts)
    (many_fault table.Services services))

-- the rows behind the headers
abbrev pub rows_fault : List HostColumn → List ServiceColumn → List GridRow → List GridRow
    → Option Fault
rows_fault hk sk hosts services =
    or_else (counts_fault (behind hosts) (behind services))
    (or_else (host_rows_fault hk (behind hosts))
    (service_rows_fault (known_texts (behind hosts) (header hosts)) sk (behind services)))

abbrev pub site_fault_by : List HostColumn → List ServiceColumn → List GridRow → List GridRow
    → Option Fault
site_fault_by hk sk hosts services =
    or_else (rows_fault hk sk hosts services) (names_fault hk hosts services)

abbrev pub site_fault : List GridRow → List GridRow → Option Fault
site_fault hosts services =
    or_else (columns_fault (header hosts) (header services))
    (site_fault_by (host_columns (header services) (header hosts))
    (service_columns (header hosts) (header services) (header services)) hosts services)
