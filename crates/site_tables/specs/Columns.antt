-- What the columns of the hosts and of the services are, by the names in both headers.
use Rattle.std.specs.Prelude.{ℕ, ◌==◌, Bool, not, ◌||◌, if◌then◌else◌, nat_eq, List, [], ◌∷◌, Option, None, Some, is_some, codes, bytes_eq, length, take, drop, map, option_map, option_and_then, unwrap_or, slice_get}
use Rattle.std.specs.List.{list_any}
use Rattle.std.specs.Cmp.Lexicographic.{pointwise}
use Rattle.site_tables.specs.Cells.{is_name}
use Rattle.site_tables.specs.Grid.{GridCell}
use Rattle.site_tables.specs.declared.columns.HostColumn.{HostColumn}
use Rattle.site_tables.specs.declared.columns.HostColumn.TheVariants as host
use Rattle.site_tables.specs.declared.columns.ServiceColumn.{ServiceColumn}
use Rattle.site_tables.specs.declared.columns.ServiceColumn.TheVariants as service

-- a word that is kept, or one that can't be a column's name
abbrev pub is_own : List ℕ → Bool
is_own t =
    bytes_eq t (codes "apart") || bytes_eq t (codes "with") || bytes_eq t (codes "pin")
    || bytes_eq t (codes "moves") || not (is_name t) || list_any (λ b. b == 58) t

-- the number of the first column of this name
abbrev pub column_of : List ℕ → List GridCell → Option ℕ
column_of t [] = None
column_of t (c ∷ cs) = if bytes_eq c.1 t then Some c.0 else column_of t cs

-- a column of the hosts that the services have too is a resource, and any other a label
abbrev pub host_column : List GridCell → List ℕ → HostColumn
host_column services t =
    if bytes_eq t (codes "name") then host.Name
    else if is_own t then host.Nothing
    else if is_some (column_of t services) then host.Amount else host.Label

abbrev pub host_columns : List GridCell → List GridCell → List HostColumn
host_columns services hosts = map (λ c. host_column services c.1) hosts

-- what stands behind a prefix
abbrev pub prefixed : List ℕ → List ℕ → Option (List ℕ)
prefixed prefix t =
    if pointwise nat_eq (take (length prefix) t) prefix then Some (drop (length prefix) t) else None

-- the number of the resource of this name
abbrev pub if_resource : HostColumn → Option ℕ → Option ℕ
if_resource host.Amount o = o
if_resource host.Name o = None
if_resource host.Label o = None
if_resource host.Nothing o = None

abbrev pub resource_of : List GridCell → List GridCell → List ℕ → Option ℕ
resource_of hosts services t = if_resource (host_column services t) (column_of t hosts)

-- the number of the label of this name
abbrev pub if_label : HostColumn → Option ℕ → Option ℕ
if_label host.Label o = o
if_label host.Name o = None
if_label host.Amount o = None
if_label host.Nothing o = None

abbrev pub label_of : List GridCell → List GridCell → List ℕ → Option ℕ
label_of hosts services t = if_label (host_column services t) (column_of t hosts)

-- `apart:LABEL`, `in:LABEL` and `not:LABEL`
abbrev pub labelled : List GridCell → List GridCell → List ℕ → Option ServiceColumn
labelled hosts services t =
    if is_some (prefixed (codes "apart:") t)
    then option_map service.ApartBy
    (option_and_then (label_of hosts services) (prefixed (codes "apart:") t))
    else if is_some (prefixed (codes "in:") t)
    then option_map service.Within
    (option_and_then (label_of hosts services) (prefixed (codes "in:") t))
    else option_map service.Without
    (option_and_then (label_of hosts services) (prefixed (codes "not:") t))

-- a column of the hosts' name is a resource
abbrev pub amount : Option ℕ → ServiceColumn
amount None = service.Nothing
amount (Some column) = service.Amount column

abbrev pub service_column : List GridCell → List GridCell → List ℕ → ServiceColumn
service_column hosts services t =
    if bytes_eq t (codes "name") then service.Name
    else if bytes_eq t (codes "apart") then service.Apart
    else if bytes_eq t (codes "with") then service.With
    else if bytes_eq t (codes "pin") then service.Pin
    else if bytes_eq t (codes "moves") then service.Moves
    else if is_own t then unwrap_or (labelled hosts services t) service.Nothing
    else amount (column_of t hosts)

abbrev pub service_columns : List GridCell → List GridCell → List GridCell → List ServiceColumn
service_columns hosts services columns = map (λ c. service_column hosts services c.1) columns

-- what a column is, by its number
abbrev pub host_kind_at : List HostColumn → ℕ → HostColumn
host_kind_at columns k = unwrap_or (slice_get columns k) host.Nothing

abbrev pub service_kind_at : List ServiceColumn → ℕ → ServiceColumn
service_kind_at columns k = unwrap_or (slice_get columns k) service.Nothing
