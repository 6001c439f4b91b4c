-- Names that would become the same word. All names of a model differ: the columns of the hosts, the
-- enumeration of each label's values, the hosts and the services.
use Rattle.std.specs.Prelude.{ℕ, is_some, if◌then◌else◌, List, [], ◌∷◌, ◌++◌, Option, None, Some, codes, map, option_map, slice_get}
use Rattle.std.specs.List.{flat_map}
use Rattle.site_faults.specs.Columns.{fault_at, or_else, place}
use Rattle.site_faults.specs.declared.meets.Entry.{Entry}
use Rattle.site_names.specs.Meeting.{Meeting, meeting}
use Rattle.site_names.specs.Words.{word_of}
use Rattle.site_tables.specs.Columns.{host_kind_at}
use Rattle.site_tables.specs.Grid.{GridCell, GridRow, behind, header, name_of}
use Rattle.site_tables.specs.Values.{values_at}
use Rattle.site_tables.specs.declared.columns.HostColumn.{HostColumn}
use Rattle.site_tables.specs.declared.columns.HostColumn.TheVariants as host
use Rattle.site_tables.specs.declared.fault.Fault.{Fault}
use Rattle.site_tables.specs.declared.fault.FaultKind.TheVariants as kind
use Rattle.site_tables.specs.declared.fault.Place.{Place}
use Rattle.site_tables.specs.declared.fault.TableName.{TableName}
use Rattle.site_tables.specs.declared.fault.TableName.TheVariants as table

-- where a name stands, and its word
abbrev pub PlacedWord : Type 0
PlacedWord = Place × List ℕ

abbrev pub entry_seen : Entry → PlacedWord
entry_seen e = (e.place, e.word.items)

abbrev pub column_entries_by : HostColumn → GridCell → List PlacedWord
column_entries_by host.Amount c = (place table.Hosts 0 c.0, word_of c.1) ∷ []
column_entries_by host.Label c =
    (place table.Hosts 0 c.0, word_of c.1) ∷ (place table.Hosts 0 c.0, word_of (c.1 ++ codes "s"))
    ∷ []
column_entries_by host.Name c = []
column_entries_by host.Nothing c = []

abbrev pub column_entries : List HostColumn → GridCell → List PlacedWord
column_entries kinds c = column_entries_by (host_kind_at kinds c.0) c

abbrev pub row_entry : TableName → GridRow → PlacedWord
row_entry t r = (place t r.0 0, word_of (name_of r))

abbrev pub entries : List HostColumn → List GridRow → List GridRow → List PlacedWord
entries kinds hosts services =
    flat_map (column_entries kinds) (header hosts) ++ map (row_entry table.Hosts) (behind hosts)
    ++ map (row_entry table.Services) (behind services)

-- where a name of these stands; the first cell of the hosts where there is none
abbrev pub place_of : Option PlacedWord → Place
place_of None = place table.Hosts 0 0
place_of (Some e) = e.0

abbrev pub place_at : List PlacedWord → ℕ → Place
place_at es k = place_of (slice_get es k)

abbrev pub meets_at : List PlacedWord → Meeting → Fault
meets_at es m = record { place = place_at es m.1; kind = kind.Meets (place_at es m.0) }

-- the first name whose word an earlier one has; none where all words differ
abbrev pub meets_fault : List PlacedWord → Option Fault
meets_fault es = option_map (meets_at es) (meeting [] (map (λ e. e.1) es))

-- two values of a label that would become the same word
abbrev pub values_meet : List GridRow → GridCell → Option Fault
values_meet rows c =
    if is_some (meeting [] (map word_of (values_at c.0 [] rows)))
    then Some (fault_at table.Hosts 0 c.0 kind.ValuesMeet) else None

abbrev pub values_meet_by : HostColumn → List GridRow → GridCell → Option Fault
values_meet_by host.Label rows c = values_meet rows c
values_meet_by host.Name rows c = None
values_meet_by host.Amount rows c = None
values_meet_by host.Nothing rows c = None

abbrev pub values_fault : List HostColumn → List GridRow → List GridCell → Option Fault
values_fault kinds rows [] = None
values_fault kinds rows (c ∷ cs) =
    or_else (values_meet_by (host_kind_at kinds c.0) rows c) (values_fault kinds rows cs)

abbrev pub names_fault : List HostColumn → List GridRow → List GridRow → Option Fault
names_fault kinds hosts services =
    or_else (meets_fault (entries kinds hosts services))
    (values_fault kinds (behind hosts) (header hosts))
