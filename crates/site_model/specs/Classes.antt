-- The enumerations of labels, and the classes of hosts and services.
use Rattle.std.specs.Prelude.{ℕ, List, [], ◌∷◌, ◌++◌, codes}
use Rattle.std.specs.List.{flat_map}
use Rattle.site_names.specs.Words.{word_of}
use Rattle.site_tables.specs.Columns.{host_kind_at, service_kind_at}
use Rattle.site_tables.specs.Grid.{GridCell, GridRow}
use Rattle.site_tables.specs.Values.{longest_at, values_at}
use Rattle.site_tables.specs.declared.columns.HostColumn.{HostColumn}
use Rattle.site_tables.specs.declared.columns.HostColumn.TheVariants as host
use Rattle.site_tables.specs.declared.columns.ServiceColumn.{ServiceColumn}
use Rattle.site_tables.specs.declared.columns.ServiceColumn.TheVariants as service
use Rattle.site_model.specs.Goals.{Aim, own_attributes}
use Rattle.site_model.specs.Lines.{joined, values_word, nines}

-- words, with commas between them
abbrev pub listed : List ℕ → List (List ℕ) → List ℕ
listed before [] = []
listed before (v ∷ vs) = joined (before ∷ word_of v ∷ []) ++ listed (codes ", ") vs

abbrev pub enumeration : List ℕ → List (List ℕ) → List ℕ
enumeration column values =
    joined (codes "enum " ∷ values_word column ∷ codes " { " ∷ []) ++ listed [] values
    ++ codes " }\n"

-- the enumeration of a column, where it is a label
abbrev pub enumeration_by : HostColumn → List GridRow → GridCell → List ℕ
enumeration_by host.Label rows c = enumeration c.1 (values_at c.0 [] rows)
enumeration_by host.Name rows c = []
enumeration_by host.Amount rows c = []
enumeration_by host.Nothing rows c = []

abbrev pub enumeration_of : List HostColumn → List GridRow → GridCell → List ℕ
enumeration_of kinds rows c = enumeration_by (host_kind_at kinds c.0) rows c

-- a number of a class, from 0 to the greatest of so many digits
abbrev pub number_attribute : List ℕ → ℕ → List ℕ
number_attribute column digits =
    joined (codes "  var " ∷ word_of column ∷ codes " as 0.." ∷ nines digits ∷ codes ";\n" ∷ [])

abbrev pub label_attribute : List ℕ → List ℕ
label_attribute column =
    joined (codes "  var " ∷ word_of column ∷ codes " as " ∷ values_word column ∷ codes ";\n" ∷ [])

-- an attribute of a host
abbrev pub host_attribute_by : HostColumn → List GridRow → GridCell → List ℕ
host_attribute_by host.Amount rows c = number_attribute c.1 (longest_at c.0 1 rows)
host_attribute_by host.Label rows c = label_attribute c.1
host_attribute_by host.Name rows c = []
host_attribute_by host.Nothing rows c = []

abbrev pub host_attribute : List HostColumn → List GridRow → GridCell → List ℕ
host_attribute kinds rows c = host_attribute_by (host_kind_at kinds c.0) rows c

-- what runs on a host takes no more of a resource than it has
abbrev pub capacity : List ℕ → List ℕ
capacity column =
    joined (codes "  where sum s in Service where s.host = this { s." ∷ word_of column
    ∷ codes " } <= " ∷ word_of column ∷ codes ";\n" ∷ [])

abbrev pub capacity_by : HostColumn → GridCell → List ℕ
capacity_by host.Amount c = capacity c.1
capacity_by host.Label c = []
capacity_by host.Name c = []
capacity_by host.Nothing c = []

abbrev pub capacity_of : List HostColumn → GridCell → List ℕ
capacity_of kinds c = capacity_by (host_kind_at kinds c.0) c

-- what it costs to move a service
abbrev pub moves_attribute : ℕ → List ℕ
moves_attribute digits = joined (codes "  var moves as 0.." ∷ nines digits ∷ codes ";\n" ∷ [])

-- an attribute of a service
abbrev pub service_attribute_by : ServiceColumn → List GridRow → GridCell → List ℕ
service_attribute_by (service.Amount k) rows c = number_attribute c.1 (longest_at c.0 1 rows)
service_attribute_by service.Moves rows c = moves_attribute (longest_at c.0 1 rows)
service_attribute_by service.Name rows c = []
service_attribute_by service.Apart rows c = []
service_attribute_by (service.ApartBy k) rows c = []
service_attribute_by service.With rows c = []
service_attribute_by (service.Within k) rows c = []
service_attribute_by (service.Without k) rows c = []
service_attribute_by service.Pin rows c = []
service_attribute_by service.Nothing rows c = []

abbrev pub service_attribute : List ServiceColumn → List GridRow → GridCell → List ℕ
service_attribute kinds rows c = service_attribute_by (service_kind_at kinds c.0) rows c

-- what stands in the class of hosts
abbrev pub host_members : List HostColumn → List GridCell → List GridRow → List ℕ
host_members kinds columns rows =
    flat_map (host_attribute kinds rows) columns ++ flat_map (capacity_of kinds) columns

abbrev pub host_class : List HostColumn → List GridCell → List GridRow → List ℕ
host_class kinds columns rows =
    codes "class Host {\n" ++ host_members kinds columns rows ++ codes "}\n"

-- the last attribute of a service is its host
abbrev pub service_members : List ServiceColumn → List GridCell → List GridRow → Aim → List ℕ
service_members kinds columns rows aim =
    flat_map (service_attribute kinds rows) columns ++ own_attributes aim

abbrev pub service_class : List ServiceColumn → List GridCell → List GridRow → Aim → List ℕ
service_class kinds columns rows aim =
    codes "class Service {\n" ++ service_members kinds columns rows aim
    ++ codes "  var host as ref Host;\n}\n"
