-- The lines of a host and of a service: its variable, and a line for each of its cells that says
-- something.
use Rattle.std.specs.Prelude.{ℕ, ◌==◌, if◌then◌else◌, List, [], ◌∷◌, ◌++◌, codes, length}
use Rattle.std.specs.List.{flat_map}
use Rattle.site_names.specs.Words.{word_of}
use Rattle.site_tables.specs.Columns.{host_kind_at, service_kind_at}
use Rattle.site_tables.specs.Grid.{GridCell, GridRow, name_of, text_in}
use Rattle.site_tables.specs.declared.columns.HostColumn.{HostColumn}
use Rattle.site_tables.specs.declared.columns.HostColumn.TheVariants as host
use Rattle.site_tables.specs.declared.columns.ServiceColumn.{ServiceColumn}
use Rattle.site_tables.specs.declared.columns.ServiceColumn.TheVariants as service
use Rattle.site_model.specs.Choices.{choice_fact, within, without}
use Rattle.site_model.specs.Lines.{joined, remark, values_word}

-- a number that is fixed
abbrev pub number_fact : List ℕ → List ℕ → List ℕ → List ℕ
number_fact name column t =
    joined (codes "where " ∷ word_of name ∷ codes "." ∷ word_of column ∷ codes " = " ∷ t
    ∷ remark name)

-- a label that is fixed
abbrev pub label_fact : List ℕ → List ℕ → List ℕ → List ℕ
label_fact name column t =
    joined (codes "where " ∷ word_of name ∷ codes "." ∷ word_of column ∷ codes " = "
    ∷ values_word column ∷ codes "." ∷ word_of t ∷ remark name)

abbrev pub host_fact_by : HostColumn → List ℕ → List ℕ → List ℕ → List ℕ
host_fact_by host.Amount name column t = number_fact name column t
host_fact_by host.Label name column t = label_fact name column t
host_fact_by host.Name name column t = []
host_fact_by host.Nothing name column t = []

-- what a cell of a host says
abbrev pub host_fact : List HostColumn → List GridCell → List ℕ → GridCell → List ℕ
host_fact kinds columns name c =
    host_fact_by (host_kind_at kinds c.0) name (text_in c.0 columns) c.1

unfoldable pub variable : List ℕ → List ℕ → List ℕ
variable class name =
    joined (codes "var " ∷ word_of name ∷ codes " as " ∷ class ∷ remark name)

unfoldable pub host_lines : List HostColumn → List GridCell → GridRow → List ℕ
host_lines kinds columns r =
    variable (codes "Host") (name_of r) ++ flat_map (host_fact kinds columns (name_of r)) r.1

-- the host itself
abbrev pub pin_fact : List ℕ → List ℕ → List ℕ
pin_fact name t =
    if length t == 0 then []
    else joined (codes "where " ∷ word_of name ∷ codes ".host = " ∷ word_of t ∷ remark name)

-- what it costs to move a service; 1 where nothing is said
abbrev pub moves_fact : List ℕ → List ℕ → List ℕ
moves_fact name t =
    joined (codes "where " ∷ word_of name ∷ codes ".moves = "
    ∷ (if length t == 0 then codes "1" else t) ∷ remark name)

abbrev pub service_fact_by : ServiceColumn → List GridCell → List ℕ → List ℕ → List ℕ → List ℕ
service_fact_by (service.Amount k) hosts name column t = number_fact name column t
service_fact_by service.Pin hosts name column t = pin_fact name t
service_fact_by service.Moves hosts name column t = moves_fact name t
service_fact_by (service.Within k) hosts name column t =
    choice_fact (within name (text_in k hosts)) t
service_fact_by (service.Without k) hosts name column t =
    choice_fact (without name (text_in k hosts)) t
service_fact_by service.Name hosts name column t = []
service_fact_by service.Apart hosts name column t = []
service_fact_by (service.ApartBy k) hosts name column t = []
service_fact_by service.With hosts name column t = []
service_fact_by service.Nothing hosts name column t = []

-- what a cell of a service says of that service alone
abbrev pub service_fact : List ServiceColumn → List GridCell → List GridCell → List ℕ → GridCell
    → List ℕ
service_fact kinds hosts columns name c =
    service_fact_by (service_kind_at kinds c.0) hosts name (text_in c.0 columns) c.1

unfoldable pub service_lines : List ServiceColumn → List GridCell → List GridCell → GridRow → List ℕ
service_lines kinds hosts columns r =
    variable (codes "Service") (name_of r)
    ++ flat_map (service_fact kinds hosts columns (name_of r)) r.1
