-- The model of a site: the text that its tables give.
use Rattle.std.specs.Prelude.{ℕ, List, ◌++◌}
use Rattle.std.specs.List.{flat_map}
use Rattle.site_tables.specs.Columns.{host_columns, service_columns}
use Rattle.site_tables.specs.Grid.{GridRow, header, behind}
use Rattle.site_tables.specs.declared.columns.HostColumn.{HostColumn}
use Rattle.site_tables.specs.declared.columns.ServiceColumn.{ServiceColumn}
use Rattle.site_model.specs.Classes.{enumeration_of, host_class, service_class}
use Rattle.site_model.specs.Facts.{host_lines, service_lines}
use Rattle.site_model.specs.Goals.{Aim, goal_text}
use Rattle.site_model.specs.Pairs.{column_pairs_of}

-- the declarations of labels and hosts, by what the columns are
unfoldable pub machines_text : List HostColumn → List GridRow → List ℕ
machines_text hk hosts =
    flat_map (enumeration_of hk (behind hosts)) (header hosts)
    ++ host_class hk (header hosts) (behind hosts)

-- the class of services
unfoldable pub services_text : List ServiceColumn → List GridRow → Aim → List ℕ
services_text sk services aim = service_class sk (header services) (behind services) aim

-- the lines of hosts and services, and of services with the same word
unfoldable pub facts_text : List HostColumn → List ServiceColumn → List GridRow → List GridRow
    → List ℕ
facts_text hk sk hosts services =
    flat_map (host_lines hk (header hosts)) (behind hosts)
    ++ flat_map (service_lines sk (header hosts) (header services)) (behind services)
    ++ flat_map (column_pairs_of sk (header hosts) (behind services)) (header services)

abbrev pub text_by : List HostColumn → List ServiceColumn → List GridRow → List GridRow → Aim
    → List ℕ
text_by hk sk hosts services aim =
    machines_text hk hosts ++ services_text sk services aim ++ facts_text hk sk hosts services
    ++ goal_text sk hosts aim

-- the model of two tables
abbrev pub model_text : List GridRow → List GridRow → Aim → List ℕ
model_text hosts services aim =
    text_by (host_columns (header services) (header hosts))
    (service_columns (header hosts) (header services) (header services)) hosts services aim
