-- The rows of an answer as a table.
use Rattle.std.specs.Prelude.{ℕ, Bool, true, not, if◌then◌else◌, List, [], ◌∷◌, Option, None, Some, is_some, codes, bytes_eq, map, option_and_then, unwrap_or}
use Rattle.std.specs.List.{flat_map}
use Rattle.csv.specs.Writing.{default_writer, row_text}
use Rattle.serde_json.specs.Data.{Data}
use Rattle.serde_json.specs.Find.{as_str, get}
use Rattle.site_names.specs.Words.{word_of}
use Rattle.site_tables.specs.Grid.{GridRow, name_of}
use Rattle.site_tables.specs.declared.fault.Place.{Place}
use Rattle.site_tables.specs.declared.fault.TableName.TheVariants as table
use Rattle.site_answer.specs.Names.{HostNames}

-- the word of the host, in what an answer has of a service
abbrev pub host_word : Data → Option (List ℕ)
host_word d = option_and_then as_str (get (codes "host") d)

-- the same, in a whole answer
abbrev pub answered : Data → List ℕ → Option (List ℕ)
answered answer service = option_and_then host_word (get (word_of service) answer)

-- the host that an answer has for a service, by the operator's name
abbrev pub host_of : HostNames → Data → List ℕ → Option (List ℕ)
host_of names answer service = option_and_then names (answered answer service)

-- the first of these services for which it has none
abbrev pub unplaced : HostNames → Data → List GridRow → Option Place
unplaced names answer [] = None
unplaced names answer (s ∷ ss) =
    if is_some (host_of names answer (name_of s)) then unplaced names answer ss
    else Some (record { table = table.Services; row = s.0; column = 0 })

abbrev pub host_cell : HostNames → Data → List ℕ → List ℕ
host_cell names answer service = unwrap_or (host_of names answer service) []

-- a former host that the table lacks keeps its word
abbrev pub former_name : HostNames → List ℕ → List ℕ
former_name names word = unwrap_or (names word) word

abbrev pub is_other : List ℕ → Option (List ℕ) → Bool
is_other word None = true
is_other word (Some same) = not (bytes_eq word same)

-- the former host, where it is another one now
abbrev pub was_by : HostNames → Option (List ℕ) → Option (List ℕ) → List ℕ
was_by names None now = []
was_by names (Some word) now = if is_other word now then former_name names word else []

abbrev pub was_cell : HostNames → Data → Data → List ℕ → List ℕ
was_cell names answer former service =
    was_by names (answered former service) (answered answer service)

-- a cell more, where there is a former configuration
abbrev pub was_cells : HostNames → Data → Option Data → List ℕ → List (List ℕ)
was_cells names answer None service = []
was_cells names answer (Some former) service = was_cell names answer former service ∷ []

abbrev pub row_cells : HostNames → Data → Option Data → GridRow → List (List ℕ)
row_cells names answer former s =
    name_of s ∷ host_cell names answer (name_of s) ∷ was_cells names answer former (name_of s)

abbrev pub head_cells : Option Data → List (List ℕ)
head_cells None = codes "service" ∷ codes "host" ∷ []
head_cells (Some former) = codes "service" ∷ codes "host" ∷ codes "was" ∷ []

abbrev pub table_rows : HostNames → Data → Option Data → List GridRow → List (List (List ℕ))
table_rows names answer former services =
    head_cells former ∷ map (row_cells names answer former) services

abbrev pub rows_text : HostNames → Data → Option Data → List GridRow → List ℕ
rows_text names answer former services =
    flat_map (row_text default_writer) (table_rows names answer former services)
