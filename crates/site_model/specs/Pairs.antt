-- The lines of two services with the same word in a column.
use Rattle.std.specs.Prelude.{ℕ, ◌==◌, if◌then◌else◌, List, [], ◌∷◌, ◌++◌, codes, bytes_eq, length}
use Rattle.std.specs.List.{flat_map}
use Rattle.site_names.specs.Words.{word_of}
use Rattle.site_tables.specs.Columns.{service_kind_at}
use Rattle.site_tables.specs.Grid.{GridCell, GridRow, name_of, text_at, text_in}
use Rattle.site_tables.specs.declared.columns.ServiceColumn.{ServiceColumn}
use Rattle.site_tables.specs.declared.columns.ServiceColumn.TheVariants as service
use Rattle.site_model.specs.Lines.{joined}
use Rattle.site_model.specs.declared.relations.Relation.{Relation}
use Rattle.site_model.specs.declared.relations.Worded.{Worded}

-- what is compared of the hosts of two services, and how
pub record HostRelation : Type 0 where
  pub path : List ℕ
  pub sign : List ℕ

abbrev pub relation_seen : Relation → HostRelation
relation_seen r = record { path = r.path.now; sign = r.sign.now }

-- a service's word in a column, and its name
abbrev pub WordedName : Type 0
WordedName = List ℕ × List ℕ

abbrev pub worded_seen : Worded → WordedName
worded_seen w = (w.word.now, w.name.now)

-- those of the rows that have a word in a column
abbrev pub worded_in : ℕ → List GridRow → List WordedName
worded_in k [] = []
worded_in k (r ∷ rs) =
    if length (text_at k r) == 0 then worded_in k rs else (text_at k r, name_of r) ∷ worded_in k rs

-- the hosts themselves
abbrev pub plain : List ℕ → HostRelation
plain sign = record { path = []; sign = sign }

-- a label of theirs
abbrev pub label_path : List ℕ → List ℕ
label_path label = codes "." ++ word_of label

abbrev pub apart_by : List ℕ → HostRelation
apart_by label = record { path = label_path label; sign = codes " != " }

abbrev pub pair_line : HostRelation → List ℕ → List ℕ → List ℕ
pair_line how a b =
    joined (codes "where " ∷ word_of a ∷ codes ".host" ∷ how.path ∷ how.sign ∷ word_of b
    ∷ codes ".host" ∷ how.path ∷ codes ";  // " ∷ a ∷ codes " and " ∷ b ∷ codes "\n" ∷ [])

-- two, where both have the same word
abbrev pub pair_of : HostRelation → WordedName → WordedName → List ℕ
pair_of how w v = if bytes_eq w.0 v.0 then pair_line how w.1 v.1 else []

-- each with all later ones
abbrev pub pairs : HostRelation → List WordedName → List ℕ
pairs how [] = []
pairs how (w ∷ ws) = flat_map (pair_of how w) ws ++ pairs how ws

abbrev pub column_pairs_by : ServiceColumn → List GridCell → List GridRow → ℕ → List ℕ
column_pairs_by service.Apart hosts rows k = pairs (plain (codes " != ")) (worded_in k rows)
column_pairs_by (service.ApartBy label) hosts rows k =
    pairs (apart_by (text_in label hosts)) (worded_in k rows)
column_pairs_by service.With hosts rows k = pairs (plain (codes " = ")) (worded_in k rows)
column_pairs_by service.Name hosts rows k = []
column_pairs_by (service.Amount h) hosts rows k = []
column_pairs_by (service.Within h) hosts rows k = []
column_pairs_by (service.Without h) hosts rows k = []
column_pairs_by service.Pin hosts rows k = []
column_pairs_by service.Moves hosts rows k = []
column_pairs_by service.Nothing hosts rows k = []

abbrev pub column_pairs : List ServiceColumn → List GridCell → List GridRow → ℕ → List ℕ
column_pairs kinds hosts rows k = column_pairs_by (service_kind_at kinds k) hosts rows k

abbrev pub column_pairs_of : List ServiceColumn → List GridCell → List GridRow → GridCell → List ℕ
column_pairs_of kinds hosts rows c = column_pairs kinds hosts rows c.0
