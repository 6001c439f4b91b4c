-- The rows of tables, what JSON texts are read as, and why there is neither.
use Rattle.std.specs.Prelude.{ℕ, ◌≡◌, List, IsSome, None, Some, ⊤, IsUtf8}
use Rattle.csv.specs.Reading.{AreRecords, default_config, strip_bom}
use Rattle.csv.specs.declared.parser.State.TheVariants as st
use Rattle.serde_json.specs.Data.{Data}
use Rattle.serde_json.specs.Find.{as_object}
use Rattle.site_tables.specs.Grid.{GridRow, grid}
use Rattle.site_tables.specs.declared.fault.TableName.{TableName}
use Rattle.view_leaves.specs.Reading.{text_json, IsOther}
use Rattle.site_drafts.specs.declared.refusal.FileName.{FileName}
use Rattle.site_drafts.specs.declared.refusal.Refusal.{Refusal}
use Rattle.site_drafts.specs.declared.refusal.Refusal.TheVariants.{NotText, Faulty, NoResource, LongModel, Refused, NotJson, NotObject, Unplaced, Memory}

-- a text has these rows
pub record HasRows (text : List ℕ) (rows : List GridRow) : Type 0 where
  pub records : List (List (List ℕ))
  pub read : AreRecords default_config st.StartRecord (strip_bom text) records
  pub numbered : rows ≡ grid 0 records

-- a table that has none isn't UTF-8
abbrev pub IsNoText : TableName → List ℕ → Refusal → Type 0
IsNoText table text (NotText t) = (t ≡ table) × ¬ IsUtf8 text
IsNoText table text (Faulty f) = ⊥
IsNoText table text NoResource = ⊥
IsNoText table text LongModel = ⊥
IsNoText table text (Refused s) = ⊥
IsNoText table text (NotJson f) = ⊥
IsNoText table text (NotObject f) = ⊥
IsNoText table text (Unplaced p) = ⊥
IsNoText table text Memory = ⊤

-- a text is read as this object of JSON
pub record IsJson (text : List ℕ) (json : Data) : Type 0 where
  pub read : text_json text ≡ Some json
  pub object : IsSome (as_object json)

-- why it is read as none
abbrev pub IsNoJson : FileName → List ℕ → Refusal → Type 0
IsNoJson file text (NotText t) = ⊥
IsNoJson file text (Faulty f) = ⊥
IsNoJson file text NoResource = ⊥
IsNoJson file text LongModel = ⊥
IsNoJson file text (Refused s) = ⊥
IsNoJson file text (NotJson f) = (f ≡ file) × (text_json text ≡ None)
IsNoJson file text (NotObject f) = (f ≡ file) × IsOther text
IsNoJson file text (Unplaced p) = ⊥
IsNoJson file text Memory = ⊤
