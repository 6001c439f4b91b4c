-- What each task makes of two tables that are those of a site, and of the texts of two more files;
-- and why it makes nothing.
use Rattle.std.specs.Prelude.{ℕ, ◌≡◌, ◌<◌, ◌++◌, List, length, Option, None, Some, is_some, true, ⊤, IsUtf8, map}
use Rattle.model_limits.specs.Limits.{model_bytes}
use Rattle.model_reader.specs.ModelRefusal.{IsRefusedAs}
use Rattle.model_reader.specs.Models.{IsWithin}
use Rattle.model_reader.specs.TextModel.{HasModel}
use Rattle.run_status.specs.Stages.{Denied}
use Rattle.serde_json.specs.Data.{Data}
use Rattle.site_answer.specs.Table.{table_text, unplaced_in}
use Rattle.site_former.specs.Former.{former_text}
use Rattle.site_model.specs.Goals.{NoAim, FewHosts, EvenLoad, FewMoves, KeptHost}
use Rattle.site_model.specs.Model.{model_text}
use Rattle.site_tables.specs.Columns.{resource_of}
use Rattle.site_tables.specs.Grid.{GridRow, behind, header, name_of}
use Rattle.site_tables.specs.declared.fault.Fault.{Fault}
use Rattle.site_tables.specs.declared.fault.TableName.TheVariants.{Today}
use Rattle.site_today.specs.Faults.{today_fault}
use Rattle.site_today.specs.Standing.{host_today}
use Rattle.site_drafts.specs.Tables.{HasRows, IsJson, IsNoJson}
use Rattle.site_words.specs.Words.{Job, Plain, Fewest, Spread, Keep, Former, Table, Changes}
use Rattle.site_drafts.specs.declared.refusal.FileName.TheVariants as file
use Rattle.site_drafts.specs.declared.refusal.Refusal.{Refusal}
use Rattle.site_drafts.specs.declared.refusal.Refusal.TheVariants.{NotText, Faulty, NoResource, LongModel, Refused, NotJson, NotObject, Unplaced, Memory}

-- nothing but memory may lack
abbrev pub IsLack : Refusal → Type 0
IsLack (NotText t) = ⊥
IsLack (Faulty f) = ⊥
IsLack NoResource = ⊥
IsLack LongModel = ⊥
IsLack (Refused s) = ⊥
IsLack (NotJson f) = ⊥
IsLack (NotObject f) = ⊥
IsLack (Unplaced p) = ⊥
IsLack Memory = ⊤

-- an even load is that of a resource that both tables have
pub record IsSpread (hosts services : List GridRow) (resource beside text : List ℕ) : Type 0 where
  pub there : is_some (resource_of (header hosts) (header services) resource) ≡ true
  pub same : text ≡ model_text hosts services (EvenLoad resource) ++ beside

abbrev pub IsNoSpread : List GridRow → List GridRow → List ℕ → Refusal → Type 0
IsNoSpread hosts services resource (NotText t) = ⊥
IsNoSpread hosts services resource (Faulty f) = ⊥
IsNoSpread hosts services resource NoResource =
    resource_of (header hosts) (header services) resource ≡ None
IsNoSpread hosts services resource LongModel = ⊥
IsNoSpread hosts services resource (Refused s) = ⊥
IsNoSpread hosts services resource (NotJson f) = ⊥
IsNoSpread hosts services resource (NotObject f) = ⊥
IsNoSpread hosts services resource (Unplaced p) = ⊥
IsNoSpread hosts services resource Memory = ⊤

-- a table of today with which nothing is wrong
pub record IsToday (hosts services : List GridRow) (state : List ℕ) (today : List GridRow)
    : Type 0 where
  pub read : HasRows state today
  pub sound : today_fault hosts services today ≡ None

-- a table of today with which something is wrong, first of all this
pub record IsFaultyToday (hosts services : List GridRow) (state : List ℕ) (fault : Fault)
    : Type 0 where
  pub today : List GridRow
  pub read : HasRows state today
  pub faulty : today_fault hosts services today ≡ Some fault

abbrev pub IsNoToday : List GridRow → List GridRow → List ℕ → Refusal → Type 0
IsNoToday hosts services state (NotText t) = (t ≡ Today) × ¬ IsUtf8 state
IsNoToday hosts services state (Faulty f) = IsFaultyToday hosts services state f
IsNoToday hosts services state NoResource = ⊥
IsNoToday hosts services state LongModel = ⊥
IsNoToday hosts services state (Refused s) = ⊥
IsNoToday hosts services state (NotJson f) = ⊥
IsNoToday hosts services state (NotObject f) = ⊥
IsNoToday hosts services state (Unplaced p) = ⊥
IsNoToday hosts services state Memory = ⊤

-- each service, and its host today
abbrev pub kept : List GridRow → List GridRow → List KeptHost
kept services today = map (λ s. (name_of s, host_today today (name_of s))) (behind services)

pub record IsKept (hosts services : List GridRow) (state beside text : List ℕ) : Type 0 where
  pub today : List GridRow
  pub is_today : IsToday hosts services state today
  pub same : text ≡ model_text hosts services (FewMoves (kept services today)) ++ beside

pub record IsFormer (hosts services : List GridRow) (state text : List ℕ) : Type 0 where
  pub today : List GridRow
  pub is_today : IsToday hosts services state today
  pub same : text ≡ former_text today

-- an answer that has a host for each service, as a table, beside a former text if there is one
pub record IsTable (hosts services : List GridRow) (state : List ℕ) (former : Option Data)
    (text : List ℕ) : Type 0 where
  pub answer : Data
  pub read : IsJson state answer
  pub placed : unplaced_in hosts services answer ≡ None
  pub same : text ≡ table_text hosts services answer former

pub record IsChanges (hosts services : List GridRow) (state beside text : List ℕ) : Type 0 where
  pub former : Data
  pub read : IsJson beside former
  pub table : IsTable hosts services state (Some former) text

-- it has none for this one, which is the first
abbrev pub IsUnplaced : List GridRow → List GridRow → Data → Refusal → Type 0
IsUnplaced hosts services answer (NotText t) = ⊥
IsUnplaced hosts services answer (Faulty f) = ⊥
IsUnplaced hosts services answer NoResource = ⊥
IsUnplaced hosts services answer LongModel = ⊥
IsUnplaced hosts services answer (Refused s) = ⊥
IsUnplaced hosts services answer (NotJson f) = ⊥
IsUnplaced hosts services answer (NotObject f) = ⊥
IsUnplaced hosts services answer (Unplaced p) = unplaced_in hosts services answer ≡ Some p
IsUnplaced hosts services answer Memory = ⊤

pub data IsNoTable : List GridRow → List GridRow → List ℕ → Refusal → Type 0 where
  no_answer : {hosts services : List GridRow} {state : List ℕ} {r : Refusal}
      → IsNoJson file.Answer state r → IsNoTable hosts services state r
  unplaced : {hosts services : List GridRow} {state : List ℕ} {r : Refusal} (answer : Data)
      → IsJson state answer → IsUnplaced hosts services answer r
      → IsNoTable hosts services state r

pub data IsNoChanges : List GridRow → List GridRow → List ℕ → List ℕ → Refusal → Type 0 where
  no_former : {hosts services : List GridRow} {state beside : List ℕ} {r : Refusal}
      → IsNoJson file.Former beside r → IsNoChanges hosts services state beside r
  no_table : {hosts services : List GridRow} {state beside : List ℕ} {r : Refusal}
      → IsNoTable hosts services state r → IsNoChanges hosts services state beside r

-- what is made, before a model is measured
abbrev pub IsDraft : Job → List GridRow → List GridRow → List ℕ → List ℕ → List ℕ → Type 0
IsDraft Plain hosts services state beside text = text ≡ model_text hosts services NoAim ++ beside
IsDraft Fewest hosts services state beside text =
    text ≡ model_text hosts services FewHosts ++ beside
IsDraft (Spread resource) hosts services state beside text =
    IsSpread hosts services resource beside text
IsDraft Keep hosts services state beside text = IsKept hosts services state beside text
IsDraft Former hosts services state beside text = IsFormer hosts services state text
IsDraft Table hosts services state beside text = IsTable hosts services state None text
IsDraft Changes hosts services state beside text = IsChanges hosts services state beside text

abbrev pub IsUndrafted : Job → List GridRow → List GridRow → List ℕ → List ℕ → Refusal → Type 0
IsUndrafted Plain hosts services state beside r = IsLack r
IsUndrafted Fewest hosts services state beside r = IsLack r
IsUndrafted (Spread resource) hosts services state beside r =
    IsNoSpread hosts services resource r
IsUndrafted Keep hosts services state beside r = IsNoToday hosts services state r
IsUndrafted Former hosts services state beside r = IsNoToday hosts services state r
IsUndrafted Table hosts services state beside r = IsNoTable hosts services state r
IsUndrafted Changes hosts services state beside r = IsNoChanges hosts services state beside r

-- a model is typed and within the limits, with what stands behind it
abbrev pub IsMeasured : Job → List ℕ → Type 0
IsMeasured Plain text = HasModel text IsWithin
IsMeasured Fewest text = HasModel text IsWithin
IsMeasured (Spread resource) text = HasModel text IsWithin
IsMeasured Keep text = HasModel text IsWithin
IsMeasured Former text = ⊤
IsMeasured Table text = ⊤
IsMeasured Changes text = ⊤

-- it is too long, or is refused as one
abbrev pub IsTooMuch : List ℕ → Refusal → Type 0
IsTooMuch text (NotText t) = ⊥
IsTooMuch text (Faulty f) = ⊥
IsTooMuch text NoResource = ⊥
IsTooMuch text LongModel = model_bytes < length text
IsTooMuch text (Refused s) = Denied s (IsRefusedAs s text)
IsTooMuch text (NotJson f) = ⊥
IsTooMuch text (NotObject f) = ⊥
IsTooMuch text (Unplaced p) = ⊥
IsTooMuch text Memory = ⊤

abbrev pub IsUnmeasured : Job → List ℕ → Refusal → Type 0
IsUnmeasured Plain text r = IsTooMuch text r
IsUnmeasured Fewest text r = IsTooMuch text r
IsUnmeasured (Spread resource) text r = IsTooMuch text r
IsUnmeasured Keep text r = IsTooMuch text r
IsUnmeasured Former text r = ⊥
IsUnmeasured Table text r = ⊥
IsUnmeasured Changes text r = ⊥
