-- From the steps of a draft to what is made, or why nothing is.
use Rattle.std.proofs.Common.{◌≡◌, ◌++◌, ℕ, true, false, List, Option, None, Some, is_some, refl}
use Rattle.std.specs.Prelude.{IsSome}
use Rattle.serde_json.specs.Data.{Data}
use Rattle.serde_json.specs.Find.{as_object}
use Rattle.site_answer.specs.Table.{table_text, unplaced_in}
use Rattle.site_former.specs.Former.{former_text}
use Rattle.site_model.specs.Goals.{EvenLoad, FewMoves, KeptHost}
use Rattle.site_model.specs.Model.{model_text}
use Rattle.site_tables.specs.Columns.{resource_of}
use Rattle.site_tables.specs.Grid.{GridRow, header}
use Rattle.site_tables.specs.declared.fault.TableName.TheVariants.{Today}
use Rattle.site_today.specs.Faults.{today_fault}
use Rattle.view_leaves.specs.Reading.{text_json}
use Rattle.site_drafts.specs.Drafts.{IsLack, IsSpread, IsNoSpread, IsNoToday, IsKept, IsFormer, IsTable, IsChanges, IsUnplaced, IsNoTable, no_answer, unplaced, IsNoChanges, no_former, no_table, kept}
use Rattle.site_drafts.specs.Paired.{IsKeptBy, IsFormerBy, IsUnsound}
use Rattle.site_drafts.specs.Tables.{HasRows, IsNoText, IsJson, IsNoJson}
use Rattle.site_drafts.specs.declared.refusal.FileName.TheVariants as file
use Rattle.site_drafts.specs.declared.refusal.Refusal.{Refusal}
use Rattle.site_drafts.specs.declared.refusal.Refusal.TheVariants.{NotText, Faulty, NoResource, LongModel, Refused, NotJson, NotObject, Unplaced, Memory}

pub is_spread : (hosts services : List GridRow) (resource beside text : List ℕ)
    → is_some (resource_of (header hosts) (header services) resource) ≡ true
    → text ≡ model_text hosts services (EvenLoad resource) ++ beside
    → IsSpread hosts services resource beside text
is_spread hosts services resource beside text there same = record { there = there; same = same }

none_of : (o : Option ℕ) → is_some o ≡ false → o ≡ None
none_of None e = refl
none_of (Some x) e = cc

pub no_resource : (hosts services : List GridRow) (resource : List ℕ)
    → is_some (resource_of (header hosts) (header services) resource) ≡ false
    → IsNoSpread hosts services resource NoResource
no_resource hosts services resource e =
    none_of (resource_of (header hosts) (header services) resource) e

pub lack_no_spread : (hosts services : List GridRow) (resource : List ℕ) (r : Refusal) → IsLack r
    → IsNoSpread hosts services resource r
lack_no_spread hosts services resource (NotText t) h = absurd h
lack_no_spread hosts services resource (Faulty f) h = absurd h
lack_no_spread hosts services resource NoResource h = absurd h
lack_no_spread hosts services resource LongModel h = absurd h
lack_no_spread hosts services resource (Refused s) h = absurd h
lack_no_spread hosts services resource (NotJson f) h = absurd h
lack_no_spread hosts services resource (NotObject f) h = absurd h
lack_no_spread hosts services resource (Unplaced p) h = absurd h
lack_no_spread hosts services resource Memory h = tt

-- the table of today
pub text_no_today : (hosts services : List GridRow) (state : List ℕ) (r : Refusal)
    → IsNoText Today state r → IsNoToday hosts services state r
text_no_today hosts services state (NotText t) h = h
text_no_today hosts services state (Faulty f) h = absurd h
text_no_today hosts services state NoResource h = absurd h
text_no_today hosts services state LongModel h = absurd h
text_no_today hosts services state (Refused s) h = absurd h
text_no_today hosts services state (NotJson f) h = absurd h
text_no_today hosts services state (NotObject f) h = absurd h
text_no_today hosts services state (Unplaced p) h = absurd h
text_no_today hosts services state Memory h = tt

pub unsound_no_today : (hosts services : List GridRow) (state : List ℕ) (today : List GridRow)
    (r : Refusal) → HasRows state today → IsUnsound hosts services today r
    → IsNoToday hosts services state r
unsound_no_today hosts services state today (NotText t) read h = absurd h
unsound_no_today hosts services state today (Faulty f) read h = record { today = today; read = read; faulty = h }
unsound_no_today hosts services state today NoResource read h = absurd h
unsound_no_today hosts services state today LongModel read h = absurd h
unsound_no_today hosts services state today (Refused s) read h = absurd h
unsound_no_today hosts services state today (NotJson f) read h = absurd h
unsound_no_today hosts services state today (NotObject f) read h = absurd h
unsound_no_today hosts services state today (Unplaced p) read h = absurd h
unsound_no_today hosts services state today Memory read h = tt

pub lack_unsound : (hosts services today : List GridRow) (r : Refusal) → IsLack r
    → IsUnsound hosts services today r
lack_unsound hosts services today (NotText t) h = absurd h
lack_unsound hosts services today (Faulty f) h = absurd h
lack_unsound hosts services today NoResource h = absurd h
lack_unsound hosts services today LongModel h = absurd h
lack_unsound hosts services today (Refused s) h = absurd h
lack_unsound hosts services today (NotJson f) h = absurd h
lack_unsound hosts services today (NotObject f) h = absurd h
lack_unsound hosts services today (Unplaced p) h = absurd h
lack_unsound hosts services today Memory h = tt

pub is_kept_by : (hosts services today : List GridRow) (beside text : List ℕ)
    (list : List KeptHost) → today_fault hosts services today ≡ None → list ≡ kept services today
    → text ≡ model_text hosts services (FewMoves list) ++ beside
    → IsKeptBy hosts services today beside text
is_kept_by hosts services today beside text list sound e same = record {
  sound = sound;
  same = rw e at same;
}

pub is_former_by : (hosts services today : List GridRow) (text : List ℕ)
    → today_fault hosts services today ≡ None → text ≡ former_text today
    → IsFormerBy hosts services today text
is_former_by hosts services today text sound same = record { sound = sound; same = same }

pub is_kept : (hosts services : List GridRow) (state beside text : List ℕ)
    (today : List GridRow) → HasRows state today → IsKeptBy hosts services today beside text
    → IsKept hosts services state beside text
is_kept hosts services state beside text today read made = record {
  today = today;
  is_today = record { read = read; sound = made.sound };
  same = made.same;
}

pub is_former : (hosts services : List GridRow) (state text : List ℕ) (today : List GridRow)
    → HasRows state today → IsFormerBy hosts services today text
    → IsFormer hosts services state text
is_former hosts services state text today read made = record {
  today = today;
  is_today = record { read = read; sound = made.sound };
  same = made.same;
}

-- answers
pub is_json : (text : List ℕ) (json : Data) → text_json text ≡ Some json → IsSome (as_object json)
    → IsJson text json
is_json text json read object = record { read = read; object = object }

pub is_table : (hosts services : List GridRow) (state text : List ℕ) (former : Option Data)
    (answer : Data) → IsJson state answer → unplaced_in hosts services answer ≡ None
    → text ≡ table_text hosts services answer former → IsTable hosts services state former text
is_table hosts services state text former answer read placed same = record {
  answer = answer;
  read = read;
  placed = placed;
  same = same;
}

pub answer_no_table : (hosts services : List GridRow) (state : List ℕ) (r : Refusal)
    → IsNoJson file.Answer state r → IsNoTable hosts services state r
answer_no_table hosts services state r h = no_answer h

pub unplaced_no_table : (hosts services : List GridRow) (state : List ℕ) (r : Refusal)
    (answer : Data) → IsJson state answer → IsUnplaced hosts services answer r
    → IsNoTable hosts services state r
unplaced_no_table hosts services state r answer read h = unplaced answer read h

pub are_changes : (hosts services : List GridRow) (state beside text : List ℕ) (former : Data)
    → IsJson beside former → IsTable hosts services state (Some former) text
    → IsChanges hosts services state beside text
are_changes hosts services state beside text former read table = record {
  former = former;
  read = read;
  table = table;
}

pub former_no_changes : (hosts services : List GridRow) (state beside : List ℕ) (r : Refusal)
    → IsNoJson file.Former beside r → IsNoChanges hosts services state beside r
former_no_changes hosts services state beside r h = no_former h

pub table_no_changes : (hosts services : List GridRow) (state beside : List ℕ) (r : Refusal)
    → IsNoTable hosts services state r → IsNoChanges hosts services state beside r
table_no_changes hosts services state beside r h = no_table h
