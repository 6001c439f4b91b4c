-- What steps hand on of a table of today, once its rows are known. What a reader believes after this
-- file: nothing that `run` says.
use Rattle.std.specs.Prelude.{ℕ, ◌≡◌, ◌+◌, ◌++◌, List, [], ◌∷◌, Option, None, Some, ⊤, unwrap_or, slice_get}
use Rattle.site_former.specs.Former.{former_text}
use Rattle.site_model.specs.Goals.{FewMoves, KeptHost}
use Rattle.site_model.specs.Model.{model_text}
use Rattle.site_tables.specs.Grid.{GridRow, name_of}
use Rattle.site_today.specs.Faults.{today_fault}
use Rattle.site_drafts.specs.Drafts.{kept}
use Rattle.site_drafts.specs.declared.refusal.Refusal.{Refusal}
use Rattle.site_drafts.specs.declared.refusal.Refusal.TheVariants.{NotText, Faulty, NoResource, LongModel, Refused, NotJson, NotObject, Unplaced, Memory}

-- the host at a place
abbrev pub host_at : List (Option (List ℕ)) → ℕ → Option (List ℕ)
host_at hosts k = unwrap_or (slice_get hosts k) None

-- services from a place on, each with the host at its place
abbrev pub kept_from : ℕ → List GridRow → List (Option (List ℕ)) → List KeptHost
kept_from k [] hosts = []
kept_from k (r ∷ rs) hosts = (name_of r, host_at hosts k) ∷ kept_from (k + 1) rs hosts

-- the rows of today are sound, and this is made of them
pub record IsKeptBy (hosts services today : List GridRow) (beside text : List ℕ) : Type 0 where
  pub sound : today_fault hosts services today ≡ None
  pub same : text ≡ model_text hosts services (FewMoves (kept services today)) ++ beside

pub record IsFormerBy (hosts services today : List GridRow) (text : List ℕ) : Type 0 where
  pub sound : today_fault hosts services today ≡ None
  pub same : text ≡ former_text today

-- they aren't
abbrev pub IsUnsound : List GridRow → List GridRow → List GridRow → Refusal → Type 0
IsUnsound hosts services today (NotText t) = ⊥
IsUnsound hosts services today (Faulty f) = today_fault hosts services today ≡ Some f
IsUnsound hosts services today NoResource = ⊥
IsUnsound hosts services today LongModel = ⊥
IsUnsound hosts services today (Refused s) = ⊥
IsUnsound hosts services today (NotJson f) = ⊥
IsUnsound hosts services today (NotObject f) = ⊥
IsUnsound hosts services today (Unplaced p) = ⊥
IsUnsound hosts services today Memory = ⊤
