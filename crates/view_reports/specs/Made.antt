-- What is printed for the bytes of two files, and why nothing is.
use Rattle.std.specs.Prelude.{ℕ, zero, suc, ◌≡◌, Bool, true, false, List, None, Some, ⊤}
use Rattle.serde_json.specs.Data.{Data}
use Rattle.view_breaks.specs.Answer as broken
use Rattle.view_leaves.specs.Reading.{text_json, IsOther}
use Rattle.view_page.specs.Entries.{HasNoEntry}
use Rattle.view_page.specs.Page.{PageWish, IsPage, LacksAttribute}
use Rattle.view_page.specs.declared.page.PageError.TheVariants as none
use Rattle.view_reports.specs.Words.{Asked, PageAsked, breaks, page, wish_of}
use Rattle.view_reports.specs.declared.status.Source.TheVariants.{Model, Config, Former, Answers}
use Rattle.view_reports.specs.declared.status.Status.{Status as Ended}
use Rattle.view_reports.specs.declared.status.Status.TheVariants as ended

-- something was counted
abbrev pub is_some_count : ℕ → Bool
is_some_count zero = false
is_some_count (suc n) = true

-- what the configuration breaks of the model, and whether that is something
pub record IsBroken (model config text : List ℕ) (found : Bool) : Type 0 where
  pub count : ℕ
  pub answer : broken.IsAnswer model config text count
  pub some : found ≡ is_some_count count

-- the page of what a session printed
pub record IsPaged (w : PageWish) (former answers text : List ℕ) (found : Bool) : Type 0 where
  pub value : Data
  pub read : text_json former ≡ Some value
  pub made : IsPage w value answers text
  pub none : found ≡ false

abbrev pub IsMade : Asked → List ℕ → List ℕ → List ℕ → Bool → Type 0
IsMade (breaks a) one two text found = IsBroken one two text found
IsMade (page a) one two text found = IsPaged (wish_of a) one two text found

-- why breaks can't be told: `confsolve verify` refuses the model or the configuration
abbrev pub IsUnbroken : List ℕ → List ℕ → Ended → Type 0
IsUnbroken model config (ended.Refused s) = broken.IsDenied model config s
IsUnbroken model config ended.Memory = ⊤
IsUnbroken model config s = ⊥

-- why there is no page
abbrev pub IsUnpaged : PageWish → List ℕ → List ℕ → Ended → Type 0
IsUnpaged w former answers (ended.NotJson Former) = text_json former ≡ None
IsUnpaged w former answers (ended.NotObject Former) = IsOther former
IsUnpaged w former answers (ended.NotJson Answers) = HasNoEntry answers none.NotJson
IsUnpaged w former answers ended.NoAttribute = LacksAttribute w answers
IsUnpaged w former answers ended.Memory = ⊤
IsUnpaged w former answers s = ⊥

abbrev pub IsUnmade : Asked → List ℕ → List ℕ → Ended → Type 0
IsUnmade (breaks a) one two s = IsUnbroken one two s
IsUnmade (page a) one two s = IsUnpaged (wish_of a) one two s
