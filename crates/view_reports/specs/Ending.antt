-- What each status of a run says.
use Rattle.std.specs.Prelude.{ℕ, ◌≡◌, ◌<◌, ◌⊎◌, Bool, true, false, List, length, Option, Some, ⊤}
use Rattle.desk_io.specs.Desk.{Files, OfFile, with_printed}
use Rattle.desk_io.specs.Fault.{HasRisen}
use Rattle.desk_io.specs.Whole.{PrintsFront}
use Rattle.model_limits.specs.Limits.{model_bytes, config_bytes}
use Rattle.view_reports.specs.Made.{IsMade, IsUnmade}
use Rattle.view_reports.specs.Words.{Asked, breaks, page}
use Rattle.view_reports.specs.declared.status.Source.{Source}
use Rattle.view_reports.specs.declared.status.Source.TheVariants.{Model, Config, Former, Answers}
use Rattle.view_reports.specs.declared.status.Status.{Status as Ended}
use Rattle.view_reports.specs.declared.status.Status.TheVariants.{Whole, Broken, Usage, Unreadable, TooLong, NotJson, NotObject, NoAttribute, WriteFault, Memory, Refused}

-- what was printed, and how often reading and writing had failed, before a run and behind it
pub record Trace : Type 0 where
  pub printed : Option (List ℕ)
  pub printed_now : Option (List ℕ)
  pub reads : ℕ
  pub reads_now : ℕ
  pub writes : ℕ
  pub writes_now : ℕ

-- ---- files

-- the two files that are asked of, and which they are
abbrev pub first_name : Asked → List ℕ
first_name (breaks a) = a.model
first_name (page a) = a.former

abbrev pub second_name : Asked → List ℕ
second_name (breaks a) = a.config
second_name (page a) = a.answers

abbrev pub first_source : Asked → Source
first_source (breaks a) = Model
first_source (page a) = Former

abbrev pub second_source : Asked → Source
second_source (breaks a) = Config
second_source (page a) = Answers

-- how many bytes a file may have
abbrev pub limit_of : Source → ℕ
limit_of Model = model_bytes
limit_of Config = config_bytes
limit_of Former = config_bytes
limit_of Answers = config_bytes

abbrev pub IsLong : Option Files → List ℕ → Source → Type 0
IsLong files name s = OfFile files name (λ bytes. limit_of s < length bytes)

-- both files are read, and P holds of their bytes
pub record OfBoth (files : Option Files) (asked : Asked) (P : List ℕ → List ℕ → Type 0) : Type 0 where
  pub one : List ℕ
  pub two : List ℕ
  pub first : OfFile files (first_name asked) (λ bytes. bytes ≡ one)
  pub second : OfFile files (second_name asked) (λ bytes. bytes ≡ two)
  pub holds : P one two

-- why a file of this name, which is this one, isn't read
abbrev pub IsNoFile : Option Files → List ℕ → Source → ℕ → ℕ → Ended → Type 0
IsNoFile files name source reads now (Unreadable s) = (s ≡ source) × HasRisen reads now
IsNoFile files name source reads now (TooLong s) = (s ≡ source) × IsLong files name s
IsNoFile files name source reads now Memory = ⊤
IsNoFile files name source reads now s = ⊥

-- one of both isn't read
abbrev pub IsUnread : Option Files → Asked → ℕ → ℕ → Ended → Type 0
IsUnread files asked reads now s =
    IsNoFile files (first_name asked) (first_source asked) reads now s
    ⊎ IsNoFile files (second_name asked) (second_source asked) reads now s

-- why nothing is made: a file isn't read, or their bytes give nothing
abbrev pub IsDenied : Option Files → Asked → ℕ → ℕ → Ended → Type 0
IsDenied files asked reads now s =
    IsUnread files asked reads now s ⊎ OfBoth files asked (λ one two. IsUnmade asked one two s)

-- ---- runs

-- that text was printed, and nothing else
pub record IsAnswered (files : Option Files) (asked : Asked) (found : Bool) (t : Trace) : Type 0 where
  pub text : List ℕ
  pub made : OfBoth files asked (λ one two. IsMade asked one two text found)
  pub printed : t.printed_now ≡ with_printed text t.printed

-- writing failed behind a front of it
pub record IsCutOff (files : Option Files) (asked : Asked) (t : Trace) : Type 0 where
  pub text : List ℕ
  pub found : Bool
  pub made : OfBoth files asked (λ one two. IsMade asked one two text found)
  pub printed : PrintsFront text t.printed t.printed_now
  pub risen : HasRisen t.writes t.writes_now

-- nothing was printed, and the status says why
pub record IsRefused (files : Option Files) (asked : Asked) (t : Trace) (s : Ended) : Type 0 where
  pub silent : t.printed_now ≡ t.printed
  pub why : IsDenied files asked t.reads t.reads_now s

abbrev pub Ends : Option Files → Asked → Trace → Ended → Type 0
Ends files asked t Whole = IsAnswered files asked false t
Ends files asked t Broken = IsAnswered files asked true t
Ends files asked t Usage = ⊥
Ends files asked t WriteFault = IsCutOff files asked t
Ends files asked t Memory = ⊤
Ends files asked t s = IsRefused files asked t s
