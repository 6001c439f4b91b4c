-- What each status of a run says.
use Rattle.std.specs.Prelude.{ℕ, ◌≡◌, ◌<◌, Bool, true, false, List, length, Option, None, Some, ⊤}
use Rattle.desk_io.specs.Desk.{Files, OfFile, with_printed}
use Rattle.desk_io.specs.Fault.{HasRisen}
use Rattle.desk_io.specs.Whole.{PrintsFront}
use Rattle.model_limits.specs.Limits.{config_bytes}
use Rattle.serde_json.specs.Data.{Data}
use Rattle.view_leaves.specs.Reading.{text_json, IsOther}
use Rattle.view_run.specs.Answers.{IsPlanText}
use Rattle.view_run.specs.Pictured.{IsDrawn, LacksAttribute, LacksPart}
use Rattle.view_run.specs.Stepped.{IsOrdered, LacksSteps, HasSetAmong, has_known, has_failed, has_stop}
use Rattle.view_run.specs.Words.{Asked, PlanAsked, PictureAsked, StepsAsked, plan, picture, steps}
use Rattle.view_run.specs.declared.status.Source.{Source}
use Rattle.view_run.specs.declared.status.Source.TheVariants.{Former, New, Config}
use Rattle.view_run.specs.declared.status.Status.{Status as Ended}
use Rattle.view_run.specs.declared.status.Status.TheVariants.{Same, Differs, Shown, Stuck, Usage, Unreadable, TooLong, NotJson, NotObject, NoAttribute, NoPart, NoStop, MovesSets, WriteFault, Memory}

-- what was printed, and how often reading and writing had failed, before a run and behind it
pub record Trace : Type 0 where
  pub printed : Option (List ℕ)
  pub printed_now : Option (List ℕ)
  pub reads : ℕ
  pub reads_now : ℕ
  pub writes : ℕ
  pub writes_now : ℕ

-- what a plan's file holds; no other file is one
abbrev pub OfSource : Option Files → PlanAsked → Source → (List ℕ → Type 0) → Type 0
OfSource files asked Former P = OfFile files asked.former P
OfSource files asked New P = OfFile files asked.new P
OfSource files asked Config P = ⊥

abbrev pub OfConfig : Option Files → PictureAsked → Source → (List ℕ → Type 0) → Type 0
OfConfig files asked Former P = ⊥
OfConfig files asked New P = ⊥
OfConfig files asked Config P = OfFile files asked.config P

-- the plan from what the former file holds to what the new one does, as a text
pub record IsAsked (files : Option Files) (asked : PlanAsked) (text : List ℕ) (differs : Bool) : Type 0 where
  pub before : Data
  pub behind : Data
  pub former : OfFile files asked.former (λ bytes. text_json bytes ≡ Some before)
  pub new : OfFile files asked.new (λ bytes. text_json bytes ≡ Some behind)
  pub planned : IsPlanText before behind asked.options text differs

-- that text was printed, and nothing else
pub record IsAnswered (files : Option Files) (asked : PlanAsked) (differs : Bool) (t : Trace) : Type 0 where
  pub text : List ℕ
  pub plan : IsAsked files asked text differs
  pub printed : t.printed_now ≡ with_printed text t.printed

-- writing failed behind a front of that text
pub record IsCutOff (files : Option Files) (asked : PlanAsked) (t : Trace) : Type 0 where
  pub text : List ℕ
  pub differs : Bool
  pub plan : IsAsked files asked text differs
  pub printed : PrintsFront text t.printed t.printed_now
  pub risen : HasRisen t.writes t.writes_now

-- nothing was printed, and P says why
abbrev pub IsRefused : Trace → Type 0 → Type 0
IsRefused t P = (t.printed_now ≡ t.printed) × P

abbrev pub PlanEnds : Option Files → PlanAsked → Trace → Ended → Type 0
PlanEnds files asked t Same = IsAnswered files asked false t
PlanEnds files asked t Differs = IsAnswered files asked true t
PlanEnds files asked t Shown = ⊥
PlanEnds files asked t Stuck = ⊥
PlanEnds files asked t Usage = ⊥
PlanEnds files asked t (Unreadable s) = IsRefused t (HasRisen t.reads t.reads_now)
PlanEnds files asked t (TooLong s) =
    IsRefused t (OfSource files asked s (λ bytes. config_bytes < length bytes))
PlanEnds files asked t (NotJson s) =
    IsRefused t (OfSource files asked s (λ bytes. text_json bytes ≡ None))
PlanEnds files asked t (NotObject s) = IsRefused t (OfSource files asked s IsOther)
PlanEnds files asked t NoAttribute = ⊥
PlanEnds files asked t NoPart = ⊥
PlanEnds files asked t NoStop = ⊥
PlanEnds files asked t MovesSets = ⊥
PlanEnds files asked t WriteFault = IsCutOff files asked t
PlanEnds files asked t Memory = ⊤

-- why a file was refused, and that it was this one
abbrev pub IsFaulty : Option Files → List ℕ → Source → ℕ → ℕ → Ended → Type 0
IsFaulty files name source reads reads_now Same = ⊥
IsFaulty files name source reads reads_now Differs = ⊥
IsFaulty files name source reads reads_now Shown = ⊥
IsFaulty files name source reads reads_now Stuck = ⊥
IsFaulty files name source reads reads_now Usage = ⊥
IsFaulty files name source reads reads_now (Unreadable s) =
    (s ≡ source) × HasRisen reads reads_now
IsFaulty files name source reads reads_now (TooLong s) =
    (s ≡ source) × OfFile files name (λ bytes. config_bytes < length bytes)
IsFaulty files name source reads reads_now (NotJson s) =
    (s ≡ source) × OfFile files name (λ bytes. text_json bytes ≡ None)
IsFaulty files name source reads reads_now (NotObject s) =
    (s ≡ source) × OfFile files name IsOther
IsFaulty files name source reads reads_now NoAttribute = ⊥
IsFaulty files name source reads reads_now NoPart = ⊥
IsFaulty files name source reads reads_now NoStop = ⊥
IsFaulty files name source reads reads_now MovesSets = ⊥
IsFaulty files name source reads reads_now WriteFault = ⊥
IsFaulty files name source reads reads_now Memory = ⊤

-- why there is no plan
abbrev pub IsDenied : Option Files → PlanAsked → ℕ → ℕ → Ended → Type 0
IsDenied files asked reads reads_now Same = ⊥
IsDenied files asked reads reads_now Differs = ⊥
IsDenied files asked reads reads_now Shown = ⊥
IsDenied files asked reads reads_now Stuck = ⊥
IsDenied files asked reads reads_now Usage = ⊥
IsDenied files asked reads reads_now (Unreadable s) = HasRisen reads reads_now
IsDenied files asked reads reads_now (TooLong s) =
    OfSource files asked s (λ bytes. config_bytes < length bytes)
IsDenied files asked reads reads_now (NotJson s) =
    OfSource files asked s (λ bytes. text_json bytes ≡ None)
IsDenied files asked reads reads_now (NotObject s) = OfSource files asked s IsOther
IsDenied files asked reads reads_now NoAttribute = ⊥
IsDenied files asked reads reads_now NoPart = ⊥
IsDenied files asked reads reads_now NoStop = ⊥
IsDenied files asked reads reads_now MovesSets = ⊥
IsDenied files asked reads reads_now WriteFault = ⊥
IsDenied files asked reads reads_now Memory = ⊤

-- what printing a text came to
abbrev pub IsDelivered : List ℕ → Bool → Option (List ℕ) → Option (List ℕ) → ℕ → ℕ → Ended → Type 0
IsDelivered text differs before now writes writes_now Same =
    (differs ≡ false) × (now ≡ with_printed text before)
IsDelivered text differs before now writes writes_now Differs =
    (differs ≡ true) × (now ≡ with_printed text before)
IsDelivered text differs before now writes writes_now Shown = ⊥
IsDelivered text differs before now writes writes_now Stuck = ⊥
IsDelivered text differs before now writes writes_now Usage = ⊥
IsDelivered text differs before now writes writes_now (Unreadable s) = ⊥
IsDelivered text differs before now writes writes_now (TooLong s) = ⊥
IsDelivered text differs before now writes writes_now (NotJson s) = ⊥
IsDelivered text differs before now writes writes_now (NotObject s) = ⊥
IsDelivered text differs before now writes writes_now NoAttribute = ⊥
IsDelivered text differs before now writes writes_now NoPart = ⊥
IsDelivered text differs before now writes writes_now NoStop = ⊥
IsDelivered text differs before now writes writes_now MovesSets = ⊥
IsDelivered text differs before now writes writes_now WriteFault =
    PrintsFront text before now × HasRisen writes writes_now
IsDelivered text differs before now writes writes_now Memory = ⊤

-- the picture of what the file holds was printed, and nothing else
pub record IsPictured (files : Option Files) (asked : PictureAsked) (t : Trace) : Type 0 where
  pub text : List ℕ
  pub drawn : IsDrawn files asked text
  pub printed : t.printed_now ≡ with_printed text t.printed

-- writing failed behind a front of it
pub record IsCutShort (files : Option Files) (asked : PictureAsked) (t : Trace) : Type 0 where
  pub text : List ℕ
  pub drawn : IsDrawn files asked text
  pub printed : PrintsFront text t.printed t.printed_now
  pub risen : HasRisen t.writes t.writes_now

abbrev pub PictureEnds : Option Files → PictureAsked → Trace → Ended → Type 0
PictureEnds files asked t Same = ⊥
PictureEnds files asked t Differs = ⊥
PictureEnds files asked t Shown = IsPictured files asked t
PictureEnds files asked t Stuck = ⊥
PictureEnds files asked t Usage = ⊥
PictureEnds files asked t (Unreadable s) = IsRefused t (HasRisen t.reads t.reads_now)
PictureEnds files asked t (TooLong s) =
    IsRefused t (OfConfig files asked s (λ bytes. config_bytes < length bytes))
PictureEnds files asked t (NotJson s) =
    IsRefused t (OfConfig files asked s (λ bytes. text_json bytes ≡ None))
PictureEnds files asked t (NotObject s) = IsRefused t (OfConfig files asked s IsOther)
PictureEnds files asked t NoAttribute = IsRefused t (LacksAttribute files asked)
PictureEnds files asked t NoPart = IsRefused t (LacksPart files asked)
PictureEnds files asked t NoStop = ⊥
PictureEnds files asked t MovesSets = ⊥
PictureEnds files asked t WriteFault = IsCutShort files asked t
PictureEnds files asked t Memory = ⊤

-- why there is no picture
abbrev pub IsUndrawn : Option Files → PictureAsked → ℕ → ℕ → Ended → Type 0
IsUndrawn files asked reads reads_now Same = ⊥
IsUndrawn files asked reads reads_now Differs = ⊥
IsUndrawn files asked reads reads_now Shown = ⊥
IsUndrawn files asked reads reads_now Stuck = ⊥
IsUndrawn files asked reads reads_now Usage = ⊥
IsUndrawn files asked reads reads_now (Unreadable s) = HasRisen reads reads_now
IsUndrawn files asked reads reads_now (TooLong s) =
    OfConfig files asked s (λ bytes. config_bytes < length bytes)
IsUndrawn files asked reads reads_now (NotJson s) =
    OfConfig files asked s (λ bytes. text_json bytes ≡ None)
IsUndrawn files asked reads reads_now (NotObject s) = OfConfig files asked s IsOther
IsUndrawn files asked reads reads_now NoAttribute = LacksAttribute files asked
IsUndrawn files asked reads reads_now NoPart = LacksPart files asked
IsUndrawn files asked reads reads_now NoStop = ⊥
IsUndrawn files asked reads reads_now MovesSets = ⊥
IsUndrawn files asked reads reads_now WriteFault = ⊥
IsUndrawn files asked reads reads_now Memory = ⊤

-- what printing a picture came to
abbrev pub IsHandedOut : List ℕ → Option (List ℕ) → Option (List ℕ) → ℕ → ℕ → Ended → Type 0
IsHandedOut text before now writes writes_now Same = ⊥
IsHandedOut text before now writes writes_now Differs = ⊥
IsHandedOut text before now writes writes_now Shown = now ≡ with_printed text before
IsHandedOut text before now writes writes_now Stuck = ⊥
IsHandedOut text before now writes writes_now Usage = ⊥
IsHandedOut text before now writes writes_now (Unreadable s) = ⊥
IsHandedOut text before now writes writes_now (TooLong s) = ⊥
IsHandedOut text before now writes writes_now (NotJson s) = ⊥
IsHandedOut text before now writes writes_now (NotObject s) = ⊥
IsHandedOut text before now writes writes_now NoAttribute = ⊥
IsHandedOut text before now writes writes_now NoPart = ⊥
IsHandedOut text before now writes writes_now NoStop = ⊥
IsHandedOut text before now writes writes_now MovesSets = ⊥
IsHandedOut text before now writes writes_now WriteFault =
    PrintsFront text before now × HasRisen writes writes_now
IsHandedOut text before now writes writes_now Memory = ⊤

-- an order of the moves between what the files hold was printed, and nothing else
pub record IsLedOut (files : Option Files) (asked : StepsAsked) (stuck : Bool) (t : Trace) : Type 0 where
  pub text : List ℕ
  pub ordered : IsOrdered files asked text stuck
  pub printed : t.printed_now ≡ with_printed text t.printed

-- writing failed behind a front of it
pub record IsBrokenOff (files : Option Files) (asked : StepsAsked) (t : Trace) : Type 0 where
  pub text : List ℕ
  pub stuck : Bool
  pub ordered : IsOrdered files asked text stuck
  pub printed : PrintsFront text t.printed t.printed_now
  pub risen : HasRisen t.writes t.writes_now

-- the files that steps are asked of, as those of a plan
abbrev pub two_files : StepsAsked → PlanAsked
two_files asked = record { former = asked.former; new = asked.new; options = asked.options }

-- why there are no steps
abbrev pub IsUnordered : Option Files → StepsAsked → ℕ → ℕ → Ended → Type 0
IsUnordered files asked reads reads_now Same = ⊥
IsUnordered files asked reads reads_now Differs = ⊥
IsUnordered files asked reads reads_now Shown = ⊥
IsUnordered files asked reads reads_now Stuck = ⊥
IsUnordered files asked reads reads_now Usage = ⊥
IsUnordered files asked reads reads_now (Unreadable s) = HasRisen reads reads_now
IsUnordered files asked reads reads_now (TooLong s) =
    OfSource files (two_files asked) s (λ bytes. config_bytes < length bytes)
IsUnordered files asked reads reads_now (NotJson s) =
    OfSource files (two_files asked) s (λ bytes. text_json bytes ≡ None)
IsUnordered files asked reads reads_now (NotObject s) =
    OfSource files (two_files asked) s IsOther
IsUnordered files asked reads reads_now NoAttribute =
    LacksSteps files asked (λ d e. has_known d e asked ≡ false)
IsUnordered files asked reads reads_now NoPart =
    LacksSteps files asked (λ d e. has_failed e asked ≡ false)
IsUnordered files asked reads reads_now NoStop =
    LacksSteps files asked (λ d e. has_stop e asked ≡ false)
IsUnordered files asked reads reads_now MovesSets =
    LacksSteps files asked (HasSetAmong asked)
IsUnordered files asked reads reads_now WriteFault = ⊥
IsUnordered files asked reads reads_now Memory = ⊤

abbrev pub StepsEnds : Option Files → StepsAsked → Trace → Ended → Type 0
StepsEnds files asked t Same = ⊥
StepsEnds files asked t Differs = ⊥
StepsEnds files asked t Shown = IsLedOut files asked false t
StepsEnds files asked t Stuck = IsLedOut files asked true t
StepsEnds files asked t Usage = ⊥
StepsEnds files asked t (Unreadable s) = IsRefused t (HasRisen t.reads t.reads_now)
StepsEnds files asked t (TooLong s) =
    IsRefused t (OfSource files (two_files asked) s (λ bytes. config_bytes < length bytes))
StepsEnds files asked t (NotJson s) =
    IsRefused t (OfSource files (two_files asked) s (λ bytes. text_json bytes ≡ None))
StepsEnds files asked t (NotObject s) =
    IsRefused t (OfSource files (two_files asked) s IsOther)
StepsEnds files asked t NoAttribute =
    IsRefused t (LacksSteps files asked (λ d e. has_known d e asked ≡ false))
StepsEnds files asked t NoPart =
    IsRefused t (LacksSteps files asked (λ d e. has_failed e asked ≡ false))
StepsEnds files asked t NoStop =
    IsRefused t (LacksSteps files asked (λ d e. has_stop e asked ≡ false))
StepsEnds files asked t MovesSets =
    IsRefused t (LacksSteps files asked (HasSetAmong asked))
StepsEnds files asked t WriteFault = IsBrokenOff files asked t
StepsEnds files asked t Memory = ⊤

-- what printing an order came to
abbrev pub IsSentOut : List ℕ → Bool → Option (List ℕ) → Option (List ℕ) → ℕ → ℕ → Ended → Type 0
IsSentOut text stuck before now writes writes_now Same = ⊥
IsSentOut text stuck before now writes writes_now Differs = ⊥
IsSentOut text stuck before now writes writes_now Shown =
    (stuck ≡ false) × (now ≡ with_printed text before)
IsSentOut text stuck before now writes writes_now Stuck =
    (stuck ≡ true) × (now ≡ with_printed text before)
IsSentOut text stuck before now writes writes_now Usage = ⊥
IsSentOut text stuck before now writes writes_now (Unreadable s) = ⊥
IsSentOut text stuck before now writes writes_now (TooLong s) = ⊥
IsSentOut text stuck before now writes writes_now (NotJson s) = ⊥
IsSentOut text stuck before now writes writes_now (NotObject s) = ⊥
IsSentOut text stuck before now writes writes_now NoAttribute = ⊥
IsSentOut text stuck before now writes writes_now NoPart = ⊥
IsSentOut text stuck before now writes writes_now NoStop = ⊥
IsSentOut text stuck before now writes writes_now MovesSets = ⊥
IsSentOut text stuck before now writes writes_now WriteFault =
    PrintsFront text before now × HasRisen writes writes_now
IsSentOut text stuck before now writes writes_now Memory = ⊤

abbrev pub Ends : Option Files → Asked → Trace → Ended → Type 0
Ends files (plan a) t s = PlanEnds files a t s
Ends files (picture a) t s = PictureEnds files a t s
Ends files (steps a) t s = StepsEnds files a t s
