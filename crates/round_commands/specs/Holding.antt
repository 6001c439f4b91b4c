-- What the steps of a session hand on. What a reader believes after this file: nothing that `run`
-- says.
use Rattle.std.specs.Prelude.{◌≡◌, ◌⊎◌, ◌≤◌, List, [], Option, None, IsSome, length, ℕ}
use Rattle.std.specs.List.{All}
use Rattle.class_table.specs.Outline.{Outline}
use Rattle.command_limits.specs.Limits.{events_bytes}
use Rattle.conf_events.specs.Texts.{bad_line, events_of}
use Rattle.conf_request.specs.declared.request.Request.{Request}
use Rattle.conf_request.specs.declared.request.Request.TheVariants.{Session}
use Rattle.conf_syntax.specs.declared.tree.Program.{Program}
use Rattle.conf_types.specs.Programs.{ResolvedConstraint, ResolvedGoal}
use Rattle.desk_io.specs.Desk.{Files, OfFile, with_printed}
use Rattle.desk_io.specs.Whole.{PrintsFront}
use Rattle.model_reader.specs.Building.{IsResolved}
use Rattle.model_reader.specs.Models.{IsWithin}
use Rattle.object_alloc.specs.Paths.{object_named}
use Rattle.proof_log.specs.Rounds.{Journal}
use Rattle.reconfigure.specs.declared.repair.Repair.{Repair}
use Rattle.run_status.specs.declared.status.Status.{Status}
use Rattle.round_commands.specs.Events.{StandsAt, situation_of}
use Rattle.run_promise.specs.Sessions.{situation, subject, AreHeld, AreBegun}
use Rattle.run_promise.specs.Answer.{IsRepairOf}
use Rattle.run_promise.specs.Asking.{Asked, Best, Generated, Checked, Satisfied, Held, Blamed, IsShort, former_text}
use Rattle.run_promise.specs.Refusal.{AreEventsLong, IsEventRefused, IsFormerLong, IsFormerRefused}
use Rattle.round_commands.specs.declared.session.Day.{Day}
use Rattle.round_commands.specs.declared.session.Opened.{Opened}

-- the values and the events are those of the texts
pub record IsDayOf (o : Outline) (before bytes : List ℕ) (d : Day) : Type 0 where
  pub repair : Repair
  pub former : IsRepairOf o (former_text before []) repair
  pub short : length bytes ≤ events_bytes
  pub good : bad_line o bytes ≡ None
  pub values : d.former ≡ repair.former
  pub events : d.events ≡ events_of o bytes

-- the former text is too long; or it isn't, and the events are
abbrev pub AreTextsRefused : Option Files → List ℕ → List ℕ → Status → Type 0
AreTextsRefused told former events s =
    OfFile told former (λ before. IsFormerLong before s)
    ⊎ OfFile told former (λ before. OfFile told events
    (λ bytes. IsShort before × AreEventsLong bytes s))

-- the former text is refused; or it is a repair, and a line is no event
abbrev pub IsDayRefused : Outline → List ℕ → List ℕ → Status → Type 0
IsDayRefused o before bytes s =
    IsFormerRefused o (former_text before []) s
    ⊎ ((r : Repair) × IsRepairOf o (former_text before []) r × IsEventRefused o bytes s)

-- the session begins with the values of the former text, and has the events of the other
pub record IsOpenedBy (o : Outline) (before bytes : List ℕ) (budget : ℕ) (x : Opened) : Type 0
  where
    pub repair : Repair
    pub former : IsRepairOf o (former_text before []) repair
    pub short : length bytes ≤ events_bytes
    pub good : bad_line o bytes ≡ None
    pub situation_is : situation_of x.session.state ≡ situation repair.former []
    pub events : x.events ≡ events_of o bytes
    pub budget_is : x.budget ≡ budget

abbrev pub IsOpenedFor : Outline → Opened → Asked → Type 0
IsOpenedFor o x (Held before bytes budget order) = IsOpenedBy o before bytes budget x
IsOpenedFor o x asked = ⊥

-- it is over the model, and its events are of the model's objects
pub record IsOpen (o : Outline) (ks : List ResolvedConstraint) (gs : List ResolvedGoal)
    (x : Opened) : Type 0 where
  pub at : StandsAt (subject o ks gs x.budget) (situation_of x.session.state) x.session.state
  pub named : All (λ e. IsSome (object_named o e.path)) x.events

-- the request is a session with this budget
abbrev pub HasBudget : Request → ℕ → Type 0
HasBudget (Session model former events budget order) n = n ≡ budget
HasBudget r n = ⊥

-- all events were answered, and the text of the answers printed
abbrev pub HasWhole : Outline → List ResolvedConstraint → List ResolvedGoal → Opened → Journal
    → Status → Option (List ℕ) → Option (List ℕ) → Type 0
HasWhole o ks gs x journal end printed now =
    (text : List ℕ)
    × AreHeld (subject o ks gs x.budget) (situation_of x.session.state) x.events journal.rounds
    end text
    × (now ≡ with_printed text printed)

-- the first of them were, all but the last of their texts were printed, and a front of that one
abbrev pub HasPart : Outline → List ResolvedConstraint → List ResolvedGoal → Opened → Journal
    → Option (List ℕ) → Option (List ℕ) → Type 0
HasPart o ks gs x journal printed now =
    (whole : List ℕ) × (text : List ℕ)
    × AreBegun (subject o ks gs x.budget) (situation_of x.session.state) x.events journal.rounds
    whole text
    × PrintsFront text (with_printed whole printed) now

-- P holds of each program whose model these are the parts of
abbrev pub ForModel : Outline → List ResolvedConstraint → List ResolvedGoal → (Program → Type 0)
    → Type 0
ForModel o ks gs P =
    (p : Program) → (table : Outline) → o ≡ table → IsResolved p table ks gs → IsWithin p → P p
