-- Why what is asked of a model is refused, and why a request is. What a reader believes after this
-- file: what each refusal says of the texts that it refuses.
use Rattle.std.specs.Prelude.{◌≡◌, ◌⊎◌, ◌+◌, ◌<◌, ◌≤◌, List, [], Option, None, Some, IsSome, length, take, ℕ, ℤ}
use Rattle.std.specs.Option.{option_map_or}
use Rattle.class_table.specs.Outline.{Outline}
use Rattle.conf_eval.specs.Breaking.{IsWrongConstraint}
use Rattle.command_limits.specs.Limits.{events_bytes, log_bytes}
use Rattle.conf_events.specs.Texts.{bad_line}
use Rattle.conf_syntax.specs.declared.tree.Program.{Program}
use Rattle.conf_types.specs.Programs.{ResolvedConstraint, ResolvedGoal}
use Rattle.config_json.specs.Former.{missing}
use Rattle.config_json.specs.Reading.{value_read, IsOther}
use Rattle.conf_request.specs.declared.request.Request.TheVariants.{Session}
use Rattle.desk_io.specs.Desk.{Files, OfFile}
use Rattle.ground_form.specs.declared.ground.Ground.{Ground}
use Rattle.log_check.specs.Fed.{FailsAt, HasTaken, Left}
use Rattle.model_limits.specs.Limits.{config_bytes, model_bytes}
use Rattle.model_search.specs.Problems.{IsProblemOf}
use Rattle.object_alloc.specs.Paths.{path}
use Rattle.proof_log.specs.Rounds.{Journal}
use Rattle.run_status.specs.declared.status.FormerKind.TheVariants as former
use Rattle.run_status.specs.declared.status.LimitKind.TheVariants as kind
use Rattle.run_status.specs.declared.status.Status.{Status}
use Rattle.run_status.specs.declared.status.Status.TheVariants as status
use Rattle.serde_json.specs.Data.{Data}
use Rattle.serde_json.specs.Find.{as_object}
use Rattle.reconfigure.specs.Failing.{unknown_word}
use Rattle.reconfigure.specs.declared.repair.Repair.{Repair}
use Rattle.conf_request.specs.declared.request.Request.{Request}
use Rattle.run_promise.specs.Answer.{IsConfigOf, IsRepairOf, OfRepair}
use Rattle.run_promise.specs.Asking.{Asked, Checked, Satisfied, Held, FormerText, IsShort, OfAsked, OfFormer, former_text}
use Rattle.model_reader.specs.TextModel.{HasModel}
use Rattle.model_reader.specs.ModelRefusal.{IsRefusedAs, IsTextRefused}
use Rattle.model_reader.specs.Models.{IsWithin, outline_of, constraints_of, goals_of}

-- the path of the object for which a constraint is stated; empty at the top level
abbrev pub stated_path : Outline → Option ℕ → List ℕ
stated_path o object = option_map_or (path o) object []

-- the first constraint that is broken, for the first object, by its place and the object's path
pub record IsBrokenAt (o : Outline) (ks : List ResolvedConstraint) (t : List ℤ) (place : ℕ)
    (path_text : List ℕ) : Type 0 where
  pub index : ℕ
  pub object : Option ℕ
  pub wrong : IsWrongConstraint o ks t index object
  pub place_is : place ≡ wrong.constraint.place
  pub path_is : path_text ≡ stated_path o object

-- a leaf has no value in the object that the bytes are read as, the first one with this path
pub record IsMissing (o : Outline) (bytes path_text : List ℕ) : Type 0 where
  pub json : Data
  pub read : value_read bytes ≡ Some json
  pub object : IsSome (as_object json)
  pub first : missing o json ≡ Some path_text

pub record IsBroken (o : Outline) (ks : List ResolvedConstraint) (bytes : List ℕ) (place : ℕ)
    (path_text : List ℕ) : Type 0 where
  pub config : List ℤ
  pub is : IsConfigOf o bytes config
  pub broken : IsBrokenAt o ks config place path_text

-- the journal holds the problem of the model or of the repair alone, and P holds of it
pub record HasProblem (o : Outline) (ks : List ResolvedConstraint) (gs : List ResolvedGoal)
    (r : Option Repair) (journal : Journal) (P : Ground → Type 0) : Type 0 where
  pub ground : Ground
  pub kept : journal.ground ≡ Some ground
  pub alone : journal.lines ≡ []
  pub problem : IsProblemOf o ks gs r ground
  pub holds : P ground

-- behind this many lines, which are accepted, bytes are left that end no line
pub record HasRest (g : Ground) (bytes : List ℕ) (n : ℕ) : Type 0 where
  pub left : Left
  pub taken : HasTaken g bytes left
  pub some : 0 < length left.rest
  pub number : n ≡ left.ended + 1

-- line n of the log is refused: it ends within the limit and isn't spelled or accepted; or it is
-- the rest of a log within the limit that doesn't end with a line
abbrev pub IsRejectedAt : List ℕ → ℕ → Ground → Type 0
IsRejectedAt bytes n g =
    FailsAt g (take log_bytes bytes) n ⊎ ((length bytes ≤ log_bytes) × HasRest g bytes n)

-- the log is longer than the limit, and no line within it is refused
abbrev pub IsTooLong : List ℕ → Ground → Type 0
IsTooLong bytes g =
    (log_bytes < length bytes) × ((left : Left) × HasTaken g (take log_bytes bytes) left)

-- a configuration's text: it is too long, no JSON or no object
abbrev pub IsUnread : List ℕ → Status → Type 0
IsUnread bytes (status.Limit kind.Former None) = config_bytes < length bytes
IsUnread bytes (status.Former former.NotJson) = IsShort bytes × (value_read bytes ≡ None)
IsUnread bytes (status.Former former.NotObject) = IsShort bytes × IsOther bytes
IsUnread bytes s = ⊥

-- that, or it has no value for a leaf, or doesn't satisfy the model
abbrev pub IsUnverified : Outline → List ResolvedConstraint → List ℕ → Status → Type 0
IsUnverified o ks bytes (status.Broken None path_text) = IsShort bytes × IsMissing o bytes path_text
IsUnverified o ks bytes (status.Broken (Some place) path_text) =
    IsShort bytes × IsBroken o ks bytes place path_text
IsUnverified o ks bytes s = IsUnread bytes s

-- the bytes are read as an object, and the word of this number is the first that names no object
pub record IsUnknown (o : Outline) (f : FormerText) (n : ℕ) : Type 0 where
  pub short : IsShort f.bytes
  pub json : Data
  pub read : value_read f.bytes ≡ Some json
  pub object : IsSome (as_object json)
  pub first : unknown_word o f.failed ≡ Some n

-- a former configuration's text is refused, or a word that names what failed
abbrev pub IsFormerRefused : Outline → FormerText → Status → Type 0
IsFormerRefused o f (status.Former (former.UnknownObject n)) = IsUnknown o f n
IsFormerRefused o f s = IsUnread f.bytes s

-- a log: it is too long, or a line of it is refused
abbrev pub IsUnfit : List ℕ → Status → Ground → Type 0
IsUnfit bytes (status.Limit kind.Log None) g = IsTooLong bytes g
IsUnfit bytes (status.Rejected line) g = IsRejectedAt bytes line g
IsUnfit bytes s g = ⊥

abbrev pub IsUnchecked : Outline → List ResolvedConstraint → List ResolvedGoal → Option Repair
    → Journal → List ℕ → Status → Type 0
IsUnchecked o ks gs r journal bytes s = HasProblem o ks gs r journal (IsUnfit bytes s)

-- a text of events is too long
abbrev pub AreEventsLong : List ℕ → Status → Type 0
AreEventsLong bytes s = (s ≡ status.Limit kind.Events None) × (events_bytes < length bytes)

-- a line of a text of events is no event, the first such one
abbrev pub IsEventRefused : Outline → List ℕ → Status → Type 0
IsEventRefused o bytes (status.Events line) = bad_line o bytes ≡ Some line
IsEventRefused o bytes s = ⊥

-- the texts of a session, which are told of in this order: the events are too long, but the former
-- text isn't; neither is, and the former text is refused; or that is a repair, and a line is no
-- event
abbrev pub IsHeldRefused : Outline → List ℕ → List ℕ → Status → Type 0
IsHeldRefused o before bytes s =
    (IsShort before × AreEventsLong bytes s)
    ⊎ ((IsShort before × (length bytes ≤ events_bytes)
    × IsFormerRefused o (former_text before []) s)
    ⊎ ((r : Repair) × IsRepairOf o (former_text before []) r × (length bytes ≤ events_bytes)
    × IsEventRefused o bytes s))

abbrev pub IsModelDenied : Outline → List ResolvedConstraint → List ResolvedGoal → Journal → Asked
    → Status → Type 0
IsModelDenied o ks gs journal (Checked former bytes) s =
    OfRepair o former (λ r. IsUnchecked o ks gs r journal bytes s)
IsModelDenied o ks gs journal (Satisfied bytes) s = IsUnverified o ks bytes s
IsModelDenied o ks gs journal (Held before bytes budget order) s = IsHeldRefused o before bytes s
IsModelDenied o ks gs journal asked s = ⊥

-- a former text is too long
abbrev pub IsFormerLong : List ℕ → Status → Type 0
IsFormerLong bytes s = (s ≡ status.Limit kind.Former None) × (config_bytes < length bytes)

-- the former text that the request names is refused before another file is looked at: of a session
-- it is too long
abbrev pub IsFormerDenied : Option Files → Request → Outline → Status → Type 0
IsFormerDenied told (Session model former events budget order) o s =
    OfFile told former (λ bytes. IsFormerLong bytes s)
IsFormerDenied told r o s = OfFormer told r (λ f. IsFormerRefused o f s)

-- that, or else what it asks of a model is refused
abbrev pub IsDenied : Option Files → Request → Journal → Status → Outline
    → List ResolvedConstraint → List ResolvedGoal → Type 0
IsDenied told r journal s o ks gs =
    IsFormerDenied told r o s
    ⊎ OfAsked told r (λ asked. IsModelDenied o ks gs journal asked s)

abbrev pub IsDeniedOf : Option Files → Request → Journal → Status → Program → Type 0
IsDeniedOf told r journal s p =
    IsDenied told r journal s (outline_of p) (constraints_of p) (goals_of p)

-- ---- all refusals

-- the text is longer than a model's may be
abbrev pub IsTooLongText : List ℕ → Status → Type 0
IsTooLongText text s = (s ≡ status.Limit kind.Model None) × (model_bytes < length text)

-- a refusal that stands in a text: it is longer than a model's may be; or it isn't, and is no model
abbrev pub IsStanding : List ℕ → Status → Type 0
IsStanding text s =
    IsTooLongText text s ⊎ ((length text ≤ model_bytes) × IsTextRefused text s)

-- why a request is refused, of which this is the model's text: that is too long, is no model or one
-- that breaks a limit, or the model is within the limits and what is asked of it is refused
abbrev pub IsReason : Option Files → Request → Journal → List ℕ → Status → Type 0
IsReason told r journal text s =
    IsTooLongText text s
    ⊎ (IsRefusedAs s text
    ⊎ HasModel text (λ p. IsWithin p × IsDeniedOf told r journal s p))
