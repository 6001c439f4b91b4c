-- What answers that which is asked of a model. What a reader believes after this file: what the
-- text that is printed and the status say of the model, and what the journal holds that shows it.
use Rattle.std.specs.Prelude.{◌≡◌, ◌≤◌, [], List, length, Option, None, Some, IsSome, map, true, slice_index_or, ℕ, ℤ}
use Rattle.std.specs.List.{AllByRecursion}
use Rattle.answer_text.specs.Texts.{check_text, gen_text, satisfied_text, solve_text}
use Rattle.branch_choice.specs.declared.split.Order.{Order}
use Rattle.branch_choice.specs.declared.split.Order.TheVariants as orders
use Rattle.class_table.specs.Outline.{Outline}
use Rattle.conf_request.specs.declared.options.OrderName.{OrderName}
use Rattle.conf_request.specs.declared.options.OrderName.TheVariants as names
use Rattle.conf_eval.specs.Satisfying.{Satisfies}
use Rattle.command_limits.specs.Limits.{events_bytes, generated_budget}
use Rattle.conf_events.specs.Texts.{bad_line, events_of}
use Rattle.conf_events.specs.declared.event.Event.{Event}
use Rattle.conf_syntax.specs.declared.tree.Program.{Program}
use Rattle.conf_types.specs.Programs.{ResolvedConstraint, ResolvedGoal}
use Rattle.config_json.specs.Former.{hints, missing}
use Rattle.config_json.specs.Reading.{value_read}
use Rattle.run_promise.specs.Blaming.{IsBlamed, IsSearchedSoFar}
use Rattle.ground_form.specs.declared.ground.Ground.{Ground}
use Rattle.log_check.specs.Verdicts.{ending}
use Rattle.log_form.specs.Acceptance.{accepted}
use Rattle.log_form.specs.declared.line.Line.{Line}
use Rattle.model_search.specs.Findings.{finding, Tells}
use Rattle.model_search.specs.Problems.{IsProblemOf}
use Rattle.model_search.specs.Runs.{HasRun}
use Rattle.model_search.specs.declared.finding.Finding.{Finding}
use Rattle.model_search.specs.declared.finding.Finding.TheVariants as findings
use Rattle.object_alloc.specs.Configurations.{IsConfiguration}
use Rattle.proof_log.specs.Rounds.{Journal, empty}
use Rattle.proof_log.specs.Spelling.{lines_text, IsLine}
use Rattle.run_status.specs.declared.status.Status.{Status}
use Rattle.run_status.specs.declared.status.Status.TheVariants as status
use Rattle.serde_json.specs.Data.{Data}
use Rattle.run_promise.specs.Sessions.{Situation, situation, subject, AreHeld, AreBegun}
use Rattle.serde_json.specs.Find.{as_object}
use Rattle.reconfigure.specs.Failing.{unknown_word}
use Rattle.reconfigure.specs.declared.repair.Repair.{Repair}
use Rattle.run_promise.specs.Asking.{Asked, Best, Generated, Checked, Satisfied, Held, Blamed, FormerText, IsShort, former_text}
use Rattle.model_reader.specs.Models.{outline_of, constraints_of, goals_of}

-- ---- statuses

abbrev pub searched_status : ℕ → Finding → Status
searched_status budget (findings.Best t) = status.Done
searched_status budget findings.NoneExists = status.NoneExists
searched_status budget (findings.Open last) = status.Undecided budget

abbrev pub checked_status : Finding → Status
checked_status findings.NoneExists = status.NoneExists
checked_status told = status.Done

-- ---- what they say

-- where the chooser of an order stands
abbrev pub place_of : OrderName → ℕ
place_of names.First = 0
place_of names.Small = 1
place_of names.Former = 2

abbrev pub order_at : List Order → OrderName → Order
order_at os name = slice_index_or os (place_of name) orders.Own

-- a search over the model, or over a repair of it, tells something of it, and the journal shows it
pub record IsSearched (o : Outline) (ks : List ResolvedConstraint) (gs : List ResolvedGoal)
    (r : Option Repair) (order : Order) (budget : ℕ) (journal : Journal) (s : Status)
    (text : Finding → List ℕ) (printed : List ℕ) : Type 0 where
  pub told : Finding
  pub run : HasRun o ks gs r order budget journal told
  pub status_is : s ≡ searched_status budget told
  pub text_is : printed ≡ text told

-- the journal's problem is that of the model or of the repair, the bytes spell lines that are
-- accepted against it, and what they show is told of the model
pub record IsChecked (o : Outline) (ks : List ResolvedConstraint) (gs : List ResolvedGoal)
    (r : Option Repair) (bytes : List ℕ) (journal : Journal) (s : Status)
    (printed : List ℕ) : Type 0 where
  pub ground : Ground
  pub kept : journal.ground ≡ Some ground
  pub alone : journal.lines ≡ []
  pub problem : IsProblemOf o ks gs r ground
  pub lines : List Line
  pub read : bytes ≡ lines_text lines
  pub spelled : AllByRecursion IsLine lines
  pub taken : accepted ground lines ≡ true
  pub tells : Tells o ks gs r (finding ground (ending ground lines))
  pub status_is : s ≡ checked_status (finding ground (ending ground lines))
  pub text_is : printed ≡ check_text o gs r (finding ground (ending ground lines))

-- the bytes are read as an object that gives each leaf a value, and these are the values of the
-- cells
pub record IsConfigOf (o : Outline) (bytes : List ℕ) (t : List ℤ) : Type 0 where
  pub json : Data
  pub read : value_read bytes ≡ Some json
  pub object : IsSome (as_object json)
  pub whole : missing o json ≡ None
  pub values : hints o json ≡ map Some t
  pub configuration : IsConfiguration o t

-- the configuration that the bytes are satisfies the model
pub record IsVerified (o : Outline) (ks : List ResolvedConstraint) (gs : List ResolvedGoal)
    (bytes : List ℕ) (s : Status) (printed : List ℕ) : Type 0 where
  pub config : List ℤ
  pub short : IsShort bytes
  pub is : IsConfigOf o bytes config
  pub satisfied : Satisfies o ks config
  pub status_is : s ≡ status.Done
  pub text_is : printed ≡ satisfied_text o gs config

-- the bytes are read as an object, the former values are those that it gives for the cells, and
-- each word that names something failed is an object's path
pub record IsRepairOf (o : Outline) (f : FormerText) (r : Repair) : Type 0 where
  pub short : IsShort f.bytes
  pub json : Data
  pub read : value_read f.bytes ≡ Some json
  pub object : IsSome (as_object json)
  pub former : r.former ≡ hints o json
  pub failed : r.failed.items ≡ f.failed
  pub named : unknown_word o f.failed ≡ None

-- P holds of the repair that a former text asks for; without one of none
abbrev pub OfRepair : Outline → Option FormerText → (Option Repair → Type 0) → Type 0
OfRepair o None P = P None
OfRepair o (Some f) P = (r : Repair) × IsRepairOf o f r × P (Some r)

-- P holds of the values that a former text gives, with nothing that failed yet, and of the events
-- that a text has, each line of which is one
pub record IsDay (o : Outline) (before bytes : List ℕ)
    (P : Situation → List Event → Type 0) : Type 0 where
  pub repair : Repair
  pub former : IsRepairOf o (former_text before []) repair
  pub short : length bytes ≤ events_bytes
  pub good : bad_line o bytes ≡ None
  pub holds : P (situation repair.former []) (events_of o bytes)

-- the text that was printed, with the status, answers what is asked of a model; the orders are
-- those of the choosers, and the journal is what the journal holds
abbrev pub IsModelAnswer : Outline → List ResolvedConstraint → List ResolvedGoal → List Order
    → Journal → Asked → Status → List ℕ → Type 0
IsModelAnswer o ks gs os journal (Best former budget order) s text =
    OfRepair o former
    (λ r. IsSearched o ks gs r (order_at os order) budget journal s (solve_text o gs r budget) text)
IsModelAnswer o ks gs os journal (Generated n) s text =
    IsSearched o ks gs None (order_at os names.First) generated_budget journal s (gen_text o gs n)
    text
IsModelAnswer o ks gs os journal (Checked former bytes) s text =
    OfRepair o former (λ r. IsChecked o ks gs r bytes journal s text)
IsModelAnswer o ks gs os journal (Satisfied bytes) s text =
    (journal ≡ empty) × IsVerified o ks gs bytes s text
IsModelAnswer o ks gs os journal (Held before bytes budget order) s text =
    IsDay o before bytes (λ p es. AreHeld (subject o ks gs budget) p es journal.rounds s text)
IsModelAnswer o ks gs os journal (Blamed budget order) s text =
    IsBlamed o ks budget journal.rounds s text

-- the texts answer it as far as it was answered when writing or memory failed: of a session the
-- first events, the last of them with the second text; else the second text answers all
abbrev pub IsModelBegun : Outline → List ResolvedConstraint → List ResolvedGoal → List Order
    → Journal → Asked → Status → List ℕ → List ℕ → Type 0
IsModelBegun o ks gs os journal (Held before bytes budget order) s whole text =
    IsDay o before bytes (λ p es. AreBegun (subject o ks gs budget) p es journal.rounds whole text)
IsModelBegun o ks gs os journal asked s whole text =
    (whole ≡ []) × IsModelAnswer o ks gs os journal asked s text

-- memory failed among the searches for what to blame: those of the journal are over parts of the
-- model, the first over all of it
abbrev pub IsModelSearched : Outline → List ResolvedConstraint → Journal → Asked → Type 0
IsModelSearched o ks journal (Blamed budget order) = IsSearchedSoFar o ks budget journal.rounds
IsModelSearched o ks journal asked = ⊥

abbrev pub IsAnswer : List Order → Journal → Asked → Program → Status → List ℕ → Type 0
IsAnswer os journal asked p s text =
    IsModelAnswer (outline_of p) (constraints_of p) (goals_of p) os journal asked s text

abbrev pub IsAnswerBegun : List Order → Journal → Asked → Program → Status → List ℕ → List ℕ
    → Type 0
IsAnswerBegun os journal asked p s whole text =
    IsModelBegun (outline_of p) (constraints_of p) (goals_of p) os journal asked s whole text

abbrev pub IsAnswerSearched : Journal → Asked → Program → Type 0
IsAnswerSearched journal asked p = IsModelSearched (outline_of p) (constraints_of p) journal asked
