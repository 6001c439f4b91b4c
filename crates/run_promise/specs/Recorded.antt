-- What the journal holds behind an answer, whatever is known of files. What a reader believes after
-- this file: a ground problem and the lines of a search over it, which are a run, are accepted, and
-- show what the status says.
use Rattle.std.specs.Prelude.{◌≡◌, ◌⊎◌, [], ◌∷◌, Bool, true, false, List, Option, None, Some, map, replicate, ℕ, ℤ}
use Rattle.std.specs.List.{All}
use Rattle.branch_choice.specs.declared.split.Order.{Order}
use Rattle.branch_choice.specs.declared.split.Order.TheVariants as orders
use Rattle.command_limits.specs.Limits.{generated_budget}
use Rattle.conf_request.specs.declared.options.OrderName.TheVariants as names
use Rattle.conf_request.specs.declared.request.Request.{Request}
use Rattle.conf_request.specs.declared.request.Request.TheVariants.{Solve, Reconfigure, Check, Verify, Gen, Session, Core}
use Rattle.ground_form.specs.WellMade.{IsWellMade}
use Rattle.ground_form.specs.declared.ground.Ground.{Ground}
use Rattle.log_check.specs.Verdicts.{ending}
use Rattle.log_form.specs.declared.line.Line.{Line}
use Rattle.model_search.specs.Findings.{finding}
use Rattle.model_search.specs.Rounds.{told_by}
use Rattle.model_search.specs.Runs.{IsRunBy, IsWholeRun}
use Rattle.proof_log.specs.Rounds.{Journal, empty}
use Rattle.proof_log.specs.declared.journal.Round.{Round}
use Rattle.run_finder.specs.SoFar.{AreSoFar}
use Rattle.run_promise.specs.Answer.{searched_status, order_at}
use Rattle.run_promise.specs.Sessions.{session_status}
use Rattle.run_status.specs.declared.status.LimitKind.TheVariants as kind
use Rattle.run_status.specs.declared.status.Status.{Status}
use Rattle.run_status.specs.declared.status.Status.TheVariants as status

-- of a search by this order within this budget; but for a repair it had no values to go by
pub record HasRecordedRun (repaired : Bool) (order : Order) (budget : ℕ) (s : Status)
    (journal : Journal) : Type 0 where
  pub ground : Ground
  pub kept : journal.ground ≡ Some ground
  pub well_made : IsWellMade ground
  pub values : List (Option ℤ)
  pub none : repaired ≡ false → values ≡ replicate ground.search None
  pub whole : IsWholeRun ground order values budget journal.lines
  pub status_is : s ≡ searched_status budget (finding ground (ending ground journal.lines))

-- the lines of a search by this order as far as it came: there are none, or they are a run
abbrev pub AreLinesBy : Bool → Order → List Line → Type 0
AreLinesBy repaired order ls =
    (ls ≡ [])
    ⊎ ((g : Ground) × (values : List (Option ℤ)) × IsWellMade g
    × (repaired ≡ false → values ≡ replicate g.search None) × IsRunBy g order values ls)

-- of a check, the problem alone
pub record HasChecked (journal : Journal) : Type 0 where
  pub ground : Ground
  pub kept : journal.ground ≡ Some ground
  pub well_made : IsWellMade ground
  pub alone : journal.lines ≡ []

-- of a round, a problem and a run over it within this budget, by whatever order
pub record IsRoundOf (budget : ℕ) (round : Round) : Type 0 where
  pub well_made : IsWellMade round.ground
  pub whole : IsWholeRun round.ground orders.Own [] budget round.lines

-- of a session, a round for each event that was answered
pub record HasHeld (budget : ℕ) (s : Status) (journal : Journal) : Type 0 where
  pub rounds : All (IsRoundOf budget) journal.rounds
  pub status_is : s ≡ session_status budget (map told_by journal.rounds)

-- of what to blame, a round for each search; what the first shows makes the status
pub record HasBlamed (budget : ℕ) (s : Status) (journal : Journal) : Type 0 where
  pub rounds : All (IsRoundOf budget) journal.rounds
  pub first : Round
  pub rest : List Round
  pub rounds_are : journal.rounds ≡ first ∷ rest
  pub status_is : s ≡ searched_status budget (told_by first)

-- the rounds of a session, or of what to blame, are runs within the budget, however it ended
abbrev pub AreRoundsFor : Request → List Round → Type 0
AreRoundsFor (Session model former events budget order) rounds = All (IsRoundOf budget) rounds
AreRoundsFor (Core model budget order) rounds = All (IsRoundOf budget) rounds
AreRoundsFor r rounds = Unit {0}

-- the lines of the present round however a request ends: they are a run, or there are none
abbrev pub AreLinesFor : List Order → Request → List Line → Type 0
AreLinesFor os (Solve model budget log order) ls = AreLinesBy false (order_at os order) ls
AreLinesFor os (Reconfigure model former failed budget log order) ls =
    AreLinesBy true (order_at os order) ls
AreLinesFor os (Gen n) ls = AreLinesBy false (order_at os names.First) ls
AreLinesFor os r ls = AreSoFar ls

-- where the log of a check is refused, the problem that it was checked against
abbrev pub KeepsProblem : Request → Status → Journal → Type 0
KeepsProblem (Check model log former failed) (status.Rejected line) journal = HasChecked journal
KeepsProblem (Check model log former failed) (status.Limit kind.Log None) journal =
    HasChecked journal
KeepsProblem r s journal = Unit {0}

abbrev pub IsRecorded : List Order → Request → Status → Journal → Type 0
IsRecorded os (Solve model budget log order) s journal =
    HasRecordedRun false (order_at os order) budget s journal
IsRecorded os (Reconfigure model former failed budget log order) s journal =
    HasRecordedRun true (order_at os order) budget s journal
IsRecorded os (Gen n) s journal =
    HasRecordedRun false (order_at os names.First) generated_budget s journal
IsRecorded os (Check model log former failed) s journal = HasChecked journal
IsRecorded os (Verify model config) s journal = journal ≡ empty
IsRecorded os (Session model former events budget order) s journal = HasHeld budget s journal
IsRecorded os (Core model budget order) s journal = HasBlamed budget s journal
