-- What answers a session. What a reader believes after this file: each event is answered by a run
-- over the problem of a repair, of what stands as failed behind it and of the values in force; what
-- is printed for it is what a repair prints; and a best configuration's values are in force behind
-- it.
use Rattle.std.specs.Prelude.{◌≡◌, ◌⊎◌, ℕ, Bool, true, false, cond, List, [], ◌∷◌, ◌++◌, ℤ, Option, Some, map}
use Rattle.std.specs.List.{list_any}
use Rattle.answer_text.specs.Texts.{solve_text}
use Rattle.branch_choice.specs.declared.split.Order.TheVariants as orders
use Rattle.class_table.specs.Outline.{Outline}
use Rattle.conf_events.specs.declared.event.Event.{Event}
use Rattle.conf_session.specs.Failed.{failed_behind}
use Rattle.conf_types.specs.Programs.{ResolvedConstraint, ResolvedGoal}
use Rattle.ground_form.specs.WellMade.{IsWellMade}
use Rattle.model_search.specs.Rounds.{journal_of}
use Rattle.model_search.specs.Runs.{HasRun, is_open}
use Rattle.model_search.specs.declared.finding.Finding.{Finding}
use Rattle.model_search.specs.declared.finding.Finding.TheVariants as findings
use Rattle.proof_log.specs.declared.journal.Round.{Round}
use Rattle.reconfigure.specs.declared.repair.Repair.{Repair}
use Rattle.run_status.specs.declared.status.Status.{Status}
use Rattle.run_status.specs.declared.status.Status.TheVariants as status

-- what is asked: the model's objects, constraints and objectives, and how many decisions each
-- search may take
pub record Subject : Type 0 where
  pub outline : Outline
  pub constraints : List ResolvedConstraint
  pub goals : List ResolvedGoal
  pub budget : ℕ

abbrev pub subject : Outline → List ResolvedConstraint → List ResolvedGoal → ℕ → Subject
subject o ks gs budget = record { outline = o; constraints = ks; goals = gs; budget = budget }

-- the values in force, and the words that stand as failed
pub record Situation : Type 0 where
  pub former : List (Option ℤ)
  pub failed : List (List ℕ)

abbrev pub situation : List (Option ℤ) → List (List ℕ) → Situation
situation former failed = record { former = former; failed = failed }

-- ---- one event

-- the values in force behind what is told
abbrev pub former_told : List (Option ℤ) → Finding → List (Option ℤ)
former_told former (findings.Best t) = map Some t
former_told former told = former

abbrev pub situation_behind : Situation → Event → Finding → Situation
situation_behind p e told = situation (former_told p.former told) (failed_behind e p.failed)

-- the round is a run, within the budget, over the problem of a repair of what stands behind the
-- event, by the values in force; it tells this; and the text is what a repair then prints
pub record IsAnswered (s : Subject) (p : Situation) (e : Event) (round : Round) (told : Finding)
    (text : List ℕ) : Type 0 where
  pub repair : Repair
  pub former : repair.former ≡ p.former
  pub failed : repair.failed.items ≡ failed_behind e p.failed
  pub ground : IsWellMade round.ground
  pub run : HasRun s.outline s.constraints s.goals (Some repair) orders.Own s.budget
      (journal_of round) told
  pub text_is : text ≡ solve_text s.outline s.goals (Some repair) s.budget told

-- ---- all events

-- each event is answered, in order, and the text is that of the answers
abbrev pub AreAnswered : Subject → Situation → List Event → List Finding → List Round → List ℕ
    → Type 0
AreAnswered s p [] [] [] text = text ≡ []
AreAnswered s p (e ∷ es) (told ∷ ts) (round ∷ rounds) text =
    (first : List ℕ) × (rest : List ℕ) × (text ≡ first ++ rest)
    × IsAnswered s p e round told first
    × AreAnswered s (situation_behind p e told) es ts rounds rest
AreAnswered s p es ts rounds text = ⊥

-- the situation behind them
abbrev pub situation_after : Situation → List Event → List Finding → Situation
situation_after p [] ts = p
situation_after p (e ∷ es) [] = p
situation_after p (e ∷ es) (told ∷ ts) = situation_after (situation_behind p e told) es ts

-- ---- how a session ends

abbrev pub is_none_told : Finding → Bool
is_none_told findings.NoneExists = true
is_none_told told = false

-- undecided where some event was; else none exists where for some event none did
abbrev pub session_status : ℕ → List Finding → Status
session_status budget ts =
    cond (list_any is_open ts) (status.Undecided budget)
    (cond (list_any is_none_told ts) status.NoneExists status.Done)

-- behind these rounds no further event is answered; or the next one is, by a further round
abbrev pub IsNextAnswered : Subject → Situation → List Event → List Round → List Round → List ℕ
    → Type 0
IsNextAnswered s p left before now text =
    ((now ≡ before) × (text ≡ []))
    ⊎ ((e : Event) × (later : List Event) × (round : Round) × (told : Finding)
    × (left ≡ e ∷ later) × (now ≡ before ++ round ∷ []) × IsAnswered s p e round told text)

-- the first of these events are answered: what is told of each, and the text of their answers; and
-- perhaps one more, with this text
pub record AreBegun (s : Subject) (p : Situation) (events : List Event) (rounds : List Round)
    (whole text : List ℕ) : Type 0 where
  pub done : List Event
  pub left : List Event
  pub events_are : events ≡ done ++ left
  pub told : List Finding
  pub before : List Round
  pub answered : AreAnswered s p done told before whole
  pub next : IsNextAnswered s (situation_after p done told) left before rounds text

-- all of them are
pub record AreHeld (s : Subject) (p : Situation) (events : List Event) (rounds : List Round)
    (end : Status) (text : List ℕ) : Type 0 where
  pub told : List Finding
  pub answered : AreAnswered s p events told rounds text
  pub status_is : end ≡ session_status s.budget told
