-- How a session is held, event by event. What a reader believes after this file: nothing that the
-- session's answer says; this is what its steps hand on.
use Rattle.std.specs.Prelude.{◌≡◌, ◌⊎◌, ℕ, Bool, true, List, [], ◌∷◌, ◌++◌, ℤ, Option, None, Some, map, take}
use Rattle.std.specs.List.{list_any}
use Rattle.class_table.specs.Outline.{Outline}
use Rattle.conf_events.specs.declared.event.Event.{Event}
use Rattle.conf_session.specs.Standing.{Standing, IsOver}
use Rattle.conf_session.specs.Failed.{failed_behind}
use Rattle.conf_session.specs.declared.step.Step.{Step}
use Rattle.desk_io.specs.Desk.{with_printed}
use Rattle.desk_io.specs.Whole.{PrintsFront}
use Rattle.model_search.specs.Findings.{finding}
use Rattle.model_search.specs.Problems.{IsProblemOf}
use Rattle.model_search.specs.Runs.{is_open}
use Rattle.model_search.specs.Wanted.{IsUnderstood}
use Rattle.model_search.specs.declared.finding.Finding.{Finding}
use Rattle.model_search.specs.declared.finding.Finding.TheVariants as findings
use Rattle.object_alloc.specs.Hints.{AreHints}
use Rattle.proof_log.specs.Rounds.{Journal}
use Rattle.proof_log.specs.declared.journal.Round.{Round}
use Rattle.run_finder.specs.Searched.{HasSearched}
use Rattle.run_promise.specs.Sessions.{Subject, Situation, situation, situation_behind, situation_after, is_none_told, IsAnswered, AreAnswered}

-- the session stands at this situation, over the problem of the model
pub record IsAt (s : Subject) (p : Situation) (st : Standing) : Type 0 where
  pub over : IsOver s.outline st
  pub problem : IsProblemOf s.outline s.constraints s.goals None st.ground
  pub hints : AreHints s.outline st.former
  pub former : st.former ≡ p.former
  pub failed : st.failed ≡ p.failed

-- a session that isn't void does
abbrev pub StandsAt : Subject → Situation → Option Standing → Type 0
StandsAt s p None = ⊥
StandsAt s p (Some st) = IsAt s p st

-- the values of a best configuration are hints
abbrev pub IsHinted : Outline → Finding → Type 0
IsHinted o told = (t : List ℤ) → told ≡ findings.Best t → AreHints o (map Some t)

-- the situation where a session stands
abbrev pub situation_of : Option Standing → Situation
situation_of None = situation [] []
situation_of (Some st) = situation st.former st.failed

-- nothing stands in the present round
pub record IsBetween (journal : Journal) : Type 0 where
  pub ground : journal.ground ≡ None
  pub lines : journal.lines ≡ []

-- behind a step the journal has one round more, by a search with this verdict over the problem of
-- the repair that the event asks for, and the session stands behind what the verdict tells
pub record HasStepped (s : Subject) (p : Situation) (e : Event) (rounds now : List Round)
    (st : Option Standing) (step : Step) : Type 0 where
  pub round : Round
  pub more : now ≡ rounds ++ round ∷ []
  pub former : step.repair.former ≡ p.former
  pub failed : step.repair.failed.items ≡ failed_behind e p.failed
  pub problem : IsProblemOf s.outline s.constraints s.goals (Some step.repair) round.ground
  pub understood : IsUnderstood s.outline step.repair
  pub searched : HasSearched round.ground s.budget round.lines step.verdict
  pub stands : (told : Finding) → told ≡ finding round.ground step.verdict
      → IsHinted s.outline told → StandsAt s (situation_behind p e told) st

-- the journal has one round more, which answers an event
pub record HasRound (s : Subject) (p : Situation) (e : Event) (rounds now : List Round)
    (told : Finding) (text : List ℕ) : Type 0 where
  pub round : Round
  pub answered : IsAnswered s p e round told text
  pub more : now ≡ rounds ++ round ∷ []

-- the journal has one round more, which answers an event, and the text of the answer was printed
pub record IsTold (s : Subject) (p : Situation) (e : Event) (rounds now : List Round)
    (told : Finding)
    (printed printed_now : Option (List ℕ)) : Type 0 where
  pub text : List ℕ
  pub more : HasRound s p e rounds now told text
  pub printed_is : printed_now ≡ with_printed text printed

-- nothing was done, or an event was answered
abbrev pub IsTried : Subject → Situation → Event → List Round → List Round → Type 0
IsTried s p e rounds now =
    (now ≡ rounds) ⊎ ((told : Finding) × (text : List ℕ) × HasRound s p e rounds now told text)

-- nothing was done, or an event was answered and its text printed in part or not at all
abbrev pub IsCut : Subject → Situation → Event → List Round → List Round → Option (List ℕ)
    → Option (List ℕ) → Type 0
IsCut s p e rounds now printed printed_now =
    ((now ≡ rounds) × (printed_now ≡ printed))
    ⊎ ((told : Finding) × (text : List ℕ) × HasRound s p e rounds now told text
    × PrintsFront text printed printed_now)

-- the first k events are answered, and this is where the session stands
pub record IsUpTo (s : Subject) (p : Situation) (events : List Event) (k : ℕ) (rounds : List Round)
    (printed now : Option (List ℕ)) (st : Option Standing) (undecided lacking : Bool) : Type 0 where
  pub told : List Finding
  pub text : List ℕ
  pub answered : AreAnswered s p (take k events) told rounds text
  pub printed_is : now ≡ with_printed text printed
  pub at : StandsAt s (situation_after p (take k events) told) st
  pub open_is : undecided ≡ list_any is_open told
  pub none_is : lacking ≡ list_any is_none_told told
