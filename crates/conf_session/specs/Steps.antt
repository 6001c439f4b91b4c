-- One step of a session. What a reader believes after this file: what the journal holds of the
-- round that answers an event, and what the session has come to behind it.
use Rattle.std.specs.Prelude.{◌≡◌, ◌≤◌, ◌&&◌, ◌+◌, ◌-◌, ℕ, Bool, true, false, List, [], ◌∷◌, ◌++◌, ℤ, pos, Option, None, Some, length}
use Rattle.class_table.specs.Outline.{Outline}
use Rattle.conf_events.specs.declared.event.Event.{Event}
use Rattle.ground_cells.specs.CellBoxes.{cell_boxes}
use Rattle.ground_form.specs.StandsFor.{StandsFor}
use Rattle.ground_form.specs.WellMade.{IsWellMade}
use Rattle.ground_form.specs.declared.ground.Ground.{Ground}
use Rattle.kept_clauses.specs.Kept.{kept}
use Rattle.log_check.specs.Verdicts.{Ending}
use Rattle.log_form.specs.declared.line.Line.{Line}
use Rattle.object_alloc.specs.Changes.{allowed, changes}
use Rattle.proof_log.specs.Rounds.{Journal}
use Rattle.proof_log.specs.declared.journal.Round.{Round}
use Rattle.reconfigure.specs.Failing.{objects_named}
use Rattle.reconfigure.specs.Repairing.{Extends}
use Rattle.run_finder.specs.Searched.{HasSearched}
use Rattle.command_limits.specs.Limits.{most_kept}
use Rattle.conf_session.specs.Keeping.{keeping}
use Rattle.conf_session.specs.Standing.{Standing, IsOver, former_behind}
use Rattle.conf_session.specs.Failed.{failed_behind}
use Rattle.conf_session.specs.declared.step.Step.{Step}

-- whatever the one problem stands for, the other stands for too, with that nothing that failed is
-- referred to, and with the number of changes as its first goal
abbrev pub RepairsFor : Outline → List (Option ℤ) → List (List ℕ) → Ground → Ground → Type 0
RepairsFor o former failed old new =
    (test : List ℤ → Bool) → (functions : List (Bool × (List ℤ → ℤ)))
    → StandsFor old (cell_boxes o) test functions
    → StandsFor new (cell_boxes o) (λ t. test t && allowed o (objects_named o failed) t)
    ((false, λ t. pos (changes o former t)) ∷ functions)

-- whatever the one problem stands for, the other stands for too
abbrev pub StandsStill : Outline → Ground → Ground → Type 0
StandsStill o old new =
    (test : List ℤ → Bool) → (functions : List (Bool × (List ℤ → ℤ)))
    → StandsFor old (cell_boxes o) test functions → StandsFor new (cell_boxes o) test functions

-- the problem behind a round over g: the clauses that rest on the problem before it alone are kept,
-- in all at most so many since it had so many constraints
abbrev pub ground_behind : ℕ → Ground → Ground → List Line → Ground
ground_behind begun old g ls =
    keeping (begun + most_kept - length old.cons) old
    (kept g (length old.domains) (length old.cons) ls)

-- behind the event the journal has one round more, over the problem of a repair of what stood, by a
-- search with this verdict; and this is what the session has come to
pub record IsStep (o : Outline) (e : Event) (budget : ℕ) (old new : Standing)
    (before after : Journal) (step : Step) : Type 0 where
  pub round : Round
  pub recorded : after ≡ record { ground = None; lines = []; rounds = before.rounds ++ round ∷ [] }
  pub extends : Extends old.ground round.ground
  pub repairs : RepairsFor o old.former new.failed old.ground round.ground
  pub searched : HasSearched round.ground budget round.lines step.verdict
  pub repaired_former : step.repair.former ≡ old.former
  pub repaired_failed : step.repair.failed.items ≡ new.failed
  pub failed : new.failed ≡ failed_behind e old.failed
  pub former : new.former ≡ former_behind old.ground.search old.former step.verdict
  pub ground : new.ground ≡ ground_behind old.begun old.ground round.ground round.lines
  pub begun : new.begun ≡ old.begun
  pub still : StandsStill o old.ground new.ground
  pub over : IsOver o new

-- the session wasn't void, and isn't
abbrev pub Steps : Outline → Event → ℕ → Option Standing → Option Standing → Journal → Journal
    → Step → Type 0
Steps o e budget None new before after step = ⊥
Steps o e budget (Some old) None before after step = ⊥
Steps o e budget (Some old) (Some new) before after step =
    IsStep o e budget old new before after step

-- ---- parts of a step

-- the problem behind a round over g
pub record IsGroundBehind (begun : ℕ) (old g : Ground) (ls : List Line)
    (new : Ground) : Type 0 where
  pub is : new ≡ ground_behind begun old g ls
  pub well_made : IsWellMade new
  pub grown : length old.cons ≤ length new.cons
  pub few : length new.cons ≤ begun + most_kept
  pub still : (o : Outline) → (former : List (Option ℤ)) → (failed : List (List ℕ))
      → RepairsFor o former failed old g → StandsStill o old new

-- the present round holds the problem of a repair of what stands, and a run over it
pub record IsSearched (o : Outline) (s : Standing) (budget : ℕ) (journal : Journal)
    (verdict : Ending) : Type 0 where
  pub ground : Ground
  pub kept : journal.ground ≡ Some ground
  pub well_made : IsWellMade ground
  pub extends : Extends s.ground ground
  pub repairs : RepairsFor o s.former s.failed s.ground ground
  pub searched : HasSearched ground budget journal.lines verdict

-- what the session has come to behind a round
pub record IsBehind (old : Standing) (g : Ground) (ls : List Line) (verdict : Ending)
    (new : Standing) : Type 0 where
  pub failed : new.failed ≡ old.failed
  pub former : new.former ≡ former_behind old.ground.search old.former verdict
  pub ground : new.ground ≡ ground_behind old.begun old.ground g ls
  pub begun : new.begun ≡ old.begun
  pub still : (o : Outline) → (former : List (Option ℤ)) → (failed : List (List ℕ))
      → RepairsFor o former failed old.ground g → StandsStill o old.ground new.ground

-- the present round was closed, and this is what the session has come to behind it
pub record IsClosed (old : Standing) (before after : Journal) (verdict : Ending)
    (new : Standing) : Type 0 where
  pub round : Round
  pub ground_is : before.ground ≡ Some round.ground
  pub lines_are : round.lines ≡ before.lines
  pub recorded : after ≡ record { ground = None; lines = []; rounds = before.rounds ++ round ∷ [] }
  pub behind : IsBehind old round.ground round.lines verdict new
