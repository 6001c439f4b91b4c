-- What each step of a search keeps true. What a reader believes after this file: the engine shows
-- where the lines of the journal have led, and how far each step is from the end of its loop.
use Rattle.std.specs.Prelude.{◌≡◌, ℕ, ◌+◌, ◌*◌, ◌-◌, ◌<◌, ◌≤◌, true, List, [], ◌∷◌, ◌++◌, Option, Some, None, length}
use Rattle.std.specs.List.{All}
use Rattle.signed_clause.specs.Ranges.{count_of}
use Rattle.signed_clause.specs.Clauses.{Boxes, Literals, IsClause, IsWithinBoxes}
use Rattle.ground_form.specs.declared.ground.Ground.{Ground}
use Rattle.branch_choice.specs.declared.split.Order.{Order}
use Rattle.branch_choice.specs.declared.split.Split.{Split}
use Rattle.branch_choice.specs.Picks.{Hints, IsPick}
use Rattle.fd_store.specs.Levels.{Stack, reacted}
use Rattle.fd_store.specs.Undo.{dropped}
use Rattle.log_form.specs.declared.line.Line.{Line}
use Rattle.log_form.specs.Acceptance.{has_empty, made}
use Rattle.proof_log.specs.Rounds.{Journal}
use Rattle.run_law.specs.Replay.{Mode, Going, Conflict, mode_by, mode_by_bounds, is_run}
use Rattle.run_law.specs.Ordered.{IsOrdered}
use Rattle.run_law.specs.Decisions.{decisions}
use Rattle.bound_search.specs.declared.after.After.{After}
use Rattle.bound_search.specs.declared.after.After.TheVariants as after
use Rattle.bound_search.specs.declared.engine.Engine.{Engine}
use Rattle.bound_search.specs.declared.settling.Step.{Step}
use Rattle.bound_search.specs.declared.settling.Step.TheVariants as step
use Rattle.bound_search.specs.BoundLists.{numbered_from}
use Rattle.bound_search.specs.Awaited.{Awaited, awaited, keeping, is_sure, ground_boxes}
use Rattle.bound_search.specs.Modes.{mode_of, rank}
use Rattle.bound_search.specs.Boards.{IsBoard, AreLower}
use Rattle.bound_search.specs.Standing.{HoldsIn, IsFixed, IsAt}

-- the clauses that it waits for
abbrev pub added_of : Engine → Awaited
added_of e = awaited e.board.watches.added e.asked.items e.sure.items

-- the engine stands where the lines have led
pub record Shows (g : Ground) (ls : List Line) (e : Engine) (mode : Mode) : Type 0 where
  pub at : IsAt g ls e.clauses e.board.store (added_of e) mode
  pub sure : All (λ c. HoldsIn (ground_boxes e.board.store) c) e.sure.items
  pub board : IsBoard g e.board.store e.board.queue e.board.watches
  pub lower : AreLower g e.board.store.top.now e.board.store.below
  pub table : length g.domains ≤ length e.running

-- and so it does in the mode that an answer stands for; where that is closed, the empty clause was
-- made, and nothing more is said
abbrev pub Reached : Ground → List Line → Engine → After → Type 0
Reached g ls e after.Going = Shows g ls e Going
Reached g ls e (after.Conflict n) = Shows g ls e (Conflict n)
Reached g ls e after.Closed = has_empty (made g ls).clauses ≡ true

-- ---- what a step does to the engine

-- what the board tells of a clause of number n that was applied to the levels before
pub record IsApplied (g : Ground) (e : Engine) (old : Stack) (n : ℕ) (c : Literals) (a : After) :
    Type 0 where
  pub mode : mode_of a ≡ mode_by old.top.now n c
  pub store : e.board.store ≡ reacted n c old
  pub board : IsBoard g e.board.store e.board.queue e.board.watches

-- the engine keeps its clauses and its table but for what a step does to them
pub record IsEngineWith (d e : Engine) (clauses : List Literals) (added : Awaited) : Type 0 where
  pub clauses_are : e.clauses ≡ clauses
  pub added_are : added_of e ≡ added
  pub table : length e.running ≡ length d.running

-- the level that a learnt clause drops stands, and in the boxes below it its variables have boxes
pub record MayBackjump (g : Ground) (levels : Stack) (c : Literals) (level : ℕ) : Type 0 where
  pub exists : level ≤ length levels.below
  pub some : 0 < level
  pub vars : IsWithinBoxes c levels.top.now
  pub form : IsClause c

-- the search has backjumped for the learnt clause to the level below
pub record IsBackjumped (g : Ground) (d e : Engine) (c : Literals) (level : ℕ) (a : After) : Type 0
  where
    pub applied : IsApplied g e (dropped (level - 1) d.board.store) (length d.clauses) c a
    pub engine : IsEngineWith d e (d.clauses ++ c ∷ [])
        (keeping (is_sure e.board.store c) (length d.clauses) c (added_of d))

-- ---- what a step does to the journal

-- the lines are a run, also after want of memory; they decide by the order if they did; and nothing
-- else of the journal has changed
pub record IsKeptBy (g : Ground) (order : Order) (hints : Hints) (old new : Journal) : Type 0 where
  pub run : is_run g new.lines ≡ true
  pub ordered : IsOrdered g order hints old.lines → IsOrdered g order hints new.lines
  pub problem : new.ground ≡ old.ground
  pub rounds : new.rounds ≡ old.rounds

-- so it is whatever the order
abbrev pub IsKept : Ground → Journal → Journal → Type 0
IsKept g old new = (order : Order) (hints : Hints) → IsKeptBy g order hints old new

-- ---- measures

-- how many values all boxes have together
abbrev pub total : Boxes → ℕ
total [] = 0
total (b ∷ boxes) = count_of b + total boxes

-- a step within a level: where the search goes on, values were taken away
pub record IsTurn (old new : Engine) (a : After) : Type 0 where
  pub below : length new.board.store.below ≡ length old.board.store.below
  pub fewer : a ≡ after.Going → total new.board.store.top.now < total old.board.store.top.now

-- no line between decides
abbrev pub DecideAlike : List Line → List Line → Type 0
DecideAlike old new = decisions new ≡ decisions old

-- a learnt clause dropped a level, or closed the search
pub record IsFall (old new : Engine) (a : After) : Type 0 where
  pub shorter : 3 * length new.board.store.below + rank a < 3 * length old.board.store.below + 1
  pub fewer_levels : length new.board.store.below ≤ length old.board.store.below

-- ---- loops

-- one line more, or a fixpoint
abbrev pub TurnOf : Ground → List Line → Engine → Option After → Type 0
TurnOf g ls e None =
    Shows g ls e Going × IsFixed g e.board.store.top.now (added_of e)
TurnOf g ls e (Some a) = Reached g ls e a

-- at a fixpoint, where the search goes on
abbrev pub FixedIf : Ground → Engine → After → Type 0
FixedIf g e a = a ≡ after.Going → IsFixed g e.board.store.top.now (added_of e)

-- ---- bounds

-- the clauses of a Bound line got numbers and are asked for, and nothing else of the engine has
-- changed
pub record IsBounded (old new : Engine) (cs : List Literals) (a : After) : Type 0 where
  pub clauses_are : new.clauses ≡ old.clauses ++ cs
  pub asked_are : new.asked.items ≡ numbered_from (length old.clauses) cs
  pub watched_are : new.board.watches.added ≡ old.board.watches.added
  pub sure_are : new.sure.items ≡ old.sure.items
  pub store : new.board.store ≡ old.board.store
  pub table : length new.running ≡ length old.running
  pub board : (g : Ground) → IsBoard g old.board.store old.board.queue old.board.watches
      → IsBoard g new.board.store new.board.queue new.board.watches
  pub mode : mode_of a ≡ mode_by_bounds old.board.store.top.now (length old.clauses) cs

-- ---- decisions that are due

-- nothing is left to say, and the chooser's order picks the split
pub record IsDue (g : Ground) (ls : List Line) (order : Order) (hints : Hints) (e : Engine)
    (s : Split) : Type 0 where
  pub at : Shows g ls e Going
  pub fixed : IsFixed g e.board.store.top.now (added_of e)
  pub picked : IsPick order e.board.store.top.now hints g.search (Some s)

-- a decision is due, or something else has come
abbrev pub StepOf : Ground → List Line → Order → Hints → Engine → Step → Type 0
StepOf g ls order hints e (step.Split s) = IsDue g ls order hints e s
StepOf g ls order hints e (step.Then a) = Reached g ls e a × (rank a ≤ 1)

-- a decision is due, or the search is closed
abbrev pub SettledOf : Ground → List Line → Order → Hints → Engine → Option Split → Type 0
SettledOf g ls order hints e None = has_empty (made g ls).clauses ≡ true
SettledOf g ls order hints e (Some s) = IsDue g ls order hints e s
