-- Where a search stands. What a reader believes after this file: the lines of its journal are a
-- run, the clauses, the levels and the mode that it keeps are what the run leaves, and each clause
-- that a run has to wait for is watched under its number.
use Rattle.std.specs.Prelude.{◌≡◌, ◌⊎◌, ℕ, ◌<◌, true, false, List, [], ◌∷◌, Some, length, slice_get}
use Rattle.std.specs.List.{All, Contains}
use Rattle.signed_clause.specs.Ranges.{Ranges, is_nil, IsValid}
use Rattle.signed_clause.specs.Clauses.{Boxes, Literals, box_of, IsClause, IsWithinBoxes}
use Rattle.ground_form.specs.declared.ground.Ground.{Ground}
use Rattle.ground_form.specs.declared.con.Con.{Con}
use Rattle.ground_form.specs.WellMade.{IsWellMade}
use Rattle.rule_law.specs.Answers.{IsPruning}
use Rattle.rule_law.specs.CutTo.{AreSetsWithin}
use Rattle.prop_queue.specs.Work.{AreAllQuiet}
use Rattle.clause_watches.specs.Watching.{acts, clause_of}
use Rattle.fd_store.specs.Levels.{Stack}
use Rattle.log_form.specs.declared.line.Line.{Line}
use Rattle.log_form.specs.Acceptance.{clause_at, made}
use Rattle.run_law.specs.Replay.{State, Mode, is_split, is_run, state_of}
use Rattle.run_law.specs.Lines.{HasSets}
use Rattle.bound_search.specs.Awaited.{Awaited, holds_in}

-- the lines are a run over a well made problem without empty domains, and their parts are sets
pub record IsRun (g : Ground) (ls : List Line) : Type 0 where
  pub well_made : IsWellMade g
  pub some : All (λ s. is_nil s ≡ false) g.domains
  pub sets : All (λ l. HasSets l) ls
  pub run : is_run g ls ≡ true

-- ---- what is watched

-- the clauses, without their numbers
abbrev pub clauses_of : List (ℕ × Literals) → List Literals
clauses_of [] = []
clauses_of (p ∷ ps) = p.1 ∷ clauses_of ps

-- of those that were made, the clause has this number
pub record IsNumbered (clauses : List Literals) (p : ℕ × Literals) : Type 0 where
  pub exists : p.0 < length clauses
  pub is : clause_at clauses p.0 ≡ p.1

-- each of the clauses is among those added
abbrev pub AreAdded : List (ℕ × Literals) → List Literals → Type 0
AreAdded added cs = All (λ c. Contains (clauses_of added) c) cs

-- what was added has the right numbers; the clauses of chains are watched or true at level 0, and
-- those of the last Bound line are asked for
pub record AreWatched (clauses : List Literals) (s : State) (added : Awaited) : Type 0 where
  pub numbered : All (λ p. IsNumbered clauses p) added.watched
  pub asked : All (λ p. IsNumbered clauses p) added.asked
  pub learnt : All (λ c. Contains (clauses_of added.watched) c ⊎ Contains added.sure c) s.learnt
  pub bounds : AreAdded added.asked s.bounds

-- the clause is true whatever values its variables take of their boxes
pub record HoldsIn (boxes : Boxes) (c : Literals) : Type 0 where
  pub form : IsClause c
  pub vars : IsWithinBoxes c boxes
  pub holds : holds_in boxes c ≡ true

-- ---- where the lines have led

-- the lines are a run that made these clauses and leaves these levels in this mode
pub record IsAt (g : Ground) (ls : List Line) (clauses : List Literals) (levels : Stack)
    (added : Awaited) (mode : Mode) : Type 0 where
  pub lines : IsRun g ls
  pub clauses_are : (made g ls).clauses ≡ clauses
  pub levels_are : (state_of g ls).levels ≡ levels
  pub mode_is : (state_of g ls).mode ≡ mode
  pub watched : AreWatched clauses (state_of g ls) added

-- ---- fixpoints

-- no constraint, no learnt clause and none of the last Bound line has anything to say in the boxes
pub record IsFixed (g : Ground) (boxes : Boxes) (added : Awaited) : Type 0 where
  pub is_quiet : AreAllQuiet g boxes
  pub watched : (i : ℕ) → i < length added.watched → acts boxes (clause_of added.watched i) ≡ false
  pub asked : (i : ℕ) → i < length added.asked → acts boxes (clause_of added.asked i) ≡ false
  pub sure : All (λ c. acts boxes c ≡ false) added.sure

-- a constraint of this number justifies the clause, which names values of the domains alone and is
-- false in the boxes or unit
pub record IsReason (g : Ground) (boxes : Boxes) (k : ℕ) (c : Literals) : Type 0 where
  pub con : Con
  pub there : slice_get g.cons k ≡ Some con
  pub exists : k < length g.cons
  pub prunes : IsPruning con g.domains boxes c
  pub within : AreSetsWithin g.domains c

-- a searched variable gets a set for its box that leaves some of the values and takes others away
pub record IsDecision (g : Ground) (boxes : Boxes) (x : ℕ) (half : Ranges) : Type 0 where
  pub searched : x < g.search
  pub valid : IsValid half
  pub splits : is_split half (box_of boxes x) ≡ true
