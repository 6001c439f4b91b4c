-- The step that writes a solution and asks for a better one.
use Rattle.std.proofs.Common.{◌≡◌, ℕ, ◌<◌, ◌≤◌, true, List, [], ◌∷◌, ◌++◌, ℤ, length, refl, sym, ap, ◌∙◌, arith, subst, All}
use Rattle.signed_clause.specs.Clauses.{Literals, IsWithinBoxes}
use Rattle.ground_form.specs.declared.ground.Ground.{Ground}
use Rattle.ground_form.specs.Bounds.{singles}
use Rattle.ground_form.specs.Solutions.{IsSolution}
use Rattle.ground_form.specs.WellMade.{IsWellMade}
use Rattle.fd_store.specs.Levels.{Stack}
use Rattle.log_form.specs.declared.line.Line.{Line}
use Rattle.log_form.specs.declared.line.Line.TheVariants.{Bound, Found}
use Rattle.log_form.specs.Acceptance.{bounds_of}
use Rattle.proof_log.specs.Rounds.{Journal}
use Rattle.run_law.specs.Replay.{Going, mode_by_bounds, is_run}
use Rattle.run_law.specs.Decisions.{decisions}
use Rattle.run_law.specs.Ordered.{IsOrdered}
use Rattle.bound_search.specs.declared.after.After.{After}
use Rattle.bound_search.specs.declared.after.After.TheVariants as after
use Rattle.bound_search.specs.declared.engine.Engine.{Engine}
use Rattle.bound_search.specs.BoundLists.{numbered_from, values_of}
use Rattle.bound_search.specs.Modes.{mode_of, rank}
use Rattle.bound_search.specs.Awaited.{Awaited, asking, ground_boxes}
use Rattle.bound_search.specs.Boards.{AreLower}
use Rattle.bound_search.specs.Standing.{IsRun, HoldsIn, IsFixed, IsAt}
use Rattle.bound_search.specs.Engines.{added_of, Shows, Reached, IsKept, IsBounded}
use Rattle.bound_search.proofs.BoundLaws.{states_values, found_run, bound_at, bound_stops, bounds_there}
use Rattle.bound_search.proofs.Steps.{valid_at, known_clause, by_after, alike}
use Rattle.bound_search.proofs.Turning.{awaited_same}
use Rattle.bound_search.proofs.UseAxiom.{IsWritten, kept_by, kept_both}

-- the goals have values
pub goals_there : (g : Ground) (a : List ℤ) → IsWellMade g → IsSolution g a →
    All (λ goal. goal.var < length a) g.goals
goals_there g a w s = λ k d lt.
    let there = w.goals k d lt in
    let size = s.point.size in
    omega (arith, there, size)

-- boxes at a fixpoint that are these values, a solution
pub record IsFoundHere (g : Ground) (e : Engine) (a : List ℤ) : Type 0 where
  pub fixed : IsFixed g e.board.store.top.now (added_of e)
  pub single : e.board.store.top.now ≡ singles a
  pub solves : IsSolution g a

-- the two lines were written
pub record AreWritten (g : Ground) (old mid new : Journal) (a : List ℤ) : Type 0 where
  pub found : IsWritten old mid (Found a)
  pub bound : IsWritten mid new (Bound (values_of a g.goals))

found_runs : (g : Ground) (old : Journal) (d : Engine) (a : List ℤ) → Shows g old.lines d Going →
    IsFoundHere g d a → IsRun g (old.lines ++ Found a ∷ [])
found_runs g old d a s f =
    found_run g old.lines d.clauses d.board.store (added_of d) a s.at f.fixed f.single
    f.solves

both_at : (g : Ground) (old : Journal) (d : Engine) (a : List ℤ) → Shows g old.lines d Going →
    IsFoundHere g d a →
    IsAt g ((old.lines ++ Found a ∷ []) ++ Bound (values_of a g.goals) ∷ [])
    (d.clauses ++ bounds_of g.goals g.domains a) d.board.store
    (asking (length d.clauses) (bounds_of g.goals g.domains a) (added_of d))
    (mode_by_bounds d.board.store.top.now (length d.clauses) (bounds_of g.goals g.domains a))
both_at g old d a s f =
    bound_at g old.lines d.clauses d.board.store (added_of d) a (values_of a g.goals) s.at
    (found_runs g old d a s f) (states_values g.goals a)

pub found_kept : (g : Ground) (old mid : Journal) (d : Engine) (a : List ℤ) →
    Shows g old.lines d Going → IsFoundHere g d a → IsWritten old mid (Found a) → IsKept g old mid
found_kept g old mid d a s f w =
    kept_by g old mid (Found a) w (λ g order hints s. tt) (found_runs g old d a s f)

-- a journal that a failed push left as it was
pub kept_after : (g : Ground) (old mid new : Journal) → IsKept g old mid →
    new.lines ≡ mid.lines → new.ground ≡ mid.ground → new.rounds ≡ mid.rounds → IsKept g old new
kept_after g old mid new h l p q = λ order hints.
    let k = h order hints in
    record {
      run = subst (λ (ls : List Line). is_run g ls ≡ true) (sym l) k.run;
      ordered = λ o. subst (IsOrdered g order hints) (sym l) (k.ordered o);
      problem = p ∙ k.problem;
      rounds = q ∙ k.rounds;
    }

pub both_kept : (g : Ground) (old mid new : Journal) (d : Engine) (a : List ℤ) →
    Shows g old.lines d Going → IsFoundHere g d a → AreWritten g old mid new a → IsKept g old new
both_kept g old mid new d a s f w =
    let line = Bound (values_of a g.goals) in
    let run : IsRun g (mid.lines ++ line ∷ []) =
    subst (λ (ls : List Line). IsRun g (ls ++ line ∷ [])) (sym w.found.lines)
    (both_at g old d a s f).lines in
    kept_both g old mid new (found_kept g old mid d a s f w.found)
    (kept_by g mid new line w.bound (λ g order hints s. tt) run)

pub vars_there : (g : Ground) (old : Journal) (d : Engine) (a : List ℤ) →
    Shows g old.lines d Going → IsFoundHere g d a →
    All (λ c. IsWithinBoxes c d.board.store.top.now) (bounds_of g.goals g.domains a)
vars_there g old d a s f =
    let bs = bounds_of g.goals g.domains a in
    let at = both_at g old d a s f in
    bounds_there d.board.store.top.now d.clauses bs (λ j.
    (known_clause g ((old.lines ++ Found a ∷ []) ++ Bound (values_of a g.goals) ∷ [])
    (d.clauses ++ bs) d.board.store
    (asking (length d.clauses) bs (added_of d))
    (mode_by_bounds d.board.store.top.now (length d.clauses) bs) j at).vars)

ranks : (a : After) → (mode_of a ≡ Going → ⊥) → rank a ≤ 1
ranks after.Going h = absurd (h refl)
ranks (after.Conflict n) h = omega arith
ranks after.Closed h = omega arith

-- what the step comes to
pub record HasRecorded (g : Ground) (old new : Journal) (d e : Engine) (a : After) : Type 0 where
  pub at : Reached g new.lines e a
  pub stops : rank a ≤ 1
  pub below : length e.board.store.below ≡ length d.board.store.below
  pub alike : decisions new.lines ≡ decisions old.lines

pub record_step : (g : Ground) (old mid new : Journal) (d e : Engine) (a : List ℤ) (o : After) →
    Shows g old.lines d Going → IsFoundHere g d a → AreWritten g old mid new a →
    IsBounded d e (bounds_of g.goals g.domains a) o → HasRecorded g old new d e o
record_step g old mid new d e a o s f w b =
    let bs = bounds_of g.goals g.domains a in
    let boxes = d.board.store.top.now in
    let line = Bound (values_of a g.goals) in
    let whole = (old.lines ++ Found a ∷ []) ++ line ∷ [] in
    let mode = mode_by_bounds boxes (length d.clauses) bs in
    let at = both_at g old d a s f in
    let lines : new.lines ≡ whole =
    w.bound.lines ∙ ap (λ (ls : List Line). ls ++ line ∷ []) w.found.lines in
    let one : IsAt g new.lines (d.clauses ++ bs) d.board.store
    (asking (length d.clauses) bs (added_of d)) mode =
    subst (λ (ls : List Line). IsAt g ls (d.clauses ++ bs) d.board.store
    (asking (length d.clauses) bs (added_of d)) mode) (sym lines) at in
    let two : IsAt g new.lines e.clauses d.board.store
    (asking (length d.clauses) bs (added_of d)) mode =
    subst (λ (cs : List Literals). IsAt g new.lines cs d.board.store
    (asking (length d.clauses) bs (added_of d)) mode) (sym b.clauses_are) one in
    let waits : added_of e ≡ asking (length d.clauses) bs (added_of d) =
    awaited_same e.board.watches.added d.board.watches.added e.asked.items
    (numbered_from (length d.clauses) bs) e.sure.items d.sure.items b.watched_are b.asked_are
    b.sure_are in
    let three : IsAt g new.lines e.clauses d.board.store (added_of e) mode =
    subst (λ (ps : Awaited). IsAt g new.lines e.clauses d.board.store ps mode) (sym waits) two in
    let four : IsAt g new.lines e.clauses e.board.store (added_of e) mode =
    subst (λ (k : Stack). IsAt g new.lines e.clauses k (added_of e) mode) (sym b.store) three in
    let table = s.table in
    let same = b.table in
    let still : All (λ c. HoldsIn (ground_boxes e.board.store) c) d.sure.items =
    subst (λ (k : Stack). All (λ c. HoldsIn (ground_boxes k) c) d.sure.items) (sym b.store) s.sure in
    let sure : All (λ c. HoldsIn (ground_boxes e.board.store) c) e.sure.items =
    subst (λ (cs : List Literals). All (λ c. HoldsIn (ground_boxes e.board.store) c) cs)
    (sym b.sure_are) still in
    let shows : Shows g new.lines e mode = record {
      at = four;
      sure = sure;
      board = b.board g s.board;
      lower = subst (λ (k : Stack). AreLower g k.top.now k.below) (sym b.store) s.lower;
      table = omega (arith, table, same);
    } in
    let valid = valid_at g old.lines d.clauses d.board.store (added_of d) Going s.at in
    record {
      at = by_after g new.lines e mode o b.mode four.lines four.mode_is shows;
      stops = ranks o (λ h. bound_stops g (length d.clauses) boxes a s.at.lines.well_made valid
          f.single f.solves (sym b.mode ∙ h));
      below = ap (λ (k : Stack). length k.below) b.store;
      alike = alike mid.lines new.lines line w.bound.lines refl
          ∙ alike old.lines mid.lines (Found a) w.found.lines refl;
    }
