-- What the steps of a search come to.
use Rattle.std.proofs.Common.{◌≡◌, ℕ, ◌+◌, ◌≤◌, true, List, [], ◌∷◌, ◌++◌, length, sym, ap, ◌∙◌, arith, subst, All}
use Rattle.signed_clause.specs.Clauses.{Boxes, Literals, IsClause, IsWithinBoxes, AreValid}
use Rattle.ground_form.specs.declared.ground.Ground.{Ground}
use Rattle.fd_store.specs.Levels.{Stack, reacted}
use Rattle.learn_clauses.specs.Learnt.{IsWithinDomains}
use Rattle.learn_clauses.proofs.WithinLaws.{valid_boxes, vars_within}
use Rattle.log_form.specs.declared.line.Line.{Line}
use Rattle.log_form.specs.declared.line.Line.TheVariants.{Axiom, Chain, Bound, Use, Found, Decide, Empty}
use Rattle.log_form.specs.Acceptance.{clause_at, has_empty, made}
use Rattle.run_law.specs.Replay.{Mode, Closed, acts, mode_by, state_of}
use Rattle.run_law.specs.Decisions.{decisions}
use Rattle.run_law.proofs.RunLaws.{run_closed, state_is}
use Rattle.run_law.proofs.Waiting.{run_sound}
use Rattle.bound_search.specs.declared.after.After.{After}
use Rattle.bound_search.specs.declared.after.After.TheVariants as after
use Rattle.bound_search.specs.declared.engine.Engine.{Engine}
use Rattle.bound_search.specs.Modes.{mode_of}
use Rattle.bound_search.specs.Awaited.{Awaited, ground_boxes}
use Rattle.bound_search.specs.Boards.{AreLower}
use Rattle.bound_search.specs.Standing.{IsRun, HoldsIn, IsAt}
use Rattle.bound_search.specs.Engines.{added_of, Shows, Reached, IsApplied, IsTurn}
use Rattle.bound_search.proofs.MoreLines.{run_of, boxes_at}
use Rattle.bound_search.proofs.Fewer.{fewer_values, reacted_lower, below_same}

-- ---- clauses and boxes of the engine

pub valid_at : (g : Ground) (ls : List Line) (clauses : List Literals) (levels : Stack)
    (added : Awaited) (mode : Mode) → IsAt g ls clauses levels added mode →
    AreValid levels.top.now
valid_at g ls clauses levels added mode at =
    valid_boxes levels.top.now (boxes_at g ls clauses levels added mode at).sets

-- each clause that was made is a clause, and its variables have boxes
pub record IsKnownClause (g : Ground) (boxes : Boxes) (c : Literals) : Type 0 where
  pub form : IsClause c
  pub within : IsWithinDomains g.domains c
  pub vars : IsWithinBoxes c boxes

pub known_clause : (g : Ground) (ls : List Line) (clauses : List Literals) (levels : Stack)
    (added : Awaited) (mode : Mode) (i : ℕ) → IsAt g ls clauses levels added mode →
    IsKnownClause g levels.top.now (clause_at clauses i)
known_clause g ls clauses levels added mode i at =
    let r = run_of g ls at.lines in
    let form : IsClause (clause_at clauses i) =
    subst (λ (cs : List Literals). IsClause (clause_at cs i)) at.clauses_are
    ((run_sound g ls r.well_made r.sets r.run).forms i) in
    let within : IsWithinDomains g.domains (clause_at clauses i) =
    subst (λ (cs : List Literals). IsWithinDomains g.domains (clause_at cs i)) at.clauses_are
    ((state_is g ls r).within i) in
    let size = (boxes_at g ls clauses levels added mode at).size in
    record {
      form = form;
      within = within;
      vars = vars_within g.domains (clause_at clauses i) 0 (length levels.top.now) form
          (omega (arith, size)) within;
    }

-- ---- what a clause does

closed_made : (g : Ground) (ls : List Line) → IsRun g ls → (state_of g ls).mode ≡ Closed →
    has_empty (made g ls).clauses ≡ true
closed_made g ls r e = (run_closed g ls (run_of g ls r)).0 e

shows_by : (g : Ground) (ls : List Line) (e : Engine) (old : Stack) (n : ℕ) (c : Literals)
    (mode : Mode) (a : After) →
    IsAt g ls e.clauses (reacted n c old) (added_of e) mode →
    IsApplied g e old n c a → AreLower g old.top.now old.below → IsClause c →
    AreValid old.top.now → All (λ c. HoldsIn (ground_boxes e.board.store) c) e.sure.items →
    length g.domains ≤ length e.running → Shows g ls e mode
shows_by g ls e old n c mode a at p lower f valid sure table = record {
  at = subst (λ (s : Stack). IsAt g ls e.clauses s (added_of e) mode) (sym p.store) at;
  sure = sure;
  board = p.board;
  lower = reacted_lower g n c old e.board.store f valid p.store lower;
  table = table;
}

pub by_after : (g : Ground) (ls : List Line) (e : Engine) (mode : Mode) (a : After) →
    mode_of a ≡ mode → IsRun g ls → (state_of g ls).mode ≡ mode → Shows g ls e mode →
    Reached g ls e a
by_after g ls e mode after.Going h r k s = subst (Shows g ls e) (sym h) s
by_after g ls e mode (after.Conflict n) h r k s = subst (Shows g ls e) (sym h) s
by_after g ls e mode after.Closed h r k s = closed_made g ls r (k ∙ sym h)

pub reached_by : (g : Ground) (ls : List Line) (e : Engine) (old : Stack) (n : ℕ) (c : Literals)
    (a : After) →
    IsAt g ls e.clauses (reacted n c old) (added_of e) (mode_by old.top.now n c) →
    IsApplied g e old n c a → AreLower g old.top.now old.below → IsClause c →
    AreValid old.top.now → All (λ c. HoldsIn (ground_boxes e.board.store) c) e.sure.items →
    length g.domains ≤ length e.running → Reached g ls e a
reached_by g ls e old n c a at p lower f valid sure table =
    by_after g ls e (mode_by old.top.now n c) a p.mode at.lines at.mode_is
    (shows_by g ls e old n c (mode_by old.top.now n c) a at p lower f valid sure table)

pub turn_by : (g : Ground) (d e : Engine) (n : ℕ) (c : Literals) (a : After) →
    IsApplied g e d.board.store n c a → IsClause c → AreValid d.board.store.top.now →
    acts d.board.store.top.now c ≡ true → IsTurn d e a
turn_by g d e n c a p f valid h = record {
  below = ap length (below_same n c d.board.store e.board.store p.store);
  fewer = λ k. fewer_values n c d.board.store e.board.store f valid h p.store
      (sym p.mode ∙ ap mode_of k);
}

-- ---- decisions

pub decisions-behind : (ls : List Line) (l : Line) →
    decisions (ls ++ l ∷ []) ≡ decisions ls + decisions (l ∷ [])
decisions-behind [] l = omega arith
decisions-behind (Axiom k c ∷ ls) l = decisions-behind ls l
decisions-behind (Chain chain c ∷ ls) l = decisions-behind ls l
decisions-behind (Bound v ∷ ls) l = decisions-behind ls l
decisions-behind (Use i ∷ ls) l = decisions-behind ls l
decisions-behind (Found a ∷ ls) l = decisions-behind ls l
decisions-behind (Decide x half ∷ ls) l = let more = decisions-behind ls l in omega (arith, more)
decisions-behind (Empty x ∷ ls) l = decisions-behind ls l

pub alike : (old new : List Line) (l : Line) → new ≡ old ++ l ∷ [] → decisions (l ∷ []) ≡ 0 →
    decisions new ≡ decisions old
alike old new l e h =
    let more = decisions-behind old l in
    let same = ap decisions e in
    omega (arith, more, same, h)
