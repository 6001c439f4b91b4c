-- The steps that use a clause and that write a constraint's.
use Rattle.std.proofs.Common.{◌≡◌, ℕ, ◌≤◌, true, List, [], ◌∷◌, ◌++◌, length, refl, sym, ap, ◌∙◌, arith, subst, All}
use Rattle.signed_clause.specs.Clauses.{Literals, IsClause, AreValid}
use Rattle.ground_form.specs.declared.ground.Ground.{Ground}
use Rattle.fd_store.specs.Levels.{Stack, reacted}
use Rattle.branch_choice.specs.declared.split.Order.{Order}
use Rattle.branch_choice.specs.Picks.{Hints}
use Rattle.log_form.specs.declared.line.Line.{Line}
use Rattle.log_form.specs.declared.line.Line.TheVariants.{Axiom, Use}
use Rattle.proof_log.specs.Rounds.{Journal}
use Rattle.run_law.specs.Replay.{State, Going, mode_by, is_run, state_of}
use Rattle.run_law.specs.Ordered.{IsLineBy, IsOrdered}
use Rattle.run_law.proofs.Orders.{ordered_more}
use Rattle.run_law.specs.Decisions.{decisions}
use Rattle.bound_search.specs.declared.after.After.{After}
use Rattle.bound_search.specs.declared.engine.Engine.{Engine}
use Rattle.bound_search.specs.Awaited.{Awaited, ground_boxes}
use Rattle.bound_search.specs.Boards.{AreLower}
use Rattle.bound_search.specs.Standing.{IsRun, HoldsIn, IsReason, IsAt}
use Rattle.bound_search.specs.Engines.{added_of, Shows, Reached, IsKeptBy, IsKept, IsApplied, IsEngineWith, IsTurn}
use Rattle.bound_search.proofs.MoreLines.{IsUsed, use_at, axiom_at}
use Rattle.bound_search.proofs.Sure.{sure_reacted}
use Rattle.bound_search.proofs.Steps.{valid_at, known_clause, reached_by, turn_by, alike}

-- the journal got a line, and nothing else of it has changed
pub record IsWritten (old new : Journal) (l : Line) : Type 0 where
  pub lines : new.lines ≡ old.lines ++ l ∷ []
  pub problem : new.ground ≡ old.ground
  pub rounds : new.rounds ≡ old.rounds

-- the line decides nothing
abbrev pub NoDecision : Line → Type 0
NoDecision l = (g : Ground) (order : Order) (hints : Hints) (s : State) → IsLineBy g order hints s l

pub kept_line : (g : Ground) (order : Order) (hints : Hints) (old new : Journal) (l : Line) →
    IsWritten old new l → IsLineBy g order hints (state_of g old.lines) l →
    is_run g (old.lines ++ l ∷ []) ≡ true → IsKeptBy g order hints old new
kept_line g order hints old new l w by r = record {
  run = subst (λ (ls : List Line). is_run g ls ≡ true) (sym w.lines) r;
  ordered = λ h. subst (IsOrdered g order hints) (sym w.lines)
      ((ordered_more g order hints old.lines l).1 (h, by));
  problem = w.problem;
  rounds = w.rounds;
}

pub kept_by : (g : Ground) (old new : Journal) (l : Line) → IsWritten old new l → NoDecision l →
    IsRun g (old.lines ++ l ∷ []) → IsKept g old new
kept_by g old new l w by r = λ order hints.
    kept_line g order hints old new l w (by g order hints (state_of g old.lines)) r.run

pub kept_same : (g : Ground) (old new : Journal) → is_run g old.lines ≡ true →
    new.lines ≡ old.lines → new.ground ≡ old.ground → new.rounds ≡ old.rounds → IsKept g old new
kept_same g old new r l p q = λ order hints. record {
  run = subst (λ (ls : List Line). is_run g ls ≡ true) (sym l) r;
  ordered = subst (IsOrdered g order hints) (sym l);
  problem = p;
  rounds = q;
}

pub kept_both : (g : Ground) (a b c : Journal) → IsKept g a b → IsKept g b c → IsKept g a c
kept_both g a b c h k = λ order hints.
    let one = h order hints in
    let two = k order hints in
    record {
      run = two.run;
      ordered = λ o. two.ordered (one.ordered o);
      problem = two.problem ∙ one.problem;
      rounds = two.rounds ∙ one.rounds;
    }

-- a line was written, and its clause, of number n, was applied to the levels s
pub record IsDone (g : Ground) (old new : Journal) (l : Line) (d e : Engine) (s : Stack) (n : ℕ)
    (c : Literals) (clauses : List Literals) (added : Awaited) (a : After) : Type 0
  where
    pub written : IsWritten old new l
    pub engine : IsEngineWith d e clauses added
    pub applied : IsApplied g e s n c a
    pub lower : AreLower g s.top.now s.below
    pub sure : All (λ c. HoldsIn (ground_boxes e.board.store) c) e.sure.items
    pub form : IsClause c
    pub valid : AreValid s.top.now
    pub table : length g.domains ≤ length d.running

pub line_reached : (g : Ground) (old new : Journal) (l : Line) (d e : Engine) (s : Stack) (n : ℕ)
    (c : Literals) (clauses : List Literals) (added : Awaited) (a : After) →
    IsDone g old new l d e s n c clauses added a →
    IsAt g (old.lines ++ l ∷ []) clauses (reacted n c s) added (mode_by s.top.now n c) →
    Reached g new.lines e a
line_reached g old new l d e s n c clauses added a h at =
    let mode = mode_by s.top.now n c in
    let levels = reacted n c s in
    let one : IsAt g (old.lines ++ l ∷ []) e.clauses levels added mode =
    subst (λ (cs : List Literals). IsAt g (old.lines ++ l ∷ []) cs levels added mode)
    (sym h.engine.clauses_are) at in
    let two : IsAt g (old.lines ++ l ∷ []) e.clauses levels (added_of e) mode =
    subst (λ (ps : Awaited). IsAt g (old.lines ++ l ∷ []) e.clauses levels ps mode)
    (sym h.engine.added_are) one in
    let three : IsAt g new.lines e.clauses levels (added_of e) mode =
    subst (λ (ls : List Line). IsAt g ls e.clauses levels (added_of e) mode)
    (sym h.written.lines) two in
    let old_table = h.table in
    let same = h.engine.table in
    reached_by g new.lines e s n c a three h.applied h.lower h.form h.valid h.sure
    (omega (arith, old_table, same))

-- what is true at level 0 stays so, where the clause was applied at the last level
sure_kept : (d e : Engine) (n : ℕ) (c : Literals) (clauses : List Literals) →
    IsEngineWith d e clauses (added_of d) → IsClause c → AreValid d.board.store.top.now →
    e.board.store ≡ reacted n c d.board.store →
    All (λ c. HoldsIn (ground_boxes d.board.store) c) d.sure.items →
    All (λ c. HoldsIn (ground_boxes e.board.store) c) e.sure.items
sure_kept d e n c clauses k f valid store h =
    let here = sure_reacted n c d.board.store e.board.store d.sure.items f valid store h in
    subst (λ (cs : List Literals). All (λ c. HoldsIn (ground_boxes e.board.store) c) cs)
    (sym (ap (λ (w : Awaited). w.sure) k.added_are)) here

-- what a step within a level comes to
pub record IsStep (g : Ground) (old new : Journal) (d e : Engine) (a : After) : Type 0 where
  pub kept : IsKept g old new
  pub at : Reached g new.lines e a
  pub turn : IsTurn d e a
  pub alike : decisions new.lines ≡ decisions old.lines

pub use_step : (g : Ground) (old new : Journal) (d e : Engine) (n : ℕ) (c : Literals) (a : After) →
    Shows g old.lines d Going → IsUsed d.clauses d.board.store n c → IsWritten old new (Use n) →
    IsEngineWith d e d.clauses (added_of d) → IsApplied g e d.board.store n c a →
    IsStep g old new d e a
use_step g old new d e n c a s u w f p =
    let levels = d.board.store in
    let added = (added_of d) in
    let at = use_at g old.lines d.clauses levels added n c s.at u in
    let form : IsClause c = subst IsClause u.is
    (known_clause g old.lines d.clauses levels added Going n s.at).form in
    let valid = valid_at g old.lines d.clauses levels added Going s.at in
    record {
      kept = kept_by g old new (Use n) w (λ g order hints s. tt) at.lines;
      at = line_reached g old new (Use n) d e levels n c d.clauses added a (record {
        written = w;
        engine = f;
        applied = p;
        lower = s.lower;
        sure = sure_kept d e n c d.clauses f form valid p.store s.sure;
        form = form;
        valid = valid;
        table = s.table;
      }) at;
      turn = turn_by g d e n c a p form valid u.acting;
      alike = alike old.lines new.lines (Use n) w.lines refl;
    }

pub axiom_step : (g : Ground) (old new : Journal) (d e : Engine) (k : ℕ) (c : Literals)
    (a : After) → Shows g old.lines d Going → IsReason g d.board.store.top.now k c →
    IsWritten old new (Axiom k c) →
    IsEngineWith d e (d.clauses ++ c ∷ []) (added_of d) →
    IsApplied g e d.board.store (length d.clauses) c a → IsStep g old new d e a
axiom_step g old new d e k c a s r w f p =
    let levels = d.board.store in
    let added = (added_of d) in
    let n = length d.clauses in
    let at = axiom_at g old.lines d.clauses levels added k c s.at r in
    let form : IsClause c = r.prunes.form in
    let valid = valid_at g old.lines d.clauses levels added Going s.at in
    record {
      kept = kept_by g old new (Axiom k c) w (λ g order hints s. tt) at.lines;
      at = line_reached g old new (Axiom k c) d e levels n c (d.clauses ++ c ∷ []) added a (record {
        written = w;
        engine = f;
        applied = p;
        lower = s.lower;
        sure = sure_kept d e n c (d.clauses ++ c ∷ []) f form valid p.store s.sure;
        form = form;
        valid = valid;
        table = s.table;
      }) at;
      turn = turn_by g d e n c a p form valid r.prunes.acts;
      alike = alike old.lines new.lines (Axiom k c) w.lines refl;
    }

-- the journal alone, where memory is wanting behind the line
pub use_kept : (g : Ground) (old new : Journal) (d : Engine) (n : ℕ) (c : Literals) →
    Shows g old.lines d Going → IsUsed d.clauses d.board.store n c → IsWritten old new (Use n) →
    IsKept g old new
use_kept g old new d n c s u w =
    let at = use_at g old.lines d.clauses d.board.store (added_of d) n c s.at u in
    kept_by g old new (Use n) w (λ g order hints s. tt) at.lines

pub axiom_kept : (g : Ground) (old new : Journal) (d : Engine) (k : ℕ) (c : Literals) →
    Shows g old.lines d Going → IsReason g d.board.store.top.now k c →
    IsWritten old new (Axiom k c) → IsKept g old new
axiom_kept g old new d k c s r w =
    let at = axiom_at g old.lines d.clauses d.board.store (added_of d) k c s.at r in
    kept_by g old new (Axiom k c) w (λ g order hints s. tt) at.lines
