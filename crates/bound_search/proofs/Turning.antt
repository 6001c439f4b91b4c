-- What is known of an engine whose board was asked.
use Rattle.std.proofs.Common.{◌≡◌, ℕ, ◌<◌, true, false, List, [], ◌∷◌, length, refl, sym, ap, ◌∙◌, arith, subst, slice_index_or, All}
use Rattle.signed_clause.specs.Clauses.{Boxes, Literals, IsWithinBoxes}
use Rattle.ground_form.specs.declared.ground.Ground.{Ground}
use Rattle.fd_store.specs.Levels.{Stack}
use Rattle.clause_watches.specs.Watching.{IsActing, clause_of}
use Rattle.log_form.specs.declared.line.Line.{Line}
use Rattle.log_form.specs.Acceptance.{clause_at}
use Rattle.run_law.specs.Replay.{Mode, acts}
use Rattle.bound_search.specs.declared.engine.Engine.{Engine}
use Rattle.bound_search.specs.Awaited.{Awaited, awaited, ground_boxes}
use Rattle.bound_search.specs.Boards.{IsBoard, AreLower}
use Rattle.bound_search.specs.Standing.{IsNumbered, HoldsIn, IsFixed, IsAt}
use Rattle.bound_search.specs.Engines.{added_of, Shows}
use Rattle.prop_queue.specs.Work.{AreAllQuiet}
use Rattle.bound_search.proofs.MoreLines.{IsUsed, boxes_at}
use Rattle.bound_search.proofs.Sure.{sure_idle}
use Rattle.bound_search.proofs.Steps.{known_clause}

-- the same engine but for what its queue and its watches know
pub record IsAsked (g : Ground) (d e : Engine) : Type 0 where
  pub store : e.board.store ≡ d.board.store
  pub added : e.board.watches.added ≡ d.board.watches.added
  pub asked : e.asked.items ≡ d.asked.items
  pub sure : e.sure.items ≡ d.sure.items
  pub clauses : e.clauses ≡ d.clauses
  pub table : length e.running ≡ length d.running
  pub board : IsBoard g e.board.store e.board.queue e.board.watches

pub awaited_same : (a b : List (ℕ × Literals)) (p q : List (ℕ × Literals)) (cs ds : List Literals) →
    a ≡ b → p ≡ q → cs ≡ ds → awaited a p cs ≡ awaited b q ds
awaited_same a b p q cs ds e f h = ap (λ (x : List (ℕ × Literals)). awaited x p cs) e
    ∙ ap (λ (x : List (ℕ × Literals)). awaited b x cs) f
    ∙ ap (λ (x : List Literals). awaited b q x) h

pub shows_asked : (g : Ground) (ls : List Line) (d e : Engine) (mode : Mode) → Shows g ls d mode →
    IsAsked g d e → Shows g ls e mode
shows_asked g ls d e mode s h =
    let one : IsAt g ls e.clauses d.board.store (added_of d) mode =
    subst (λ (cs : List Literals). IsAt g ls cs d.board.store (added_of d) mode)
    (sym h.clauses) s.at in
    let two : IsAt g ls e.clauses e.board.store (added_of d) mode =
    subst (λ (k : Stack). IsAt g ls e.clauses k (added_of d) mode) (sym h.store) one in
    let table = s.table in
    let same = h.table in
    let waits : added_of e ≡ added_of d =
    awaited_same e.board.watches.added d.board.watches.added e.asked.items d.asked.items
    e.sure.items d.sure.items h.added h.asked h.sure in
    let sure : All (λ c. HoldsIn (ground_boxes e.board.store) c) d.sure.items =
    subst (λ (k : Stack). All (λ c. HoldsIn (ground_boxes k) c) d.sure.items) (sym h.store) s.sure in
    record {
      at = subst (λ (w : Awaited). IsAt g ls e.clauses e.board.store w mode) (sym waits) two;
      sure = subst (λ (cs : List Literals).
          All (λ c. HoldsIn (ground_boxes e.board.store) c) cs) (sym h.sure) sure;
      board = h.board;
      lower = subst (λ (k : Stack). AreLower g k.top.now k.below) (sym h.store) s.lower;
      table = omega (arith, table, same);
    }

-- a watched clause that acts is one that was made
pub acting_used : (g : Ground) (ls : List Line) (e : Engine) (mode : Mode) (boxes : Boxes) (n : ℕ) →
    Shows g ls e mode → boxes ≡ e.board.store.top.now → IsActing boxes e.board.watches n →
    IsUsed e.clauses e.board.store n (clause_at e.clauses n)
acting_used g ls e mode boxes n s same a =
    let added = e.board.watches.added in
    let p = slice_index_or added a.index (0, []) in
    let it : IsNumbered e.clauses p = s.at.watched.numbered a.index (0, []) a.there in
    let exists = it.exists in
    let number = a.numbered in
    let is : clause_at e.clauses n ≡ p.1 =
    ap (λ (k : ℕ). clause_at e.clauses k) (sym a.numbered) ∙ it.is in
    let acting : acts e.board.store.top.now p.1 ≡ true =
    subst (λ (b : Boxes). acts b p.1 ≡ true) same a.acting in
    record {
      exists = omega (arith, exists, number);
      is = refl;
      acting = subst (λ (c : Literals). acts e.board.store.top.now c ≡ true) (sym is) acting;
    }

-- ---- clauses of the last Bound line

-- their variables have boxes
pub asked_there : (g : Ground) (ls : List Line) (e : Engine) (mode : Mode) (boxes : Boxes) →
    Shows g ls e mode → boxes ≡ e.board.store.top.now →
    All (λ p. IsWithinBoxes p.1 boxes) e.asked.items
asked_there g ls e mode boxes s same = λ k d lt.
    let p = slice_index_or e.asked.items k d in
    let it : IsNumbered e.clauses p = s.at.watched.asked k d lt in
    let known = known_clause g ls e.clauses e.board.store (added_of e) mode p.0 s.at in
    let here : IsWithinBoxes p.1 e.board.store.top.now =
    subst (λ (c : Literals). IsWithinBoxes c e.board.store.top.now) it.is known.vars in
    subst (λ (b : Boxes). IsWithinBoxes p.1 b) (sym same) here

-- the number of the k-th
abbrev pub number_of : List (ℕ × Literals) → ℕ → ℕ
number_of asked k = (slice_index_or asked k (0, [])).0

-- one that acts is one that was made
pub asked_used : (g : Ground) (ls : List Line) (e : Engine) (mode : Mode) (boxes : Boxes) (k : ℕ) →
    Shows g ls e mode → boxes ≡ e.board.store.top.now → k < length e.asked.items →
    acts boxes (clause_of e.asked.items k) ≡ true →
    IsUsed e.clauses e.board.store (number_of e.asked.items k)
    (clause_at e.clauses (number_of e.asked.items k))
asked_used g ls e mode boxes k s same lt acting =
    let p = slice_index_or e.asked.items k (0, []) in
    let it : IsNumbered e.clauses p = s.at.watched.asked k (0, []) lt in
    let here : acts e.board.store.top.now p.1 ≡ true =
    subst (λ (b : Boxes). acts b p.1 ≡ true) same acting in
    record {
      exists = it.exists;
      is = refl;
      acting = subst (λ (c : Literals). acts e.board.store.top.now c ≡ true) (sym it.is) here;
    }

-- ---- fixpoints

-- where neither a watched clause nor one of the last Bound line acts, none does
pub all_idle : (g : Ground) (ls : List Line) (e : Engine) (mode : Mode) → Shows g ls e mode →
    AreAllQuiet g e.board.store.top.now →
    ((i : ℕ) → i < length e.board.watches.added →
    acts e.board.store.top.now (clause_of e.board.watches.added i) ≡ false) →
    ((i : ℕ) → i < length e.asked.items →
    acts e.board.store.top.now (clause_of e.asked.items i) ≡ false) →
    IsFixed g e.board.store.top.now (added_of e)
all_idle g ls e mode s quiet watched asked = record {
  is_quiet = quiet;
  watched = watched;
  asked = asked;
  sure = sure_idle g g.domains e.board.store e.sure.items
      (boxes_at g ls e.clauses e.board.store (added_of e) mode s.at) s.lower s.sure;
}
