use Rattle.std.proofs.Common.{◌≡◌, length}
use Rattle.signed_clause.specs.Clauses.{AreValid}
use Rattle.fd_store.specs.Undo.{dropped, entries_in}
use Rattle.prop_queue.specs.Work.{IsOver, AreKnown}
use Rattle.clause_watches.specs.Watching.{Fits}
use Rattle.bound_search.proofs.board.Board.undo_to.Given as goal

abbrev pub invariant-loop-self : goal.invariant-loop-self
invariant-loop-self l = record {
  size : length l.self.store.top.now ≡ length l.g.domains;
  valid : AreValid l.self.store.top.now;
  over : IsOver l.g l.self.queue;
  known : AreKnown l.self.store.top.now l.self.queue.clauses;
  variables : l.self.watches.variables ≡ length l.g.domains;
  paired : length l.self.watches.rests ≡ length l.self.watches.added;
  watched : Fits l.self.store.top.now l.self.watches;
  added : l.self.watches.added ≡ l.initial.self.watches.added;
  levels : dropped l.level l.self.store ≡ dropped l.level l.initial.self.store;
}

abbrev pub decreases-loop-self : goal.decreases-loop-self
decreases-loop-self l = entries_in l.self.store
