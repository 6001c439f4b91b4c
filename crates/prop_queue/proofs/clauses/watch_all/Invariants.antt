use Rattle.std.proofs.Common.{◌≡◌, ◌++◌, ℕ, drop, length}
use Rattle.clause_watches.specs.declared.rest.Rest.TheVariants as rest
use Rattle.clause_watches.specs.Watching.{rest_of}
use Rattle.prop_queue.specs.Work.{clauses_from}
use Rattle.prop_queue.proofs.clauses.watch_all.Given as goal

abbrev pub invariant-loop-k : goal.invariant-loop-k
invariant-loop-k l = record {
  variables : l.clauses.variables ≡ length l.domains;
  added : l.clauses.added ++ clauses_from l.k (drop l.k l.cons) ≡ clauses_from 0 l.cons;
  listed : (i : ℕ) → rest_of l.clauses.rests i ≡ rest.Listed;
}
