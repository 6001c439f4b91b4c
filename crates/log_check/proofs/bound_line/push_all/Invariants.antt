use Rattle.std.proofs.Common.{◌≡◌, ◌++◌, drop}
use Rattle.log_form.specs.Acceptance.{has_empty}
use Rattle.log_check.proofs.bound_line.push_all.Given as goal

abbrev pub invariant-loop-k : goal.invariant-loop-k
invariant-loop-k l = record {
  closed : l.derived.closed ≡ has_empty l.derived.clauses;
  clauses : l.derived.clauses ++ drop l.k l.list ≡ l.initial.derived.clauses ++ l.list;
}
