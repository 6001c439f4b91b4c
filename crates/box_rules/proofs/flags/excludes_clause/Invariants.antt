use Rattle.std.proofs.Common.{◌≡◌, drop}
use Rattle.signed_clause.specs.Clauses.{false_in}
use Rattle.box_rules.proofs.flags.excludes_clause.Given as goal

abbrev pub invariant-loop-l : goal.invariant-loop-l
invariant-loop-l g l = false_in (g.V.View.boxes l.view) (drop l.l-index l.literals) ≡ false_in (g.V.View.boxes l.view) l.literals
