use Rattle.test_search_checks.specs.Backwards.{IsBack}
use Rattle.test_search_checks.proofs.came.domains_behind.Given as goal

abbrev pub invariant-loop-left : goal.invariant-loop-left
invariant-loop-left l = IsBack l.clauses l.store l.trail l.left l.boxes.items

abbrev pub decreases-loop-left : goal.decreases-loop-left
decreases-loop-left l = l.left
