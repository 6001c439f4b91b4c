use Rattle.std.proofs.Common.{drop}
use Rattle.form_build.specs.Sums.{AreTerms}
use Rattle.stated_facts.proofs.equals.are_terms.Given as goal

abbrev pub invariant-loop-t : goal.invariant-loop-t
invariant-loop-t l = AreTerms l.boxes l.next (drop l.t-index l.terms) → AreTerms l.boxes 0 l.terms
