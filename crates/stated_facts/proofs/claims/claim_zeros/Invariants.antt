use Rattle.std.proofs.Common.{List, ℤ}
use Rattle.stated_facts.specs.Claims.{AreZero, Hold}
use Rattle.stated_facts.proofs.claims.claim_zeros.Given as goal

abbrev pub invariant-loop-t : goal.invariant-loop-t
invariant-loop-t l = (a : List ℤ) → AreZero l.terms a → Hold l.fn.c a → Hold l.c a
