use Rattle.std.proofs.Common.{◌≡◌, true, List, ℤ}
use Rattle.ground_form.specs.Meaning.{parts_true}
use Rattle.stated_facts.specs.Claims.{Hold}
use Rattle.stated_facts.proofs.claims.claim_parts.Given as goal

abbrev pub invariant-loop-part : goal.invariant-loop-part
invariant-loop-part l = (a : List ℤ) → parts_true l.parts a ≡ true → Hold l.fn.c a → Hold l.c a
