use Rattle.std.proofs.Common.{◌≡◌, List, ℤ}
use Rattle.ground_form.specs.Meaning.{value_of}
use Rattle.form_build.specs.Worlds.{IsWorld, AllHold}
use Rattle.stated_facts.specs.Claims.{Hold}
use Rattle.stated_facts.proofs.claims.claims_of.Given as goal

abbrev pub invariant-loop-i : goal.invariant-loop-i
invariant-loop-i l = (a : List ℤ) → IsWorld l.maker a → AllHold l.maker a → value_of a l.x ≡ l.value → Hold l.c a
