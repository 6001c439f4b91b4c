-- What the checker keeps is what the lines so far leave.
use Rattle.std.specs.Prelude.{◌≡◌, length}
use Rattle.ground_form.specs.declared.ground.Ground.{Ground}
use Rattle.log_form.specs.Acceptance.{Made, has_empty}
use Rattle.log_check.specs.Soundness.{IsSound}
use Rattle.log_check.specs.Chains.{AreBelow}
use Rattle.log_check.specs.declared.progress.Progress.{Progress}

abbrev pub made_of : Progress → Made
made_of p = record { clauses = p.derived.clauses; found = p.found }

-- it is right: its flag tells whether the empty clause was made, its clauses are sound and have
-- variables of the problem alone, and its table has all of these
pub record IsRight (g : Ground) (p : Progress) : Type 0 where
  pub closed : p.derived.closed ≡ has_empty p.derived.clauses
  pub sound : IsSound g (made_of p)
  pub below : AreBelow (length g.domains) p.derived.clauses
  pub table : length p.running ≡ length g.domains
