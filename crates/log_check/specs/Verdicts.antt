-- What a verdict is.
use Rattle.std.specs.Prelude.{Bool, List, ℤ, Option}
use Rattle.ground_form.specs.declared.ground.Ground.{Ground}
use Rattle.log_form.specs.declared.line.Line.{Line}
use Rattle.log_form.specs.Acceptance.{has_empty, made}

-- whether lines made the empty clause, and the values that they found last
pub record Ending : Type 0 where
  pub closed : Bool
  pub found : Option (List ℤ)

-- the lines end so
abbrev pub ending : Ground → List Line → Ending
ending g ls = record { closed = has_empty (made g ls).clauses; found = (made g ls).found }
