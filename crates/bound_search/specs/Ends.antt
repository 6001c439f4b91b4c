-- How a search ends. What a reader believes after this file: what an ended search has shown, or
-- that it stopped for its budget alone.
use Rattle.std.specs.Prelude.{◌≡◌, ℕ, ◌≤◌, true, List}
use Rattle.ground_form.specs.declared.ground.Ground.{Ground}
use Rattle.log_form.specs.declared.line.Line.{Line}
use Rattle.log_form.specs.Acceptance.{has_empty, made}
use Rattle.run_law.specs.Decisions.{decisions, MayDecide}
use Rattle.bound_search.specs.declared.solving.Ended.{Ended}
use Rattle.bound_search.specs.declared.solving.Ended.TheVariants as ended

-- closed: the empty clause was made, by at most so many decisions as were allowed; spent: all were
-- taken, and a further one may stand
abbrev pub EndsOf : Ground → ℕ → List Line → Ended → Type 0
EndsOf g budget ls ended.Closed =
    (has_empty (made g ls).clauses ≡ true) × (decisions ls ≤ budget)
EndsOf g budget ls ended.Spent = (decisions ls ≡ budget) × MayDecide g ls
