-- What the steps of an answer hand on. What a reader believes after this file: nothing that `run`
-- says.
use Rattle.std.specs.Prelude.{◌≡◌, Bool, true, false, List, Option, None, Some, ℕ}
use Rattle.ground_form.specs.declared.ground.Ground.{Ground}
use Rattle.ground_form.specs.WellMade.{IsWellMade}
use Rattle.log_form.specs.Acceptance.{accepted}
use Rattle.proof_log.specs.Rounds.{Journal}
use Rattle.run_promise.specs.Delivery.{log_text}

-- the journal holds a problem and accepted lines
pub record HoldsLog (journal : Journal) : Type 0 where
  pub ground : Ground
  pub kept : journal.ground ≡ Some ground
  pub well_made : IsWellMade ground
  pub taken : accepted ground journal.lines ≡ true

-- the text of the journal's log, where one is wanted
abbrev pub IsToldLog : Bool → Journal → Option (List ℕ) → Type 0
IsToldLog false journal log = log ≡ None
IsToldLog true journal None = ⊥
IsToldLog true journal (Some text) =
    (g : Ground) × (journal.ground ≡ Some g) × (text ≡ log_text g journal)
