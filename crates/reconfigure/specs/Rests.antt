-- What is left of boxes. What a reader believes after this file: each set that is kept has the values
-- of its box that aren't among the forbidden ones.
use Rattle.std.specs.Prelude.{◌≡◌, ◌&&◌, List, ℤ, not}
use Rattle.std.specs.List.{All}
use Rattle.signed_clause.specs.Ranges.{Ranges, has}
use Rattle.reconfigure.specs.declared.allowed.ExtentRest.{ExtentRest}

abbrev pub AreRests : Ranges → List ExtentRest → Type 0
AreRests values rs = All (λ (r : ExtentRest). (v : ℤ) → has r.rest v ≡ (has r.whole v && not (has values v))) rs
