-- Watches with boxes. What a reader believes after this file: when the two belong together.
use Rattle.std.specs.Prelude.{◌≡◌, length}
use Rattle.signed_clause.specs.Clauses.{Boxes}
use Rattle.clause_watches.specs.Watching.{Watching, Fits}

-- there is a box for each variable, each clause has a rest, and what the watches know of each
-- clause is true in the boxes
pub record IsFitting (boxes : Boxes) (w : Watching) : Type 0 where
  pub size : length boxes ≡ w.variables
  pub count : length w.added ≡ length w.rests
  pub fits : Fits boxes w
