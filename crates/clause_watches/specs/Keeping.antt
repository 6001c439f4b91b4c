-- What the list of rests keeps beside it. What a reader believes after this file: a clause that is
-- still to be looked at waits in the list.
use Rattle.std.specs.Prelude.{◌≡◌, ℕ, ◌<◌, ◌≤◌, Bool, true, List, length}
use Rattle.clause_watches.specs.declared.rest.Rest.{Rest}
use Rattle.clause_watches.specs.Watching.{rest_of, is_listed}
use Rattle.clause_watches.specs.Marks.{is_marked}

-- there is a mark for each clause in the list, and those that are to be found there are
pub record IsCovered (rests : List Rest) (listed : List Bool) : Type 0 where
  pub room : length rests ≤ length listed
  pub waits : (i : ℕ) → i < length rests → is_listed (rest_of rests i) ≡ true →
      is_marked listed i ≡ true
