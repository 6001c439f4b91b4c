-- Where a decision stood. What a reader believes after this file: at a fixpoint no box is empty and
-- no constraint has anything to say; and which modes end what a search does at a level.
use Rattle.std.specs.Prelude.{◌≡◌, ℕ, Bool, true, false, List, Some, slice_get}
use Rattle.signed_clause.specs.Clauses.{Boxes}
use Rattle.ground_form.specs.declared.con.Con.{Con}
use Rattle.box_rules.specs.Quiet.{quiet}
use Rattle.run_law.specs.Replay.{Mode, Going, Conflict, AtFound, Closed, none_empty}

-- no box is empty, and every constraint is quiet
pub record IsFixpoint (cons : List Con) (boxes : Boxes) : Type 0 where
  pub some : none_empty boxes ≡ true
  pub is_quiet : (k : ℕ) (con : Con) → slice_get cons k ≡ Some con → quiet con boxes ≡ true

-- there is a conflict to explain, or the empty clause was made
abbrev pub is_ended : Mode → Bool
is_ended Going = false
is_ended (Conflict n) = true
is_ended AtFound = false
is_ended Closed = true
