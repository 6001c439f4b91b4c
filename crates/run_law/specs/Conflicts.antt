-- What a conflict is, and from which level a clause leads back. What a reader believes after this
-- file: where a run has to explain a clause, that clause was made and is false; and the clause that
-- explains it has at most one level to drop.
use Rattle.std.specs.Prelude.{◌≡◌, ℕ, ◌<◌, ◌≤◌, ◌-◌, true, false, List, length}
use Rattle.signed_clause.specs.Clauses.{Boxes, Literals, false_in}
use Rattle.fd_store.specs.Levels.{Stack}
use Rattle.fd_store.specs.Undo.{dropped}
use Rattle.log_form.specs.Acceptance.{clause_at}

-- clause n was made, and it is false in the boxes
pub record IsConflict (clauses : List Literals) (boxes : Boxes) (n : ℕ) : Type 0 where
  pub exists : n < length clauses
  pub is_false : false_in boxes (clause_at clauses n) ≡ true

-- level k stands above level 0, and the clause is false in its first boxes and not in the present
-- boxes of the level below
pub record LeadsFrom (c : Literals) (s : Stack) (k : ℕ) : Type 0 where
  pub above : 0 < k
  pub exists : k ≤ length s.below
  pub is_false : false_in (dropped k s).top.first c ≡ true
  pub not_below : false_in (dropped (k - 1) s).top.now c ≡ false
