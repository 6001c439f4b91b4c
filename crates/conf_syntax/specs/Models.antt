-- What it means that a model is that of some tokens: its tokens, its grammar, its nesting and its
-- places.
use Rattle.std.specs.Prelude.{◌≡◌, ◌≤◌, true, List}
use Rattle.model_limits.specs.Limits.{most_nesting}
use Rattle.conf_syntax.specs.declared.token.Placed.{Placed}
use Rattle.conf_syntax.specs.declared.tree.Program.{Program}
use Rattle.conf_syntax.specs.Trees.{program_tokens, program_fits, nesting}
use Rattle.conf_syntax.specs.Places.{bare}
use Rattle.conf_syntax.specs.Standing.{ProgramStands}

-- the places aside
pub record IsTreeOf (tokens : List Placed) (p : Program) : Type 0 where
  pub tokens_are : bare tokens ≡ program_tokens p
  pub fits : program_fits p ≡ true
  pub nested : nesting p ≤ most_nesting

pub record IsProgramOf (tokens : List Placed) (p : Program) : Type 0 where
  pub tree : IsTreeOf tokens p
  pub places : ProgramStands tokens p
