-- The model that a text is. What a reader believes after this file: which trees are those of a text.
use Rattle.std.specs.Prelude.{List, ℕ}
use Rattle.conf_syntax.specs.Models.{IsProgramOf}
use Rattle.conf_syntax.specs.Spelling.{Spells}
use Rattle.conf_syntax.specs.declared.token.Placed.{Placed}
use Rattle.conf_syntax.specs.declared.tree.Program.{Program}

-- the text is that of the model: it spells the tokens of its tree, which the grammar has, which
-- doesn't nest too deeply and whose places are those of the tokens
abbrev pub IsModelOf : List ℕ → Program → Type 0
IsModelOf text p = (tokens : List Placed) × Spells text tokens × IsProgramOf tokens p

-- P holds of the text's model
abbrev pub HasModel : List ℕ → (Program → Type 0) → Type 0
HasModel text P = (p : Program) × IsModelOf text p × P p
