-- What the readers of operands and of bodies answer.
use Rattle.std.specs.Prelude.{◌≡◌, ◌≤◌, ◌+◌, ℕ, List}
use Rattle.conf_syntax.specs.declared.token.Token.{Token}
use Rattle.conf_syntax.specs.Plain.{Tree, Head, First, Then, level, nest}
use Rattle.conf_syntax.specs.Views.{tree_of, filtered}
use Rattle.conf_grammar.specs.Machine.{InFirst, InThen}
use Rattle.conf_grammar.specs.Leads.{Place, Leads, Refuses, WrongAt, DeepAt, need_in, next_at}
use Rattle.conf_parse.specs.declared.quantifier.Opening.{Opening}
use Rattle.conf_parse.specs.declared.operand.Part.{Part}
use Rattle.conf_parse.specs.declared.stop.Stop.{Stop}
use Rattle.conf_parse.specs.declared.stop.Stop.TheVariants.{Syntax, TooDeep, Memory}

-- what an operand holds
pub record IsPart (room : ℕ) (x : Part) : Type 0 where
  pub level_is : x.level ≡ level (tree_of x.tree.node)
  pub nest_is : x.nest ≡ nest (tree_of x.tree.node)
  pub nested : x.nest ≤ room
  pub top : x.level ≤ 11
  pub some : 1 ≤ x.nest

abbrev pub IsError : ℕ → ℕ → Place → List Token → Stop → Type 0
IsError least room s tokens (Syntax left) = Refuses least room s tokens (WrongAt left)
IsError least room s tokens (TooDeep left) = Refuses least room s tokens (DeepAt left)
IsError least room s tokens Memory = Unit {0}

-- the error is the one that the tokens have there
pub record Errs (least room : ℕ) (s : Place) (tokens : List Token) (e : Stop) : Type 0 where
  pub is : IsError least room s tokens e

-- a body with its semicolon
pub record IsItem (room : ℕ) (tokens : List Token) (v : Tree) (rest : List Token) : Type 0 where
  pub opened : (least : ℕ) (h : Tree) → 1 + nest h ≤ room → Leads least room (need_in (InFirst h))
      tokens (next_at (First h v)) rest
  pub again : (least : ℕ) (b : Tree) → 1 + nest b ≤ room → Leads least room (need_in (InThen b))
      tokens (next_at (Then b v)) rest

pub record ItemErrs (room : ℕ) (tokens : List Token) (e : Stop) : Type 0 where
  pub opened : (least : ℕ) (h : Tree) → 1 + nest h ≤ room → Errs least room (need_in (InFirst h))
      tokens e
  pub again : (least : ℕ) (b : Tree) → 1 + nest b ≤ room → Errs least room (need_in (InThen b))
      tokens e

abbrev pub opening_tree : Opening → Tree
opening_tree o = filtered o.filter (Head o.kind o.var.name (tree_of o.over.node))
