-- Where the places of what is read come from: each reader says what is behind, and that the places
-- are those of the tokens.
use Rattle.std.specs.Prelude.{◌≡◌, ◌+◌, ℕ, List, [], ◌∷◌, Option, None, Some, length, drop}
use Rattle.conf_syntax.specs.declared.token.Ident.{Ident}
use Rattle.conf_syntax.specs.declared.token.Placed.{Placed}
use Rattle.conf_syntax.specs.declared.tree.Expr.{Expr}
use Rattle.conf_syntax.specs.declared.tree.QuantKind.{QuantKind}
use Rattle.conf_syntax.specs.Places.{first_at, at_index, size, Stands}
use Rattle.conf_syntax.specs.Trees.{body_end}
use Rattle.conf_parse.specs.declared.quantifier.Opening.{Opening}

-- an expression, and what is behind it
pub record Reads (tokens : List Placed) (e : Expr) (rest : List Placed) : Type 0 where
  pub rest_is : rest ≡ drop (size e.node) tokens
  pub stands : Stands tokens e.at e.node

-- a quantifier's keyword, variable, `in` and path
pub record HeadReads (tokens : List Placed) (var : Ident) (over : Expr) (rest : List Placed) : Type 0 where
  pub var_at : var.at ≡ at_index 1 tokens
  pub stands : Stands (drop 3 tokens) over.at over.node
  pub rest_is : rest ≡ drop (size over.node) (drop 3 tokens)

abbrev pub filter_size : Option Expr → ℕ
filter_size None = 0
filter_size (Some f) = 1 + size f.node

abbrev pub FilterReads : List Placed → Option Expr → Type 0
FilterReads tokens None = Unit {0}
FilterReads tokens (Some f) = Stands (drop 1 tokens) f.at f.node

-- a quantifier up to its first body
pub record OpeningReads (tokens : List Placed) (o : Opening) (inside : List Placed) : Type 0 where
  pub var_at : o.var.at ≡ at_index 1 tokens
  pub stands : Stands (drop 3 tokens) o.over.at o.over.node
  pub filter : FilterReads (drop (size o.over.node) (drop 3 tokens)) o.filter
  pub inside_is : inside ≡ drop (filter_size o.filter + 1) (drop (size o.over.node) (drop 3 tokens))

-- bodies, in order
abbrev pub list_size : QuantKind → List Expr → ℕ
list_size k [] = 0
list_size k (x ∷ xs) = size x.node + length (body_end k) + list_size k xs

abbrev pub ListStands : List Placed → QuantKind → List Expr → Type 0
ListStands tokens k [] = Unit {0}
ListStands tokens k (x ∷ xs) =
    Stands tokens x.at x.node × ListStands (drop (size x.node + length (body_end k)) tokens) k xs

-- an operand under its sign
pub record SignReads (place : ℕ) (inner e : Expr) : Type 0 where
  pub at_is : e.at ≡ place
  pub size_is : size e.node ≡ 1 + size inner.node
  pub stands : (tokens : List Placed) → place ≡ first_at tokens → Stands (drop 1 tokens) inner.at
      inner.node → Stands tokens place e.node

-- a quantifier of its parts
pub record QuantReads (place : ℕ) (o : Opening) (body : List Expr) (e : Expr) : Type 0 where
  pub at_is : e.at ≡ place
  pub size_is : size e.node ≡ 3 + size o.over.node + filter_size o.filter + 1 + list_size o.kind
      body + 1
  pub stands : (tokens inside : List Placed) → place ≡ first_at tokens
      → OpeningReads tokens o inside → ListStands inside o.kind body → Stands tokens place e.node

-- a body with its semicolon
pub record ItemReads (tokens : List Placed) (e : Expr) (rest : List Placed) : Type 0 where
  pub rest_is : rest ≡ drop (size e.node + 1) tokens
  pub stands : Stands tokens e.at e.node
