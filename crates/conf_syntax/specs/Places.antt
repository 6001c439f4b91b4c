-- That each place in a tree is that of its token: an expression's the place of its first token, and
-- a pair's that of its operator. The tokens begin with those of the tree.
use Rattle.std.specs.Prelude.{◌≡◌, ◌+◌, ℕ, List, [], ◌∷◌, map, length, drop}
use Rattle.conf_syntax.specs.declared.token.Placed.{Placed}
use Rattle.conf_syntax.specs.declared.token.Token.{Token}
use Rattle.conf_syntax.specs.declared.tree.Node as node
use Rattle.conf_syntax.specs.declared.tree.Quant as quant
use Rattle.conf_syntax.specs.declared.tree.QuantKind.{QuantKind}
use Rattle.conf_syntax.specs.Trees.{tokens_of, body_end, filter_tokens}

-- the tokens without their places
abbrev pub bare : List Placed → List Token
bare tokens = map (λ (x : Placed). x.token) tokens

-- the place of the first token, or another one where there is none
abbrev pub place_of : List Placed → ℕ → ℕ
place_of [] end = end
place_of (x ∷ xs) end = x.at

abbrev pub first_at : List Placed → ℕ
first_at tokens = place_of tokens 0

-- the place of the token behind n others
abbrev pub at_index : ℕ → List Placed → ℕ
at_index n tokens = first_at (drop n tokens)

-- how many tokens an expression has
abbrev pub size : node.Node → ℕ
size e = length (tokens_of e)

abbrev mutual
  pub Stands : List Placed → ℕ → node.Node → Type 0
  Stands tokens at (node.Paren' p inner e) = (at ≡ first_at tokens) × Stands (drop 1 tokens) inner e
  Stands tokens at (node.Dot' p inner e i) = (at ≡ first_at tokens) × Stands tokens inner e
      × (i.at ≡ at_index (size e + 1) tokens)
  Stands tokens at (node.Minus' p inner e) = (at ≡ first_at tokens) × Stands (drop 1 tokens) inner e
  Stands tokens at (node.Not' p inner e) = (at ≡ first_at tokens) × Stands (drop 1 tokens) inner e
  Stands tokens at (node.Pair' o p left l q right r) = (at ≡ at_index (size l) tokens)
      × Stands tokens left l × Stands (drop (size l + 1) tokens) right r
  Stands tokens at (node.Quant' p q) = (at ≡ first_at tokens) × QuantStands tokens q
  Stands tokens at other = at ≡ first_at tokens

  -- the keyword, the variable, `in`, the path, the filter, a brace, the bodies
  pub QuantStands : List Placed → quant.Quant → Type 0
  QuantStands tokens (quant.Quant' k var at over filter shape body) =
      (var.at ≡ at_index 1 tokens) × Stands (drop 3 tokens) at over
      × FilterStands (drop (size over) (drop 3 tokens)) filter
      × BodyStands (drop (length (filter_tokens filter) + 1) (drop (size over) (drop 3 tokens))) k
      body

  pub FilterStands : List Placed → quant.Held-Quant-filter → Type 0
  FilterStands tokens quant.None' = Unit {0}
  FilterStands tokens (quant.Some' at e) = Stands (drop 1 tokens) at e

  pub BodyStands : {m : _} → List Placed → QuantKind → quant.Row_of-Expr m → Type 0
  BodyStands tokens k quant.end_of-Expr = Unit {0}
  BodyStands tokens k (quant.more_of-Expr at e rest) = Stands tokens at e
      × BodyStands (drop (size e + length (body_end k)) tokens) k rest
