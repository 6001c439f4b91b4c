-- What the parser's errors mean.
use Rattle.std.specs.Prelude.{◌≡◌, ℕ, List, ◌++◌}
use Rattle.model_limits.specs.Limits.{most_nesting}
use Rattle.conf_syntax.specs.declared.token.Placed.{Placed}
use Rattle.conf_syntax.specs.Places.{bare, place_of}
use Rattle.conf_parse.specs.Begun.{IsBegunIn, IsRefused, IsTooDeep}
use Rattle.conf_parse.specs.declared.parser.ParseError.{ParseError}
use Rattle.conf_parse.specs.declared.parser.ParseError.TheVariants.{Syntax, TooDeep, Memory}

-- The tokens before the place begin a model whose nesting is allowed. With the next token they
-- begin none, whatever its nesting; where no token is left, they are no model.
pub record IsSyntax (tokens : List Placed) (end at : ℕ) : Type 0 where
  pub front : List Placed
  pub rest : List Placed
  pub whole : tokens ≡ front ++ rest
  pub place : at ≡ place_of rest end
  pub begun : IsBegunIn most_nesting (bare front)
  pub refused : IsRefused (bare front) (bare rest)

-- The tokens before the place begin a model whose nesting is allowed. With the next token they
-- begin a model, but none whose nesting is allowed.
pub record IsDeep (tokens : List Placed) (end at : ℕ) : Type 0 where
  pub front : List Placed
  pub rest : List Placed
  pub whole : tokens ≡ front ++ rest
  pub place : at ≡ place_of rest end
  pub begun : IsBegunIn most_nesting (bare front)
  pub deep : IsTooDeep most_nesting (bare front) (bare rest)

abbrev pub Means : List Placed → ℕ → ParseError → Type 0
Means tokens end (Syntax at) = IsSyntax tokens end at
Means tokens end (TooDeep at) = IsDeep tokens end at
Means tokens end Memory = Unit {0}

-- the error is this one, or there was no memory
abbrev pub IsSameOrMemory : ParseError → ParseError → Type 0
IsSameOrMemory wanted Memory = Unit {0}
IsSameOrMemory wanted (Syntax at) = Syntax at ≡ wanted
IsSameOrMemory wanted (TooDeep at) = TooDeep at ≡ wanted
