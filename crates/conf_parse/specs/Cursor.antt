-- Tokens that are taken one by one, and in straight rows.
use Rattle.std.specs.Prelude.{◌≡◌, ◌+◌, ℕ, Bool, true, false, List, [], ◌∷◌, ◌++◌, drop, length}
use Rattle.conf_syntax.specs.declared.token.Placed.{Placed}
use Rattle.conf_syntax.specs.declared.token.Token.{Token}
use Rattle.conf_syntax.specs.declared.token.Token.TheVariants.{Word, Number}
use Rattle.conf_syntax.specs.Places.{bare, first_at}
use Rattle.conf_grammar.specs.declared.piece.Piece.{Piece}
use Rattle.conf_grammar.specs.declared.piece.Piece.TheVariants as piece

-- a token and what is behind it
pub record Splits (tokens : List Placed) (token : Placed) (after : List Placed) : Type 0 where
  pub bare_is : bare tokens ≡ token.token ∷ bare after
  pub after_is : after ≡ drop 1 tokens
  pub at_is : token.at ≡ first_at tokens

-- a given token, and what is behind it
pub record Takes (tokens : List Placed) (token : Token) (after : List Placed) : Type 0 where
  pub bare_is : bare tokens ≡ token ∷ bare after
  pub after_is : after ≡ drop 1 tokens

-- a word with its place, and what is behind it
pub record Names (tokens : List Placed) (name : List ℕ) (at : ℕ) (after : List Placed) : Type 0 where
  pub bare_is : bare tokens ≡ Word name ∷ bare after
  pub after_is : after ≡ drop 1 tokens
  pub at_is : at ≡ first_at tokens

-- a number with its place, and what is behind it
pub record Numbers (tokens : List Placed) (value : ℕ) (at : ℕ) (after : List Placed) : Type 0 where
  pub bare_is : bare tokens ≡ Number value ∷ bare after
  pub after_is : after ≡ drop 1 tokens
  pub at_is : at ≡ first_at tokens

abbrev pub IsNotNumber : List Token → Type 0
IsNotNumber [] = Unit {0}
IsNotNumber (Number n ∷ rest) = ⊥
IsNotNumber (x ∷ rest) = Unit {0}

-- whether a piece is one token alone
abbrev pub is_fixed : Piece → Bool
is_fixed piece.Word = false
is_fixed piece.Number = false
is_fixed _ = true

-- a row of tokens and what is behind it
pub record Follows (tokens : List Placed) (ts : List Token) (rest : List Placed) : Type 0 where
  pub bare_is : bare tokens ≡ ts ++ bare rest
  pub rest_is : rest ≡ drop (length ts) tokens

-- a word with its place, a row of tokens, and what is behind them
pub record NamesThen (tokens : List Placed) (name : List ℕ) (at : ℕ) (ts : List Token) (rest : List Placed) : Type 0 where
  pub bare_is : bare tokens ≡ Word name ∷ (ts ++ bare rest)
  pub rest_is : rest ≡ drop (1 + length ts) tokens
  pub at_is : at ≡ first_at tokens

-- a number with its place, a row of tokens, and what is behind them
pub record NumbersThen (tokens : List Placed) (value : ℕ) (at : ℕ) (ts : List Token) (rest : List Placed) : Type 0 where
  pub bare_is : bare tokens ≡ Number value ∷ (ts ++ bare rest)
  pub rest_is : rest ≡ drop (1 + length ts) tokens
  pub at_is : at ≡ first_at tokens
