-- What an error says of a text.
use Rattle.std.specs.Prelude.{◌≡◌, List, ℕ}
use Rattle.conf_parse.specs.Means.{IsSyntax, IsDeep}
use Rattle.conf_syntax.specs.Spelling.{IsStuckAtNumber}
use Rattle.conf_syntax.specs.declared.token.Placed.{Placed}
use Rattle.model_reader.specs.ModelRefusal.{IsSyntaxAt, IsNestingAt}
use Rattle.model_reader.specs.declared.model.TextError.{TextError}
use Rattle.model_reader.specs.declared.model.TextError.TheVariants.{Syntax, Literal, Nesting, Memory}

abbrev pub IsTextError : List ℕ → TextError → Type 0
IsTextError text (Syntax at) = IsSyntaxAt text at
IsTextError text (Literal at) = IsStuckAtNumber text at
IsTextError text (Nesting at) = IsNestingAt text at
IsTextError text Memory = Unit {0}

-- of tokens whose text has this end
abbrev pub IsTreeError : List Placed → ℕ → TextError → Type 0
IsTreeError tokens end (Syntax at) = IsSyntax tokens end at
IsTreeError tokens end (Literal at) = ⊥
IsTreeError tokens end (Nesting at) = IsDeep tokens end at
IsTreeError tokens end Memory = Unit {0}

-- the error is this one, or there was no memory
abbrev pub IsSameOrMemory : TextError → TextError → Type 0
IsSameOrMemory wanted Memory = Unit {0}
IsSameOrMemory wanted e = e ≡ wanted
