-- Why a text has no tokens, and where.
use Rattle.std.specs.Prelude.{ℕ, ◌≡◌, ◌⊎◌, List, Result, MatchResult}
use Rattle.conf_syntax.specs.Spelling.{IsStuckAtByte, IsStuckAtNumber, BeginsNothing, BeginsTooLarge}
use Rattle.conf_parse.specs.declared.lexer.LexError.{LexError}
use Rattle.conf_parse.specs.declared.lexer.LexError.TheVariants.{BadByte, LiteralTooLarge, Memory}

-- the text is stuck where the refusal says, for its reason
abbrev pub IsRefusedAs : List ℕ → LexError → Type 0
IsRefusedAs text (BadByte at) = IsStuckAtByte text at
IsRefusedAs text (LiteralTooLarge at) = IsStuckAtNumber text at
IsRefusedAs text Memory = Unit {0}

-- the refusal names this place, and what is left begins as it says
abbrev pub IsRefusedHere : List ℕ → ℕ → LexError → Type 0
IsRefusedHere rest at (BadByte place) = (place ≡ at) × BeginsNothing rest
IsRefusedHere rest at (LiteralTooLarge place) = (place ≡ at) × BeginsTooLarge rest
IsRefusedHere rest at Memory = Unit {0}

-- the answer is this refusal, or there was no memory
abbrev pub Refuses : {T : Type 0} → Result T LexError → LexError → Type 0
Refuses result error = MatchResult result (λ _. ⊥) (λ e. (e ≡ error) ⊎ (e ≡ Memory))
