-- Errors of the lexer and the parser as errors of a text.
use Rattle.std.proofs.Common.{◌≡◌, ◌≤◌, ◌⊎◌, inl, inr, List, Result, Ok, Err, MatchResult, IfOk, sym, ap, subst, ◌∙◌, length, refl, suc, [], ◌∷◌, ℕ}
use Rattle.model_limits.specs.Limits.{model_bytes}
use native.Mathlib.Omega.{arith}
use Rattle.conf_parse.specs.Means.{IsSyntax, IsDeep}
use Rattle.conf_parse.specs.declared.lexer.LexError.{LexError}
use Rattle.conf_parse.specs.declared.lexer.LexError.TheVariants as lex
use Rattle.conf_parse.specs.declared.parser.ParseError.{ParseError}
use Rattle.conf_parse.specs.declared.parser.ParseError.TheVariants as tree
use Rattle.conf_syntax.specs.Spelling.{Spells, IsStuckAtByte}
use Rattle.conf_syntax.specs.declared.token.Placed.{Placed}
use Rattle.conf_syntax.specs.declared.tree.Program.{Program}
use Rattle.conf_syntax.specs.Models.{IsProgramOf}
use Rattle.conf_syntax.specs.Places.{bare}
use Rattle.conf_syntax.specs.Trees.{program_tokens}
use Rattle.conf_syntax.specs.Words.{AreWords}
use Rattle.model_reader.specs.ModelRefusal.{IsSyntaxAt, IsNestingAt}
use Rattle.model_reader.specs.TextErrors.{IsSameOrMemory}
use Rattle.model_reader.specs.declared.model.TextError.{TextError}
use Rattle.model_reader.specs.declared.model.TextError.TheVariants.{Syntax, Literal, Nesting, Memory}

abbrev place_of_byte : LexError → ℕ
place_of_byte (lex.BadByte at) = at
place_of_byte (lex.LiteralTooLarge at) = at
place_of_byte lex.Memory = 0

pub byte_is_syntax : (k at : ℕ) → (lex.BadByte k ≡ lex.BadByte at) ⊎ (lex.BadByte k ≡ lex.Memory) → Syntax k ≡ Syntax at
byte_is_syntax k at (inl e) = ap (λ x. Syntax (place_of_byte x)) e
byte_is_syntax k at (inr e) = absurd cc

pub byte_no_number : (k at : ℕ) → (lex.BadByte k ≡ lex.LiteralTooLarge at) ⊎ (lex.BadByte k ≡ lex.Memory) → ⊥
byte_no_number k at (inl e) = cc
byte_no_number k at (inr e) = cc

pub byte_no_memory : (k : ℕ) → lex.BadByte k ≡ lex.Memory → ⊥
byte_no_memory k e = cc

pub number_is_literal : (k at : ℕ) → (lex.LiteralTooLarge k ≡ lex.LiteralTooLarge at) ⊎ (lex.LiteralTooLarge k ≡ lex.Memory) → Literal k ≡ Literal at
number_is_literal k at (inl e) = ap (λ x. Literal (place_of_byte x)) e
number_is_literal k at (inr e) = absurd cc

pub number_no_byte : (k at : ℕ) → (lex.LiteralTooLarge k ≡ lex.BadByte at) ⊎ (lex.LiteralTooLarge k ≡ lex.Memory) → ⊥
number_no_byte k at (inl e) = cc
number_no_byte k at (inr e) = cc

pub number_no_memory : (k : ℕ) → lex.LiteralTooLarge k ≡ lex.Memory → ⊥
number_no_memory k e = cc

abbrev place_of_tree : ParseError → ℕ
place_of_tree (tree.Syntax at) = at
place_of_tree (tree.TooDeep at) = at
place_of_tree tree.Memory = 0

pub syntax_is_syntax : (k at : ℕ) → tree.Syntax k ≡ tree.Syntax at → Syntax k ≡ Syntax at
syntax_is_syntax k at e = ap (λ x. Syntax (place_of_tree x)) e

pub syntax_no_depth : (k at : ℕ) → tree.Syntax k ≡ tree.TooDeep at → ⊥
syntax_no_depth k at e = cc

pub depth_is_nesting : (k at : ℕ) → tree.TooDeep k ≡ tree.TooDeep at → Nesting k ≡ Nesting at
depth_is_nesting k at e = ap (λ x. Nesting (place_of_tree x)) e

pub depth_no_syntax : (k at : ℕ) → tree.TooDeep k ≡ tree.Syntax at → ⊥
depth_no_syntax k at e = cc

-- an error that is want of memory is as good as any
memory_serves : (wanted e : TextError) → e ≡ Memory → IsSameOrMemory wanted e
memory_serves wanted e is = subst (IsSameOrMemory wanted) (sym is) tt

-- no tokens, so the refusal of the bytes
module _ (text : List ℕ) (e : TextError) (only : (tokens : List Placed) → Spells text tokens → e ≡ Memory) where
  pub syntax_without : ((at : ℕ) → IsStuckAtByte text at → IsSameOrMemory (Syntax at) e) → (at : ℕ) → IsSyntaxAt text at → IsSameOrMemory (Syntax at) e
  syntax_without bad_byte at (inl stuck) = bad_byte at stuck
  syntax_without bad_byte at (inr spelled) = memory_serves (Syntax at) e (only spelled.0 spelled.1)

  pub nesting_without : (at : ℕ) → IsNestingAt text at → IsSameOrMemory (Nesting at) e
  nesting_without at spelled = memory_serves (Nesting at) e (only spelled.0 spelled.1)

-- tokens, so the refusal of the tree
module _ (text : List ℕ) (found : List Placed) (r : Result Program TextError) (only : (tokens : List Placed) → Spells text tokens → found ≡ tokens) where
  pub syntax_with : ((at : ℕ) → IsStuckAtByte text at → ⊥) → ((at : ℕ) → IsSyntax found (length text) at → MatchResult r (λ _. ⊥) (IsSameOrMemory (Syntax at))) → (at : ℕ) → IsSyntaxAt text at → MatchResult r (λ _. ⊥) (IsSameOrMemory (Syntax at))
  syntax_with never refuses at (inl stuck) = absurd (never at stuck)
  syntax_with never refuses at (inr spelled) = refuses at (subst (λ ts. IsSyntax ts (length text) at) (sym (only spelled.0 spelled.1)) spelled.2)

  pub nesting_with : ((at : ℕ) → IsDeep found (length text) at → MatchResult r (λ _. ⊥) (IsSameOrMemory (Nesting at))) → (at : ℕ) → IsNestingAt text at → MatchResult r (λ _. ⊥) (IsSameOrMemory (Nesting at))
  nesting_with refuses at spelled = refuses at (subst (λ ts. IsDeep ts (length text) at) (sym (only spelled.0 spelled.1)) spelled.2)

length-bare : (tokens : List Placed) → length (bare tokens) ≡ length tokens
length-bare [] = refl
length-bare (x ∷ xs) = ap suc (length-bare xs)

-- a model has no more tokens than its text has bytes
pub few_tokens : (tokens : List Placed) (text : List ℕ) (r : Result Program TextError) → length tokens ≤ length text → length text ≤ model_bytes → IfOk r (λ p. IsProgramOf tokens p) → IfOk r (λ p. length (program_tokens p) ≤ model_bytes)
few_tokens tokens text (Ok p) few short made =
    subst (λ n. n ≤ model_bytes) (sym (length-bare tokens) ∙ ap length made.tree.tokens_are) (omega (arith, few, short))
few_tokens tokens text (Err e) few short made = tt

-- the words of a model are those of its tokens
pub model_words : (tokens found : List Placed) (r : Result Program TextError) → found ≡ tokens → AreWords (bare tokens) → IfOk r (λ p. IsProgramOf found p) → IfOk r (λ p. AreWords (program_tokens p))
model_words tokens found (Ok p) same words made = subst AreWords (ap bare (sym same) ∙ made.tree.tokens_are) words
model_words tokens found (Err e) same words made = tt
