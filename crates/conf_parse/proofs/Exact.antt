-- What a text's one reading says of each answer.
use Rattle.std.proofs.Common.{◌≡◌, ℕ, List, ◌⊎◌, inl, inr, refl}
use Rattle.conf_syntax.specs.declared.token.Placed.{Placed}
use Rattle.conf_syntax.specs.Spelling.{Spells, IsStuckAtByte, IsStuckAtNumber, Whole, BadByteAt, TooLargeAt}
use Rattle.conf_parse.specs.declared.lexer.LexError.{LexError}
use Rattle.conf_parse.specs.declared.lexer.LexError.TheVariants.{BadByte, LiteralTooLarge, Memory}
use Rattle.conf_parse.specs.Refusals.{IsRefusedAs}
use Rattle.conf_parse.proofs.OneReading.{read_one_way}

pub only_these : (text : List ℕ) (found : List Placed) → Spells text found → (tokens : List Placed) → Spells text tokens → found ≡ tokens
only_these text found spells tokens also = let e = read_one_way text (Whole found) (Whole tokens) spells also in cc

pub not_at_byte : (text : List ℕ) (found : List Placed) → Spells text found → (at : ℕ) → IsStuckAtByte text at → ⊥
not_at_byte text found spells at stuck = let e = read_one_way text (Whole found) (BadByteAt at) spells stuck in cc

pub not_at_number : (text : List ℕ) (found : List Placed) → Spells text found → (at : ℕ) → IsStuckAtNumber text at → ⊥
not_at_number text found spells at stuck = let e = read_one_way text (Whole found) (TooLargeAt at) spells stuck in cc

pub only_memory : (text : List ℕ) (error : LexError) → IsRefusedAs text error → (tokens : List Placed) → Spells text tokens → error ≡ Memory
only_memory text (BadByte place) stuck tokens spells = absurd (not_at_byte text tokens spells place stuck)
only_memory text (LiteralTooLarge place) stuck tokens spells = absurd (not_at_number text tokens spells place stuck)
only_memory text Memory stuck tokens spells = refl

-- the same place
same_byte : (text : List ℕ) (place at : ℕ) → IsStuckAtByte text place → IsStuckAtByte text at → BadByte place ≡ BadByte at
same_byte text place at one other = let e = read_one_way text (BadByteAt place) (BadByteAt at) one other in cc

same_number : (text : List ℕ) (place at : ℕ) → IsStuckAtNumber text place → IsStuckAtNumber text at → LiteralTooLarge place ≡ LiteralTooLarge at
same_number text place at one other = let e = read_one_way text (TooLargeAt place) (TooLargeAt at) one other in cc

not_both : (text : List ℕ) (at place : ℕ) → IsStuckAtByte text at → IsStuckAtNumber text place → ⊥
not_both text at place one other = let e = read_one_way text (BadByteAt at) (TooLargeAt place) one other in cc

pub at_byte : (text : List ℕ) (error : LexError) → IsRefusedAs text error → (at : ℕ) → IsStuckAtByte text at → (error ≡ BadByte at) ⊎ (error ≡ Memory)
at_byte text (BadByte place) stuck at also = inl (same_byte text place at stuck also)
at_byte text (LiteralTooLarge place) stuck at also = absurd (not_both text at place also stuck)
at_byte text Memory stuck at also = inr refl

pub at_number : (text : List ℕ) (error : LexError) → IsRefusedAs text error → (at : ℕ) → IsStuckAtNumber text at → (error ≡ LiteralTooLarge at) ⊎ (error ≡ Memory)
at_number text (BadByte place) stuck at also = absurd (not_both text place at stuck also)
at_number text (LiteralTooLarge place) stuck at also = inl (same_number text place at stuck also)
at_number text Memory stuck at also = inr refl
