use Rattle.model_reader.proofs.TextLaws.{byte_is_syntax, byte_no_number, byte_no_memory, number_is_literal, number_no_byte, number_no_memory}
use Rattle.model_reader.proofs.model.tokens_of.Goals as goal

pub returns-in-Err-BadByte-clause-only : goal.returns-in-Err-BadByte-clause-only
returns-in-Err-BadByte-clause-only c =
    let e = rw c.in-Err-BadByte.field-0-is at c.in-Err-BadByte.ensures in
    λ tokens spelled. absurd (byte_no_memory c.in-Err-BadByte.at (e.only tokens spelled))

pub returns-in-Err-BadByte-clause-bad_byte : goal.returns-in-Err-BadByte-clause-bad_byte
returns-in-Err-BadByte-clause-bad_byte c =
    let e = rw c.in-Err-BadByte.field-0-is at c.in-Err-BadByte.ensures in
    λ at stuck. byte_is_syntax c.in-Err-BadByte.at at (e.bad_byte at stuck)

pub returns-in-Err-BadByte-clause-too_large : goal.returns-in-Err-BadByte-clause-too_large
returns-in-Err-BadByte-clause-too_large c =
    let e = rw c.in-Err-BadByte.field-0-is at c.in-Err-BadByte.ensures in
    λ at stuck. absurd (byte_no_number c.in-Err-BadByte.at at (e.too_large at stuck))

pub returns-in-Err-LiteralTooLarge-clause-only : goal.returns-in-Err-LiteralTooLarge-clause-only
returns-in-Err-LiteralTooLarge-clause-only c =
    let e = rw c.in-Err-LiteralTooLarge.field-0-is at c.in-Err-LiteralTooLarge.ensures in
    λ tokens spelled. absurd (number_no_memory c.in-Err-LiteralTooLarge.at (e.only tokens spelled))

pub returns-in-Err-LiteralTooLarge-clause-bad_byte :
    goal.returns-in-Err-LiteralTooLarge-clause-bad_byte
returns-in-Err-LiteralTooLarge-clause-bad_byte c =
    let e = rw c.in-Err-LiteralTooLarge.field-0-is at c.in-Err-LiteralTooLarge.ensures in
    λ at stuck. absurd (number_no_byte c.in-Err-LiteralTooLarge.at at (e.bad_byte at stuck))

pub returns-in-Err-LiteralTooLarge-clause-too_large :
    goal.returns-in-Err-LiteralTooLarge-clause-too_large
returns-in-Err-LiteralTooLarge-clause-too_large c =
    let e = rw c.in-Err-LiteralTooLarge.field-0-is at c.in-Err-LiteralTooLarge.ensures in
    λ at stuck. number_is_literal c.in-Err-LiteralTooLarge.at at (e.too_large at stuck)
