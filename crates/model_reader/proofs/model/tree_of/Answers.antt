use Rattle.model_reader.proofs.TextLaws.{syntax_is_syntax, syntax_no_depth, depth_is_nesting, depth_no_syntax}
use Rattle.model_reader.proofs.model.tree_of.Goals as goal

pub returns-in-Err-Syntax-clause-syntax : goal.returns-in-Err-Syntax-clause-syntax
returns-in-Err-Syntax-clause-syntax c =
    let e = rw c.in-Err-Syntax.field-0-is at c.in-Err-Syntax.ensures in
    λ at stands. syntax_is_syntax c.in-Err-Syntax.at at (e.syntax at stands)

pub returns-in-Err-Syntax-clause-nesting : goal.returns-in-Err-Syntax-clause-nesting
returns-in-Err-Syntax-clause-nesting c =
    let e = rw c.in-Err-Syntax.field-0-is at c.in-Err-Syntax.ensures in
    λ at stands. absurd (syntax_no_depth c.in-Err-Syntax.at at (e.too_deep at stands))

pub returns-in-Err-TooDeep-clause-syntax : goal.returns-in-Err-TooDeep-clause-syntax
returns-in-Err-TooDeep-clause-syntax c =
    let e = rw c.in-Err-TooDeep.field-0-is at c.in-Err-TooDeep.ensures in
    λ at stands. absurd (depth_no_syntax c.in-Err-TooDeep.at at (e.syntax at stands))

pub returns-in-Err-TooDeep-clause-nesting : goal.returns-in-Err-TooDeep-clause-nesting
returns-in-Err-TooDeep-clause-nesting c =
    let e = rw c.in-Err-TooDeep.field-0-is at c.in-Err-TooDeep.ensures in
    λ at stands. depth_is_nesting c.in-Err-TooDeep.at at (e.too_deep at stands)
