use Rattle.std.proofs.Common.{arith}
use Rattle.conf_syntax.specs.Places.{bare}
use Rattle.conf_syntax.specs.Views.{tree_of}
use Rattle.conf_parse.proofs.Standing.{statement_stands}
use Rattle.conf_parse.proofs.Wheres.{expr_error, expr_open, expr_part}
use Rattle.conf_parse.proofs.statement.statement.Goals as goal

-- each way out by the lemma that is for it
pub returns-in_default-clause-read : goal.returns-in_default-clause-read
returns-in_default-clause-read c = expr_open c.args.tokens.now c.in-Ok.found.1.now (tree_of c.in-Ok.found.0.tree.node) c.in-Ok.found.0.level c.in-Ok.ensures.read c.in-Ok.ensures.operand.level_is c.in-Ok.ensures.stops c.in_default.ensures

pub returns-in-Err-clause-read : goal.returns-in-Err-clause-read
returns-in-Err-clause-read c = expr_error (bare c.args.tokens.now) c.in-Err.e c.in-Err.ensures.read

pub returns-clause-read : goal.returns-clause-read
returns-clause-read c = expr_part c.args.tokens.now c.in-Ok.found.1.now c.in-Some.rest.now (tree_of c.in-Ok.found.0.tree.node) c.in-Ok.ensures.read (let n = c.in-Ok.ensures.operand.nest_is in let m = c.in-Ok.ensures.operand.nested in omega arith) c.in-Some.ensures

pub returns-clause-places : goal.returns-clause-places
returns-clause-places c = statement_stands c.args.tokens.now c.in-Ok.found.1.now c.in-Some.rest.now c.in-Ok.found.0.tree c.in-Ok.ensures.places c.in-Some.ensures
