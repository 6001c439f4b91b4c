use Rattle.std.proofs.Common.{rules, ◌≡◌}
use Rattle.conf_syntax.specs.Views.{shape_of}
use Rattle.conf_parse.proofs.Shapes.{var_error, var_miss, var_part}
use Rattle.conf_parse.proofs.Standing.{var_stands}
use Rattle.conf_parse.proofs.declaration.var_decl.Goals as goal

pub returns-clause-places : goal.returns-clause-places
returns-clause-places c = var_stands c.in-Ok.found.0.now c.in_ok-name.name c.in-Ok.found.1 c.in-Ok-shape.found.0 c.args.tokens.now c.args.after.now c.in-Ok.found.2.now c.in-Ok-shape.found.1.now c.requires c.in-Ok.ensures c.in-Ok-shape.ensures.places

pub returns-clause-read : goal.returns-clause-read
returns-clause-read c =
    let e : c.in_ok-name.name ≡ c.in-Ok.found.0.now = search rules in
    var_part c.in-Ok.found.0.now c.in_ok-name.name c.in-Ok.found.1 (shape_of c.in-Ok-shape.found.0) c.args.tokens.now c.args.after.now c.in-Ok.found.2.now c.in-Ok-shape.found.1.now c.requires c.in-Ok.ensures e c.in-Ok-shape.ensures.read

pub returns-in-Err-clause-read : goal.returns-in-Err-clause-read
returns-in-Err-clause-read c = var_miss c.in-Err.left c.args.tokens.now c.args.after.now c.requires c.in-Err.ensures

pub returns-in-Err-shape-clause-read : goal.returns-in-Err-shape-clause-read
returns-in-Err-shape-clause-read c = var_error c.in-Ok.found.0.now c.in-Ok.found.1 c.in-Err-shape.e c.args.tokens.now c.args.after.now c.in-Ok.found.2.now c.requires c.in-Ok.ensures c.in-Err-shape.ensures.read
