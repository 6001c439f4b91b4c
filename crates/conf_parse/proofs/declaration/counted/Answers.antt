use Rattle.conf_syntax.specs.Views.{shape_of}
use Rattle.conf_parse.proofs.Shapes.{count_many, count_miss, count_none, count_plain}
use Rattle.conf_parse.proofs.Standing.{many_stands, plain_stands}
use Rattle.conf_parse.proofs.declaration.counted.Goals as goal

pub returns-in-Err-clause-read : goal.returns-in-Err-clause-read
returns-in-Err-clause-read c = count_miss c.args.is_ref c.args.ident.name c.in-Err.left c.args.tokens.now c.in-Some-after_mark.after.now c.in-Some-after_mark.ensures c.in-Err.ensures

pub returns-in_default-after_mark-clause-read : goal.returns-in_default-after_mark-clause-read
returns-in_default-after_mark-clause-read c = count_none c.args.is_ref c.args.ident.name c.args.tokens.now c.in_default.ensures c.in_default-after_mark.ensures

pub returns-in-Some-clause-places : goal.returns-in-Some-clause-places
returns-in-Some-clause-places c = plain_stands c.args.is_ref c.args.ident c.plain_shape.result c.args.tokens.now c.in-Some.rest.now c.in-Some.ensures c.plain_shape.ensures.made

pub returns-in-Some-clause-read : goal.returns-in-Some-clause-read
returns-in-Some-clause-read c = count_plain c.args.is_ref c.args.ident.name (shape_of c.plain_shape.result) c.args.tokens.now c.in-Some.rest.now c.in-Some.ensures c.plain_shape.ensures.tree

pub returns-in-Ok-clause-places : goal.returns-in-Ok-clause-places
returns-in-Ok-clause-places c = many_stands c.args.is_ref c.args.ident c.in-Ok.count _ c.counted_shape.result c.args.tokens.now c.in-Some-after_mark.after.now c.in-Ok.rest.now c.in-Some-after_mark.ensures c.in-Ok.ensures c.counted_shape.ensures.made

pub returns-in-Ok-clause-read : goal.returns-in-Ok-clause-read
returns-in-Ok-clause-read c = count_many c.args.is_ref c.args.ident.name (shape_of c.counted_shape.result) c.in-Ok.count _ c.args.tokens.now c.in-Some-after_mark.after.now c.in-Ok.rest.now c.in-Some-after_mark.ensures c.in-Ok.ensures c.counted_shape.ensures.tree
