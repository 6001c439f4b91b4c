use Rattle.conf_parse.proofs.Shapes.{int_part, int_miss, bool_part, bool_miss}
use Rattle.conf_parse.proofs.Standing.{int_stands, bool_stands}
use Rattle.conf_parse.proofs.declaration.shape.Goals as goal

pub returns-in-Ok-clause-places : goal.returns-in-Ok-clause-places
returns-in-Ok-clause-places c = int_stands c.args.tokens.now c.in-Some-after_key.after.now c.in-Ok.rest.now c.in-Some-after_key.ensures c.in-Ok.ensures

pub returns-in-Ok-clause-read : goal.returns-in-Ok-clause-read
returns-in-Ok-clause-read c = int_part c.args.tokens.now c.in-Some-after_key.after.now c.in-Ok.rest.now c.in-Some-after_key.ensures c.in-Ok.ensures

pub returns-in-Err-clause-read : goal.returns-in-Err-clause-read
returns-in-Err-clause-read c = int_miss c.in-Err.left c.args.tokens.now c.in-Some-after_key.after.now c.in-Some-after_key.ensures c.in-Err.ensures

pub returns-in-Ok-fixed-clause-places : goal.returns-in-Ok-fixed-clause-places
returns-in-Ok-fixed-clause-places c = bool_stands c.args.tokens.now c.in-Some-after_key-2.after.now c.in-Ok-fixed.rest.now c.in-Some-after_key-2.ensures c.in-Ok-fixed.ensures

pub returns-in-Ok-fixed-clause-read : goal.returns-in-Ok-fixed-clause-read
returns-in-Ok-fixed-clause-read c = bool_part c.args.tokens.now c.in-Some-after_key-2.after.now c.in-Ok-fixed.rest.now c.in-Some-after_key-2.ensures c.in-Ok-fixed.ensures

pub returns-in-Err-fixed-clause-read : goal.returns-in-Err-fixed-clause-read
returns-in-Err-fixed-clause-read c = bool_miss c.in-Err-fixed.left c.args.tokens.now c.in-Some-after_key-2.after.now c.in-Some-after_key-2.ensures c.in-Err-fixed.ensures
