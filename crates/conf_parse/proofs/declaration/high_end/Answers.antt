use Rattle.conf_syntax.specs.Views.{end_of}
use Rattle.conf_parse.proofs.Shapes.{high_number, high_number_miss, high_minus, high_minus_miss, high_none}
use Rattle.conf_parse.proofs.Standing.{high_minus_stands, high_stands}
use Rattle.conf_parse.proofs.declaration.high_end.Goals as goal

pub returns-in-Ok-clause-places : goal.returns-in-Ok-clause-places
returns-in-Ok-clause-places c = high_stands c.args.low c.in-Some.value c.in-Some.at c.args.tokens.now c.in-Some.after.now c.in-Ok.rest.now c.in-Some.ensures c.in-Ok.ensures

pub returns-in-Ok-clause-read : goal.returns-in-Ok-clause-read
returns-in-Ok-clause-read c = high_number (end_of c.args.low) c.in-Some.value c.in-Some.at c.args.tokens.now c.in-Some.after.now c.in-Ok.rest.now c.in-Some.ensures c.in-Ok.ensures

pub returns-in-Err-clause-read : goal.returns-in-Err-clause-read
returns-in-Err-clause-read c = high_number_miss (end_of c.args.low) c.in-Some.value c.in-Some.at c.in-Err.left c.args.tokens.now c.in-Some.after.now c.in-Some.ensures c.in-Err.ensures

pub returns-in_default-after_mark-clause-read : goal.returns-in_default-after_mark-clause-read
returns-in_default-after_mark-clause-read c = high_none (end_of c.args.low) c.args.tokens.now c.in_default.ensures c.in_default-after_mark.ensures

pub returns-in-Ok-numbered-clause-read : goal.returns-in-Ok-numbered-clause-read
returns-in-Ok-numbered-clause-read c = high_minus (end_of c.args.low) c.in-Ok-numbered.value _ c.args.tokens.now c.in-Some-after_mark.after.now c.in-Ok-numbered.rest.now c.in-Some-after_mark.ensures c.in-Ok-numbered.ensures

pub returns-in-Err-numbered-clause-read : goal.returns-in-Err-numbered-clause-read
returns-in-Err-numbered-clause-read c = high_minus_miss (end_of c.args.low) c.in-Err-numbered.left c.args.tokens.now c.in-Some-after_mark.after.now c.in-Some-after_mark.ensures c.in-Err-numbered.ensures

pub returns-in-Ok-numbered-clause-places : goal.returns-in-Ok-numbered-clause-places
returns-in-Ok-numbered-clause-places c = high_minus_stands c.args.low c.in-Ok-numbered.value _ c.first_at.result c.args.tokens.now c.in-Some-after_mark.after.now c.in-Ok-numbered.rest.now c.in-Some-after_mark.ensures c.in-Ok-numbered.ensures c.first_at.ensures
