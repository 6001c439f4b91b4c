use Rattle.conf_parse.proofs.Shapes.{low_number, low_number_miss, low_minus, low_minus_miss, low_none}
use Rattle.conf_parse.proofs.Standing.{low_minus_stands, low_stands}
use Rattle.conf_parse.proofs.declaration.low_end.Goals as goal

pub returns-in-Ok-clause-places : goal.returns-in-Ok-clause-places
returns-in-Ok-clause-places c = low_stands c.in-Some.value c.in-Some.at c.args.tokens.now c.in-Some.after.now c.in-Ok.rest.now c.in-Some.ensures c.in-Ok.ensures

pub returns-in-Ok-clause-read : goal.returns-in-Ok-clause-read
returns-in-Ok-clause-read c = low_number c.in-Some.value c.in-Some.at c.args.tokens.now c.in-Some.after.now c.in-Ok.rest.now c.in-Some.ensures c.in-Ok.ensures

pub returns-in-Err-clause-read : goal.returns-in-Err-clause-read
returns-in-Err-clause-read c = low_number_miss c.in-Some.value c.in-Some.at c.in-Err.left c.args.tokens.now c.in-Some.after.now c.in-Some.ensures c.in-Err.ensures

pub returns-in_default-after_mark-clause-read : goal.returns-in_default-after_mark-clause-read
returns-in_default-after_mark-clause-read c = low_none c.args.tokens.now c.requires.word c.requires.int c.requires.bool c.requires.ref_key c.in_default.ensures c.in_default-after_mark.ensures

pub returns-in-Ok-numbered-clause-read : goal.returns-in-Ok-numbered-clause-read
returns-in-Ok-numbered-clause-read c = low_minus c.in-Ok-numbered.value _ c.args.tokens.now c.in-Some-after_mark.after.now c.in-Ok-numbered.rest.now c.in-Some-after_mark.ensures c.in-Ok-numbered.ensures

pub returns-in-Err-numbered-clause-read : goal.returns-in-Err-numbered-clause-read
returns-in-Err-numbered-clause-read c = low_minus_miss c.in-Err-numbered.left c.args.tokens.now c.in-Some-after_mark.after.now c.in-Some-after_mark.ensures c.in-Err-numbered.ensures

pub returns-in-Ok-numbered-clause-places : goal.returns-in-Ok-numbered-clause-places
returns-in-Ok-numbered-clause-places c = low_minus_stands c.in-Ok-numbered.value _ c.first_at.result c.args.tokens.now c.in-Some-after_mark.after.now c.in-Ok-numbered.rest.now c.in-Some-after_mark.ensures c.in-Ok-numbered.ensures c.first_at.ensures
