use Rattle.view_breaks.proofs.AnswerLaws.{told_for, unread_for, refused_for}
use Rattle.view_breaks.proofs.answer.told_for.Goals as goal

pub returns-in-Err-objects_of-clause-refused : goal.returns-in-Err-objects_of-clause-refused
returns-in-Err-objects_of-clause-refused c =
    refused_for c.args.bytes.now c.in-Err-objects_of.status c.args.program.now
    (c.in-Err-objects_of.ensures.refused c.args.program.now c.in-Ok-typed_model.ensures.resolved)

pub returns-in-Ok-told_of-clause-told : goal.returns-in-Ok-told_of-clause-told
returns-in-Ok-told_of-clause-told c =
    told_for c.args.program.now c.in-Ok.table c.in-Ok-typed_model.model.constraints c.in-Ok-typed_model.model.goals c.in-Ok-typed_model.ensures.resolved c.in-Ok-objects_of.ensures.within
    c.args.source.now c.args.bytes.now _ _ c.in-Ok-told_of.ensures.told

pub returns-clause-refused : goal.returns-clause-refused
returns-clause-refused c =
    unread_for c.args.program.now c.in-Ok.table c.in-Ok-typed_model.model.constraints c.in-Ok-typed_model.model.goals c.in-Ok-typed_model.ensures.resolved c.in-Ok-objects_of.ensures.within
    c.args.bytes.now c.in-Err-told_of.status c.in-Err-told_of.ensures.refused
