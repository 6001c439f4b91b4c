use Rattle.view_breaks.proofs.AnswerLaws.{answered, model_denied}
use Rattle.view_breaks.proofs.answer.broken.Goals as goal

pub returns-in-Ok-told_for-clause-told : goal.returns-in-Ok-told_for-clause-told
returns-in-Ok-told_for-clause-told c =
    answered c.args.source.now c.args.bytes.now _ _ c.in-Ok.program c.in-Ok.ensures.model c.in-Ok-told_for.ensures.told

pub returns-clause-refused : goal.returns-clause-refused
returns-clause-refused c =
    model_denied c.args.source.now c.args.bytes.now c.in-Err-told_for.status c.in-Ok.program c.in-Ok.ensures.model c.in-Err-told_for.ensures.refused
