use Rattle.std.proofs.Common.{Some, ap, map}
use Rattle.round_commands.proofs.Stepping.{same_hints}
use Rattle.round_commands.proofs.event.told_by.Goals as goal

pub returns-clause-hints : goal.returns-clause-hints
returns-clause-hints c = λ t e.
    same_hints c.args.with.built.objects.now c.question_of-question.result.objects.now (map Some t)
    (ap (λ x. x.now) c.question_of-question.ensures.objects) (c.best_is_hints.ensures t e)
