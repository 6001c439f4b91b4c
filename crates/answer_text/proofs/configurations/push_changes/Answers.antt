use Rattle.answer_text.proofs.Counts.{enough_values}
use Rattle.answer_text.proofs.configurations.push_changes.Goals as goal

pub change_count-changes-requires-clause-values :
    goal.change_count-changes-requires-clause-values
change_count-changes-requires-clause-values c =
    enough_values c.args.objects.now c.args.config.now c.requires.config
