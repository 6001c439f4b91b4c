use Rattle.std.proofs.Common.{◌∙◌}
use Rattle.view_plan.proofs.SetLaws.{now_has}
use Rattle.view_plan.proofs.sets.has_word.Goals as goal

pub returns : goal.returns
returns c = c.contains.ensures ∙ now_has c.args.words.now.keys c.args.word.now
