use Rattle.std.proofs.Common.{◌∙◌}
use Rattle.round_commands.proofs.Among.{found}
use Rattle.round_commands.proofs.core_text.is_among.Goals as goal

pub returns : goal.returns
returns c = c.is_ok.ensures.value ∙ found c.args.numbers.now c.args.number c.binary_search.result c.requires.ascend c.binary_search.ensures.position
