use Rattle.conf_limits.proofs.PartLaws.{part_within}
use Rattle.conf_limits.proofs.parts.part_is_within_limits.Goals as goal

pub returns : goal.returns
returns c = record { within = λ o w. part_within o c.args.m.now.constraints c.args.m.now.goals c.args.keep.now c.requires.ascend c.requires.exist w }
