use Rattle.object_alloc.proofs.HintLaws.{hints_lie}
use Rattle.object_alloc.proofs.hints.hints_lie_in_domains.Goals as goal

pub returns : goal.returns
returns c = record { cells = hints_lie c.args.objects.now c.args.hints.now c.requires.hints }
