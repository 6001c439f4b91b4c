use Rattle.conf_eval.proofs.PublicLaws.{all_sized}
use Rattle.conf_eval.proofs.laws.full_sets_have_their_sizes.Goals as goal

pub returns : goal.returns
returns c = record { sizes = all_sized c.args.objects.now c.args.config.now c.requires.sets }
