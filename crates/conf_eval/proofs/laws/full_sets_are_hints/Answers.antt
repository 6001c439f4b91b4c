use Rattle.conf_eval.proofs.PublicLaws.{all_sized}
use Rattle.conf_eval.proofs.laws.full_sets_are_hints.Goals as goal

pub configuration_is_hints-requires : goal.configuration_is_hints-requires
configuration_is_hints-requires c = record { config = c.requires.config; sets = all_sized c.args.objects.now c.args.config.now c.requires.sets }
