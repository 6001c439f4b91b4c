use Rattle.conf_eval.proofs.PublicLaws.{typed_value, value_in_interval, value_in_reach}
use Rattle.conf_eval.proofs.laws.values_keep_to_measures.Goals as goal

pub returns : goal.returns
returns c =
    let o = c.args.objects.now in
    let vs = c.args.config.now in
    let sound = c.count-count.ensures.sound in
    record {
      typed = typed_value o vs sound c.requires.config;
      within = value_in_interval o vs sound c.requires.config;
      reached = value_in_reach o vs sound c.requires.config;
    }
