use Rattle.stated_facts.proofs.NoughtLaws.{nought_kept}
use Rattle.stated_costs.proofs.adding.with_steps.Goals as goal

pub with_all-requires : goal.with_all-requires
with_all-requires c = nought_kept c.args.maker.now c.all_steps.new.maker c.args.zero.now c.in_ok-all.ensures.grows c.requires.nought
