use Rattle.stated_sets.proofs.JoinedSets.{stated_by}
use Rattle.stated_sets.proofs.joined.literal_at.Goals as goal

pub returns : goal.returns
returns c = stated_by c.args.maker.now c.in_ok-c.c.now c.in_ok-l.l.now c.in_ok-c.ensures c.in_ok-l.ensures
