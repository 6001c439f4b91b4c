use Rattle.stated_pairs.proofs.reading.pair_at.Goals as goal

pub returns : goal.returns
returns c = c.ascending.ensures c.args.maker.now c.in_ok-p.ensures
