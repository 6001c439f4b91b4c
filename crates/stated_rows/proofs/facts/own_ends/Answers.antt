use Rattle.stated_rows.proofs.FactLaws.{ends_of_box}
use Rattle.stated_rows.proofs.facts.own_ends.Goals as goal

pub returns : goal.returns
returns c = ends_of_box c.args.maker.now c.args.x c.in_ok-low.low.value c.in_ok-low.high.value c.in_ok-low.ensures.valid c.in_ok-low.ensures.exists c.in_ok-low.ensures.low c.in_ok-low.ensures.high
