use Rattle.stated_rows.proofs.FactLaws.{ends_of_set}
use Rattle.stated_rows.proofs.facts.said_ends.Goals as goal

pub returns : goal.returns
returns c = ends_of_set c.args.maker.now c.args.x c.in_ok-set.set.now c.set_ends-ends.result.0.value c.set_ends-ends.result.1.value c.in_ok-set.ensures.valid c.set_ends-ends.ensures.low c.set_ends-ends.ensures.high (λ a w all. c.in_ok-set.ensures.holds a all)
