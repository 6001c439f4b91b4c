use Rattle.std.proofs.Common.{◌^◌, arith}
use Rattle.std.proofs.lemmas.Int.{ints}
use Rattle.form_build.proofs.Growth.{defines_more}
use Rattle.form_build.proofs.Linears.{linear_more}
use Rattle.stated_facts.proofs.NoughtLaws.{nought_kept}
use Rattle.goal_rows.proofs.dividing.state_nought.Goals as goal

pub state_multiples-requires-clause-row : goal.state_multiples-requires-clause-row
state_multiples-requires-clause-row c = linear_more 0 (2 ^ 40) c.args.maker.now.domains c.amount-nothing.result (omega arith) (c.amount-nothing.ensures.linear c.args.maker.now.domains)

pub state_multiples-requires-clause-follows : goal.state_multiples-requires-clause-follows
state_multiples-requires-clause-follows c a w all = let nil = c.amount-nothing.ensures.value a in omega (arith, ints, nil)

pub state_multiples-requires-2-clause-row : goal.state_multiples-requires-2-clause-row
state_multiples-requires-2-clause-row c = linear_more 0 (2 ^ 40) c.state_multiples.new.maker.domains c.amount-nothing.result (omega arith) (c.amount-nothing.ensures.linear c.state_multiples.new.maker.domains)

pub state_multiples-requires-2-clause-nought : goal.state_multiples-requires-2-clause-nought
state_multiples-requires-2-clause-nought c = nought_kept c.args.maker.now c.state_multiples.new.maker c.args.link.now c.in_ok-state_multiples.ensures.grows c.requires

pub state_multiples-requires-2-clause-follows : goal.state_multiples-requires-2-clause-follows
state_multiples-requires-2-clause-follows c a w all = let nil = c.amount-nothing.ensures.value a in omega (arith, ints, nil)

pub returns : goal.returns
returns c = defines_more c.args.maker.now c.state_multiples.new.maker c.state_multiples-2.new.maker c.in_ok-state_multiples.ensures c.in_ok-state_multiples-2.ensures
