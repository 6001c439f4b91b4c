use Rattle.std.proofs.Common.{◌^◌, arith}
use Rattle.std.proofs.lemmas.Int.{ints}
use Rattle.form_build.proofs.Linears.{linear_more}
use Rattle.goal_rows.proofs.totals.state_row.Goals as goal

pub state_multiples-requires-clause-row : goal.state_multiples-requires-clause-row
state_multiples-requires-clause-row c = linear_more 0 (2 ^ 40) c.args.maker.now.domains c.amount-none.result (omega arith) (c.amount-none.ensures.linear c.args.maker.now.domains)

pub state_multiples-requires-clause-follows : goal.state_multiples-requires-clause-follows
state_multiples-requires-clause-follows c a w all = let nil = c.amount-none.ensures.value a in omega (arith, ints, nil)
