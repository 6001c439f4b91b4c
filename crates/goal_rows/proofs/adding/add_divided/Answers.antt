use Rattle.std.proofs.Common.{◌^◌, arith}
use Rattle.form_build.proofs.Growth.{defines_more, no_less, world_before}
use Rattle.form_build.proofs.Keeping.{linear_kept}
use Rattle.form_build.proofs.Linears.{linear_more}
use Rattle.goal_rows.proofs.QuotientLaws.{near_kept, goal_kept, goal_by_own}
use Rattle.goal_rows.proofs.adding.add_divided.Goals as goal

pub settled_in_blocks-requires : goal.settled_in_blocks-requires
settled_in_blocks-requires c = record { linear = linear_more (2 ^ 19) (2 ^ 60) c.args.maker.now.domains c.args.q.now.sum (omega arith) c.requires.quotient.linear }

pub state_link-requires-clause-exists : goal.state_link-requires-clause-exists
state_link-requires-clause-exists c =
    let less = no_less c.args.maker.now c.settled_in_blocks.new.b c.in_ok-own.ensures.adds.grows in
    omega (arith, less, c.requires.goal)

pub state_link-requires-clause-near : goal.state_link-requires-clause-near
state_link-requires-clause-near c = near_kept c.args.maker.now c.settled_in_blocks.new.b c.args.goal c.in_ok-own.ensures.adds.grows c.requires.goal c.requires.near

pub state_link-requires-clause-times : goal.state_link-requires-clause-times
state_link-requires-clause-times c = c.requires.quotient.times

pub state_link-requires-clause-value : goal.state_link-requires-clause-value
state_link-requires-clause-value c =
    goal_by_own c.settled_in_blocks.new.b c.args.goal c.in_ok-own.own c.args.q.now (goal_kept c.args.maker.now c.settled_in_blocks.new.b c.args.goal c.args.q.now c.in_ok-own.ensures.adds.grows c.requires.quotient) c.in_ok-own.ensures.value

pub add_for_sum-requires-clause-own : goal.add_for_sum-requires-clause-own
add_for_sum-requires-clause-own c =
    let less = no_less c.settled_in_blocks.new.b c.state_link.new.maker c.in_ok-state_link.ensures.grows in
    omega (arith, less, c.in_ok-own.ensures.exists)

pub add_for_sum-requires-clause-sum : goal.add_for_sum-requires-clause-sum
add_for_sum-requires-clause-sum c =
    linear_kept (2 ^ 19) c.settled_in_blocks.new.b c.state_link.new.maker c.args.q.now.sum c.in_ok-state_link.ensures.grows
    (linear_kept (2 ^ 19) c.args.maker.now c.settled_in_blocks.new.b c.args.q.now.sum c.in_ok-own.ensures.adds.grows c.requires.quotient.linear)

pub add_for_sum-requires-clause-value : goal.add_for_sum-requires-clause-value
add_for_sum-requires-clause-value c a w all = c.in_ok-own.ensures.value a (world_before c.settled_in_blocks.new.b c.state_link.new.maker a c.in_ok-state_link.ensures.grows w)

pub returns : goal.returns
returns c =
    defines_more c.args.maker.now c.state_link.new.maker c.add_for_sum.new.maker
    (defines_more c.args.maker.now c.settled_in_blocks.new.b c.state_link.new.maker c.in_ok-own.ensures.adds c.in_ok-state_link.ensures)
    c.in_ok-add_for_sum.ensures
