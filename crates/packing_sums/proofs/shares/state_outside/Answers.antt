use Rattle.std.proofs.Common.{[]}
use Rattle.form_build.proofs.Growth.{adds_nothing}
use Rattle.packing_sums.proofs.RowLaws.{outside_follows}
use Rattle.packing_sums.proofs.shares.state_outside.Goals as goal

pub returns-in_default : goal.returns-in_default
returns-in_default c = adds_nothing [] c.args.maker.now

pub state_multiples-requires-clause-follows : goal.state_multiples-requires-clause-follows
state_multiples-requires-clause-follows c =
    outside_follows c.args.maker.now c.args.p.now c.args.asked.now.set c.in_ok-rest.rest c.args.f.now c.in_ok-outside.outside c.in_ok-row.row c.in-Some.most
    c.requires.packing c.in_ok-rest.ensures.values c.in-Some.ensures.room c.requires.value c.in_ok-outside.ensures.value c.in_ok-row.ensures.value
