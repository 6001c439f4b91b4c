use Rattle.std.proofs.Common.{arith}
use Rattle.std.proofs.lemmas.Int.{ints}
use Rattle.pack_prop.proofs.TotalWalk.{sizes_order, weighed_free, weighed_said}
use Rattle.pack_prop.proofs.total.weigh.Goals as goal

pub difference-fall-requires-clause-order : goal.difference-fall-requires-clause-order
difference-fall-requires-clause-order c =
    (sizes_order c.args.tried.domains.now c.args.tried.boxes.now c.args.tried.items.now c.args.tried.x c.args.m c.args.tried.part.now c.least-low.result.value c.least.result.value c.requires.ground c.requires.there c.least-low.ensures c.least.ensures).1

pub difference-requires-clause-low : goal.difference-requires-clause-low
difference-requires-clause-low c =
    let order = (sizes_order c.args.tried.domains.now c.args.tried.boxes.now c.args.tried.items.now c.args.tried.x c.args.m c.args.tried.part.now c.least-low.result.value c.least.result.value c.requires.ground c.requires.there c.least-low.ensures c.least.ensures).1 in
    let fall = c.difference-fall.ensures in omega (arith, ints)

pub returns-then-fall-spare : goal.returns-then-fall-spare
returns-then-fall-spare c =
    weighed_free c.args.tried.domains.now c.args.tried.boxes.now c.args.tried.items.now c.args.tried.x c.args.m c.args.tried.part.now c.args.spare.value c.difference-fall.result.value c.least-low.result.value c.least.result.value c.difference.result.value
    c.args.literals.now.items c.requires.ground c.requires.there c.requires.so_far c.least-low.ensures c.least.ensures c.difference-fall.ensures c.difference.ensures (let test = c.if-fall-spare.true in omega (arith, ints))

pub difference-requires-2-clause-order : goal.difference-requires-2-clause-order
difference-requires-2-clause-order c =
    let order = (sizes_order c.args.tried.domains.now c.args.tried.boxes.now c.args.tried.items.now c.args.tried.x c.args.m c.args.tried.part.now c.least-low.result.value c.least.result.value c.requires.ground c.requires.there c.least-low.ensures c.least.ensures).0 in
    let fall = c.difference-fall.ensures in let test = c.if-fall-spare.false in omega (arith, ints)

pub returns : goal.returns
returns c =
    weighed_said c.args.tried.domains.now c.args.tried.boxes.now c.args.tried.items.now c.args.tried.x c.args.m c.args.tried.part.now c.domain_at.result.now c.in_ok-under.under c.args.spare.value c.least-low.result.value c.difference-2.result.value
    c.args.literals.now.items c.say.new.literals.items c.requires.ground c.requires.there c.requires.so_far c.least-low.ensures c.domain_at.ensures c.difference-2.ensures c.in_ok-under.ensures.valid c.in_ok-under.ensures.values c.in_ok-say.ensures
