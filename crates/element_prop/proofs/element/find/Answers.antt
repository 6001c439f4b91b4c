use Rattle.std.proofs.Common.{refl}
use Rattle.element_prop.proofs.NearLaws.{near_counted}
use Rattle.element_prop.proofs.WalkLaws.{open_from}
use Rattle.element_prop.proofs.element.find.Goals as goal

pub returns-then-at_most : goal.returns-then-at_most
returns-then-at_most c =
    let items = c.args.items.now in let index = c.args.index.now in let guess = c.near_items-guess.ensures in
    let h = near_counted items index _ c.in-Met.met.count c.requires.index c.requires.distinct guess.order guess.within c.in-Met.ensures.possible (c.at_most.ensures.0 c.if-at_most.true) in
    open_from items c.args.vars.0 c.args.vars.1 c.args.out.now index c.args.boxes.now _ c.in-Met.met.count c.in-Met.met.apart h refl c.in-Met.ensures
