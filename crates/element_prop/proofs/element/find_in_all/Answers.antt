use Rattle.std.proofs.Common.{refl}
use Rattle.element_prop.proofs.WalkLaws.{open_from, near_same}
use Rattle.element_prop.proofs.element.find_in_all.Goals as goal

pub returns-in-Met : goal.returns-in-Met
returns-in-Met c =
    let h = near_same c.args.items.now c.args.index.now c.all_items-all.result _ c.all_items-all.ensures refl refl refl in
    open_from c.args.items.now c.args.vars.0 c.args.vars.1 c.args.out.now c.args.index.now c.args.boxes.now _ c.in-Met.met.count c.in-Met.met.apart h refl c.in-Met.ensures
