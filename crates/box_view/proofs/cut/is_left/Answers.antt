use Rattle.std.proofs.Common.{SFits, w64}
use Rattle.std.proofs.lemmas.Int.{to_z-of_z}
use Rattle.box_view.proofs.CutLaws.{left_is, gone_is}
use Rattle.box_view.proofs.cut.is_left.Goals as goal

pub returns-then-contains : goal.returns-then-contains
returns-then-contains c =
    let fits : SFits w64 c.args.v = c.ranges.v in
    let one = simp to_z-of_z at c.contains.ensures in
    let other = simp to_z-of_z at c.contains-then-contains.ensures in
    left_is _ _ c.args.domain.now c.args.out.now c.args.v c.ranges-2.ensures.valid c.ranges-3.ensures.valid one c.if-contains.true other

pub returns-else-contains : goal.returns-else-contains
returns-else-contains c =
    let fits : SFits w64 c.args.v = c.ranges.v in
    let one = simp to_z-of_z at c.contains.ensures in
    gone_is _ c.args.domain.now c.args.out.now c.args.v c.ranges-2.ensures.valid c.ranges-3.ensures.valid one c.if-contains.false
