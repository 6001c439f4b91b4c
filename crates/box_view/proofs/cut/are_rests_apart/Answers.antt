use Rattle.box_view.proofs.CutLaws.{apart_from}
use Rattle.box_view.proofs.cut.are_rests_apart.Goals as goal

pub returns : goal.returns
returns c =
    apart_from c.args.one.now c.args.out.now c.args.other.now c.args.other_out.now c.has_none.result
    c.ranges-2.ensures.valid c.ranges-3.ensures.valid c.ranges-4.ensures.valid c.ranges-5.ensures.valid c.has_none.ensures.none c.has_none.ensures.some
