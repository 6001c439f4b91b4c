use Rattle.box_view.proofs.CutLaws.{within_from}
use Rattle.box_view.proofs.cut.is_rest_within.Goals as goal

pub returns : goal.returns
returns c =
    within_from c.args.domain.now c.args.out.now c.args.set.now c.has_none.result c.ranges-2.ensures.valid c.ranges-3.ensures.valid c.ranges-4.ensures.valid c.has_none.ensures.none c.has_none.ensures.some
