use Rattle.box_view.proofs.CutLaws.{disjoint_from, disjoint_turned_from}
use Rattle.box_view.proofs.cut.is_rest_apart.Goals as goal

pub returns-clause-disjoint : goal.returns-clause-disjoint
returns-clause-disjoint c =
    disjoint_from c.args.domain.now c.args.out.now c.args.set.now c.has_none.result c.ranges-2.ensures.valid c.ranges-3.ensures.valid c.ranges-4.ensures.valid c.has_none.ensures.none c.has_none.ensures.some

pub returns-clause-set_disjoint : goal.returns-clause-set_disjoint
returns-clause-set_disjoint c =
    disjoint_turned_from c.args.domain.now c.args.out.now c.args.set.now c.has_none.result c.ranges-2.ensures.valid c.ranges-3.ensures.valid c.ranges-4.ensures.valid c.has_none.ensures.none c.has_none.ensures.some
