use Rattle.ground_form.specs.Bounds.{low_of, high_of}
use Rattle.signed_clause.specs.Clauses.{box_of}
use Rattle.pack_prop.proofs.TightRows.{each_enough}
use Rattle.pack_prop.proofs.tight.find_excess.Goals as goal

pub returns-clause-none : goal.returns-clause-none
returns-clause-none c =
    each_enough c.excess.result c.args.items.now c.args.boxes.now (low_of (box_of c.args.boxes.now c.args.head.0)) (high_of (box_of c.args.boxes.now c.args.head.0))
    c.bins_of-bins.result.0.value c.bins_of-bins.result.1.value c.in_ok-rows.rows.now c.bins_of-bins.ensures.first c.bins_of-bins.ensures.last
    c.in_ok-rows.ensures.rooms c.in_ok-rows.ensures.all c.excess.ensures.enough c.excess.ensures.grow c.excess.ensures.loose
