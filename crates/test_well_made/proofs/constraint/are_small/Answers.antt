use Rattle.std.proofs.Common.{pos, ◌≤ℤ◌, refl, arith}
use Rattle.signed_clause.specs.Clauses.{box_of}
use Rattle.ground_form.specs.Bounds.{LiesWithin, low_of}
use Rattle.test_well_made.proofs.Making.{items_step, sizes_step, bounded_items}
use Rattle.test_well_made.proofs.constraint.are_small.Goals as goal

pub loop-i-preserved : goal.loop-i-preserved
loop-i-preserved c =
    let items = c.args.items.now in let boxes = c.args.domains.now in let k = c.loop-i.i-index in
    record {
      places = λ more. c.loop-i.invariant.places (items_step (λ i. LiesWithin (pos 0) (pos 9999) (box_of boxes i.0)) items k _ (0, 0, 0) c.loop-i-test.true refl (c.if-not-is_upto.ensures.within refl) more);
      sizes = λ more. c.loop-i.invariant.sizes (items_step (λ i. pos 0 ≤ℤ low_of (box_of boxes i.1)) items k _ (0, 0, 0) c.loop-i-test.true refl ((c.if-not-is_upto-2.ensures.within refl).0) more);
      total = λ more. c.loop-i.invariant.total (sizes_step items boxes k _ (0, 0, 0) c.loop-i.left c.loop-i-test.true refl ((c.if-not-is_upto-2.ensures.within refl).1) (let enough = c.if-left-lt1048576.false in omega arith) more);
    }

pub returns : goal.returns
returns c = λ yes. bounded_items c.args.items.now c.args.domains.now c.loop-i.i-index (let end = c.loop-i-test.false in omega arith) c.loop-i.invariant.places c.loop-i.invariant.sizes c.loop-i.left c.loop-i.invariant.total
