use Rattle.std.proofs.Common.{add-one, ◌<◌, length, refl, arith, ap, ◌∙◌, pos, slice_index_or, Bool}
use Rattle.std.proofs.lemmas.Grind.{common_steps}
use Rattle.pack_prop.specs.RoomRows.{lifted}
use Rattle.pack_prop.proofs.SpanLaws.{none_in, all_in}
use Rattle.pack_prop.proofs.RoomEntries.{not_lifted, lift_step}
use Rattle.pack_prop.proofs.room_row.lift_span.Goals as goal

pub loop-e-init : goal.loop-e-init
loop-e-init c = record {
  size = refl;
  row = λ k lt. not_lifted _ _ _ (none_in c.args.span k);
}

pub loop-e-preserved : goal.loop-e-preserved
loop-e-preserved c =
    let below : c.loop-e.e < length c.loop-e.row = omega (arith, c.requires.within, c.loop-e-test.true, c.loop-e.invariant.size) in
    record {
      size = grind (arith, common_steps);
      row = λ k lt. rw (add-one c.loop-e.e) (lift_step c.args.row.now c.loop-e.row c.args.span c.args.high.value c.loop-e.e c.lift.result k c.loop-e.auto.e c.loop-e-test.true below c.lift.ensures (c.loop-e.invariant.row k lt));
    }

pub returns-clause-row : goal.returns-clause-row
returns-clause-row c e lt =
    c.loop-e.invariant.row e lt ∙ ap (λ (t : Bool). lifted t c.args.high.value (slice_index_or c.args.row.now e (pos 0, pos 0))) (all_in c.args.span e c.loop-e.e c.loop-e-test.false)
