use Rattle.std.proofs.lemmas.Grind.{common_steps}
use Rattle.std.proofs.Common.{add-one, ◌<◌, length, refl, arith, subst, nat_lt, ◌&&◌, slice_index_or, Bool}
use Rattle.pack_prop.specs.Spans.{is_in}
use Rattle.pack_prop.specs.Tight.{IsRaised}
use Rattle.pack_prop.proofs.BestRows.{not_raised, span_step}
use Rattle.pack_prop.proofs.SpanLaws.{none_in, all_in}
use Rattle.pack_prop.proofs.best_rooms.raise_span.Goals as goal

pub loop-e-init : goal.loop-e-init
loop-e-init c = record {
  size = refl;
  rows = λ d k lt. not_raised (is_in c.args.span k && nat_lt k c.args.span.begin) _ _ _ (none_in c.args.span k);
}

pub loop-e-preserved : goal.loop-e-preserved
loop-e-preserved c =
    let below : c.loop-e.e < length c.loop-e.rows = omega (arith, c.requires.within, c.loop-e-test.true, c.loop-e.invariant.size) in
    record {
      size = grind (arith, common_steps);
      rows = λ d k lt. rw (add-one c.loop-e.e) (span_step c.args.rows.now c.loop-e.rows c.args.span c.args.more.room.value c.args.more.stays c.loop-e.e _ c.raised.result d k c.loop-e.auto.e c.loop-e-test.true below (omega arith) c.raised.ensures (c.loop-e.invariant.rows d k lt));
    }

pub returns-clause-rows : goal.returns-clause-rows
returns-clause-rows c d e lt =
    subst (λ (t : Bool). IsRaised t c.args.more.room.value c.args.more.stays (slice_index_or c.args.rows.now e d) (slice_index_or c.loop-e.rows e d)) (all_in c.args.span e c.loop-e.e c.loop-e-test.false) (c.loop-e.invariant.rows d e lt)
