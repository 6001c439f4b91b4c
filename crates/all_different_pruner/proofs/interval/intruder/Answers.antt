use Rattle.std.proofs.Common.{get_or, refl, sym, ◌∙◌}
use Rattle.all_different_pruner.proofs.Totals.{stands_get, outside_step}
use Rattle.all_different_pruner.proofs.interval.intruder.Goals as goal

pub returns-then-not-is_outside-clause-some : goal.returns-then-not-is_outside-clause-some
returns-then-not-is_outside-clause-some c = record {
  order = c.requires.order;
  full = c.requires.full;
  there = stands_get c.loop-x.x-index c.args.vars.now c.loop-x-test.true;
  reaches = sym c.is_outside.ensures ∙ c.if-not-is_outside.true;
}

pub loop-x-preserved : goal.loop-x-preserved
loop-x-preserved c rest =
    c.loop-x.invariant (outside_step c.args.a.value c.args.b.value c.args.vars.now c.args.boxes.now c.loop-x.x-index (get_or c.args.vars.now c.loop-x.x-index 0) c.loop-x-test.true refl
    (sym c.is_outside.ensures ∙ c.if-not-is_outside.false) rest)
