use Rattle.std.proofs.Common.{◌≡◌, length}
use Rattle.ground_form.specs.declared.ground.Ground.{Ground}
use Rattle.prop_queue.specs.Work.{IsOver, AreKnown}
use Rattle.test_search_checks.proofs.WiderBoxes.{AreTaken}
use Rattle.test_search_checks.proofs.queued.take_over.Given as goal

abbrev pub invariant-loop-set : goal.invariant-loop-set
invariant-loop-set l = record {
  taken : AreTaken l.initial.boxes.items l.boxes.items l.initial.wider.items l.wider.items;
  rows : length l.queue.rows ≡ length l.boxes.items;
  over : (g : Ground) → IsOver g l.initial.queue → IsOver g l.queue;
  known : AreKnown l.boxes.items l.queue.clauses;
}

abbrev pub decreases-loop-set : goal.decreases-loop-set
decreases-loop-set l = length l.wider.items
