use Rattle.std.proofs.Common.{rules}
use Rattle.test_search_checks.proofs.queued.Queued.new.Goals as goal

pub invariant_of-result : goal.invariant_of-result
invariant_of-result c = record {
  made = search rules;
  over = c.in_ok-queue.ensures.over;
  within = search rules;
  fits = c.in_ok-queue.ensures.fits c.in_ok-boxes.boxes.items;
}
