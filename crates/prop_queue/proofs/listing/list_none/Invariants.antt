use Rattle.std.proofs.Common.{◌≡◌, length}
use Rattle.prop_queue.proofs.listing.list_none.Given as goal

abbrev pub invariant-loop : goal.invariant-loop
invariant-loop l = length l.listing.marks ≡ length l.initial.listing.marks

abbrev pub decreases-loop : goal.decreases-loop
decreases-loop l = length l.listing.order
