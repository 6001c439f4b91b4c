use Rattle.std.proofs.Common.{rules}
use Rattle.prop_queue.specs.Urgencies.{order_of}
use Rattle.prop_queue.proofs.MarkLaws.{kept_rest}
use Rattle.prop_queue.proofs.listing.Listing.unlist_first.Goals as goal

pub invariant_of-self : goal.invariant_of-self
invariant_of-self c =
    let q = c.self.inside in
    let h = c.self.invariant in
    let kept = kept_rest q.marks.items c.set_mark.new.marks.items (order_of q.lists)
    (order_of c.pop.new.self) c.in-Some.k h.0 c.in-Some.ensures.some c.set_mark.ensures in
    (kept, search rules, search rules, search rules)
