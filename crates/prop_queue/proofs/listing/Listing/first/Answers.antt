use Rattle.std.proofs.Common.{◌<◌, length, subst}
use Rattle.std.specs.Option.{IfSome}
use Rattle.prop_queue.specs.Lists.{Listed}
use Rattle.prop_queue.specs.Urgencies.{order_of}
use Rattle.prop_queue.proofs.MarkLaws.{first_there}
use Rattle.prop_queue.proofs.listing.Listing.first.Goals as goal

pub returns-clause-there : goal.returns-clause-there
returns-clause-there c =
    let q = c.self.inside in
    let kept = c.self.invariant.0 in
    let there = first_there q.marks.items (order_of q.lists) c.front.result kept c.front.ensures in
    subst (λ (v : Listed). IfSome c.front.result (λ k. k < length v.marks)) c.self.view_is there
