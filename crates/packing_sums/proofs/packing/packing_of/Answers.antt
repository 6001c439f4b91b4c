use Rattle.std.proofs.Common.{subst}
use Rattle.signed_clause.specs.Clauses.{Boxes}
use Rattle.packing_sums.specs.Packings.{AreItemsOf}
use Rattle.packing_sums.proofs.PackingLaws.{items_exist, items_fit}
use Rattle.packing_sums.proofs.packing.packing_of.Goals as goal

pub with_items-requires-clause-exist : goal.with_items-requires-clause-exist
with_items-requires-clause-exist c =
    items_exist c.args.maker.now.domains c.in-Some.room c.args.items.now c.in-Some-2.items.items
    (subst (λ (z : Boxes). AreItemsOf z c.in-Some.room c.args.items.now c.in-Some-2.items.items) c.domains-2.ensures.items (rw c.in-Some-2.is at c.in_ok-items.ensures))

pub with_items-requires-clause-fits : goal.with_items-requires-clause-fits
with_items-requires-clause-fits c =
    items_fit c.args.maker.now c.in-Some.room c.args.items.now c.in-Some-2.items.items c.requires
    (subst (λ (z : Boxes). AreItemsOf z c.in-Some.room c.args.items.now c.in-Some-2.items.items) c.domains-2.ensures.items (rw c.in-Some-2.is at c.in_ok-items.ensures))
