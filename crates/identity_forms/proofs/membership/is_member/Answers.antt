use Rattle.std.proofs.Common.{[]}
use Rattle.form_build.proofs.Growth.{adds_nothing}
use Rattle.identity_forms.proofs.SlotLaws.{owned_slots}
use Rattle.identity_forms.proofs.membership.is_member.Goals as goal

pub is_one_of_slots-requires-clause-slots : goal.is_one_of_slots-requires-clause-slots
is_one_of_slots-requires-clause-slots c =
    owned_slots c.args.maker.now.domains c.args.listing.now c.in-Owned.x c.in-Owned.pairs c.in-Owned.slots c.deref-in-Owned.result.now c.deref-in-Owned-2.result.now c.in-Owned.is c.requires.members c.deref-in-Owned.ensures.value c.deref-in-Owned-2.ensures.value

pub returns-in_ok-t-in-All-clause-adds : goal.returns-in_ok-t-in-All-clause-adds
returns-in_ok-t-in-All-clause-adds c = adds_nothing [] c.args.maker.now
