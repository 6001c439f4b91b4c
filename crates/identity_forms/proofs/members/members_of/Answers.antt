use Rattle.std.proofs.Common.{[]}
use Rattle.form_build.proofs.Growth.{adds_nothing}
use Rattle.identity_forms.proofs.SlotLaws.{owned_slots}
use Rattle.identity_forms.proofs.members.members_of.Goals as goal

pub owned_members-requires-clause-slots : goal.owned_members-requires-clause-slots
owned_members-requires-clause-slots c =
    owned_slots c.args.maker.now.domains c.args.listing c.in-Owned.x c.in-Owned.pairs c.in-Owned.slots c.deref-in-Owned.result.now c.deref-in-Owned-2.result.now c.in-Owned.is c.requires.members c.deref-in-Owned.ensures.value c.deref-in-Owned-2.ensures.value

pub returns-in_ok-members-in-All-clause-adds : goal.returns-in_ok-members-in-All-clause-adds
returns-in_ok-members-in-All-clause-adds c = adds_nothing [] c.args.maker.now

pub returns-in-Some-clause-adds : goal.returns-in-Some-clause-adds
returns-in-Some-clause-adds c = adds_nothing [] c.args.maker.now
