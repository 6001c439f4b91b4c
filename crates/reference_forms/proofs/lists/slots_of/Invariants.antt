use Rattle.std.proofs.Common.{◌≡◌, ◌++◌, drop, map}
use Rattle.reference_forms.specs.Lists.{slots_from, slot_view}
use Rattle.reference_forms.proofs.lists.slots_of.Given as goal

-- with those of what is left they are all
abbrev pub invariant-loop-i : goal.invariant-loop-i
invariant-loop-i l = map slot_view l.slots.items ++ slots_from l.objects l.k l.pairs l.i (drop l.i l.members) ≡ slots_from l.objects l.k l.pairs 0 l.members
