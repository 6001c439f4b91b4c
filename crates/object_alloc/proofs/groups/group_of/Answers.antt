use Rattle.std.proofs.Common.{ap, sym, ◌∙◌}
use Rattle.object_alloc.proofs.GroupLaws.{group_found, items_of}
use Rattle.object_alloc.proofs.groups.group_of.Goals as goal

pub returns-in-Some : goal.returns-in-Some
returns-in-Some c = record { group = c.deref.ensures.value ∙ ap items_of c.in-Some.ensures.value ∙ sym (group_found c.args.place c.args.groups.now.entries) }

pub returns-in-None : goal.returns-in-None
returns-in-None c = record { group = ap items_of c.in-None.ensures.value ∙ sym (group_found c.args.place c.args.groups.now.entries) }
