use Rattle.std.proofs.Common.{ap, sym, ◌∙◌, None}
use Rattle.object_alloc.proofs.GroupLaws.{group_found, group_changed, items_of}
use Rattle.object_alloc.proofs.groups.take_out.Goals as goal

pub returns-in-Some-clause-taken : goal.returns-in-Some-clause-taken
returns-in-Some-clause-taken c = ap items_of c.in-Some.ensures.value ∙ sym (group_found c.args.place c.args.groups.now.entries)

pub returns-in-Some-clause-left : goal.returns-in-Some-clause-left
returns-in-Some-clause-left c = group_changed c.args.place c.args.groups.now.entries c.swap_remove.new.self.entries None c.in-Some.ensures.updates.0

pub returns-in-None-clause-taken : goal.returns-in-None-clause-taken
returns-in-None-clause-taken c = c.new.ensures.items ∙ ap items_of c.in-None.ensures.value ∙ sym (group_found c.args.place c.args.groups.now.entries)

pub returns-in-None-clause-left : goal.returns-in-None-clause-left
returns-in-None-clause-left c = group_changed c.args.place c.args.groups.now.entries c.swap_remove.new.self.entries None c.in-None.ensures.updates.0
