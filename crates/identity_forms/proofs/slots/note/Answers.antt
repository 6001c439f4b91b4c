use Rattle.std.proofs.Common.{◌∙◌, not, ap, nat_eq}
use Rattle.std.specs.Map.{lookup}
use Rattle.identity_forms.proofs.SlotLaws.{noted_still, noted_more, none_found, some_found}
use Rattle.identity_forms.proofs.slots.note.Goals as goal

pub returns-in_ok-insert : goal.returns-in_ok-insert
returns-in_ok-insert c =
    noted_more c.args.owner c.args.cell c.args.cells.now.entries c.insert.new.self.entries
    (none_found c.get.result (lookup (nat_eq c.args.owner) c.args.cells.now.entries) c.get.ensures.value (c.is_none.ensures ∙ ap not c.if-is_none.true)) c.in_ok-insert.ensures.updates.0

pub returns-else-is_none : goal.returns-else-is_none
returns-else-is_none c =
    let found = some_found c.get.result (lookup (nat_eq c.args.owner) c.args.cells.now.entries) c.get.ensures.value (c.is_none.ensures ∙ ap not c.if-is_none.false) in
    noted_still c.args.owner c.args.cell found.0 c.args.cells.now.entries found.1
