use Rattle.std.proofs.Common.{◌∙◌}
use Rattle.identity_forms.proofs.SameLaws.{mapped_among}
use Rattle.identity_forms.proofs.same.same_by_map.Goals as goal

pub same_among-requires-clause-among : goal.same_among-requires-clause-among
same_among-requires-clause-among c =
    mapped_among c.args.maker.now.domains c.args.c.now c.in_ok-c_groups.c_groups.entries c.deref.result.now c.requires.mapped c.requires.left c.in_ok-c_groups.ensures (c.deref.ensures.value ∙ c.in_ok-objects.ensures)
