use Rattle.std.proofs.Common.{take, get_or, ◌+◌}
use Rattle.std.proofs.lemmas.Grind.{take_at_read}
use Rattle.identity_forms.proofs.SlotLaws.{noted_step}
use Rattle.identity_forms.proofs.slots.by_owner.Goals as goal

pub loop-pair-preserved : goal.loop-pair-preserved
loop-pair-preserved c n =
    let k = c.loop-pair.pair-index in
    noted_step n c.loop-pair.noted.entries c.note.new.cells.entries (take k c.args.cells.now) (take (k + 1) c.args.cells.now) (get_or c.args.cells.now k (0, 0)) (c.loop-pair.invariant n) (c.in_ok-note.ensures n) (take_at_read c.args.cells.now k (0, 0) c.loop-pair-test.true).1
