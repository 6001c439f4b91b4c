use Rattle.std.proofs.Common.{ℕ, ℤ, pos, get_or, refl}
use Rattle.stated_rows.proofs.LoadLaws.{elsewhere_next}
use Rattle.stated_rows.proofs.packings.are_away.Goals as goal

pub loop-load-preserved : goal.loop-load-preserved
loop-load-preserved c =
    let d : ℕ × ℤ = (0, pos 0) in
    let load = get_or c.args.loads.now c.loop-load.load-index d in
    elsewhere_next c.args.maker.now c.args.bin.value c.args.loads.now c.loop-load.load-index d load c.loop-load-test.true refl (c.is_away.ensures c.if-not-is_away.false) c.loop-load.invariant
