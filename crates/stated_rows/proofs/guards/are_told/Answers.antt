use Rattle.std.proofs.Common.{ℕ, ℤ, pos, get_or, refl}
use Rattle.stated_rows.proofs.LoadLaws.{told_next}
use Rattle.stated_rows.proofs.guards.are_told.Goals as goal

pub loop-load-preserved : goal.loop-load-preserved
loop-load-preserved c =
    let d : ℕ × ℤ = (0, pos 0) in
    let load = get_or c.args.loads.now c.loop-load.load-index d in
    record {
      left = λ a h. c.in-Some.ensures.rest a (c.loop-load.invariant.left a h);
      away = λ a h. told_next c.args.bin.value c.args.loads.now c.loop-load.load-index d load a c.loop-load-test.true refl (c.in-Some.ensures.told a (c.loop-load.invariant.left a h)) (c.loop-load.invariant.away a h);
    }
