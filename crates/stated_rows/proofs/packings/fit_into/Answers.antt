use Rattle.std.proofs.Common.{ℕ, ℤ, pos, get_or, refl}
use Rattle.stated_rows.proofs.LoadLaws.{left_next}
use Rattle.stated_rows.proofs.packings.fit_into.Goals as goal

pub loop-load-preserved : goal.loop-load-preserved
loop-load-preserved c =
    let d : ℕ × ℤ = (0, pos 0) in
    let load = get_or c.args.loads.now c.loop-load.load-index d in
    record {
      some = c.in-Some.ensures.some;
      left = left_next c.args.loads.now c.args.room.value c.loop-load.left.value c.in-Some.rest.value c.loop-load.load-index d load c.loop-load-test.true refl c.in-Some.ensures.size c.in-Some.ensures.left c.loop-load.invariant.left;
    }
