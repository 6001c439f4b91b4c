use Rattle.std.proofs.Common.{get_or, refl}
use Rattle.goal_rows.proofs.PartLaws.{exist_more, fewer_more}
use Rattle.goal_rows.proofs.parts.items_among.Goals as goal

pub loop-s-preserved : goal.loop-s-preserved
loop-s-preserved c =
    let s = get_or c.args.items.now c.loop-s.s-index (0, 0) in
    record {
      exist = exist_more c.args.items.now c.loop-s.out.items c.push_among.new.out.items s c.loop-s.s-index c.loop-s-test.true refl c.in_ok-push_among.ensures c.loop-s.invariant.exist;
      fewer = fewer_more c.args.items.now c.loop-s.out.items c.push_among.new.out.items s c.loop-s.s-index c.loop-s-test.true refl c.in_ok-push_among.ensures c.loop-s.invariant.fewer;
    }
