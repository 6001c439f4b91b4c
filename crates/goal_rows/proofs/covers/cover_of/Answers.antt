use Rattle.std.proofs.Common.{arith, sym}
use Rattle.goal_rows.proofs.CoverLaws.{cover_follows}
use Rattle.goal_rows.proofs.covers.cover_of.Goals as goal

pub returns : goal.returns
returns c =
    let cover = rw c.in-Some.is at c.in_ok-cover.ensures in
    record {
      linear = cover.linear;
      adds = λ e. cover_follows c.args.maker.now c.args.x c.in-Some.cover cover (sym c.if-not-is_empty.ensures.list);
      takes = λ e. absurd (grind (arith, e));
    }
