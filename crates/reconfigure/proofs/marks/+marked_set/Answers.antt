use Rattle.std.proofs.Common.{◌/◌, length, arith}
use Rattle.reconfigure.proofs.MarkLaws.{marked_both}
use Rattle.reconfigure.proofs.marks.+marked_set.Goals as goal

pub returns-in_ok-all-in_default : goal.returns-in_ok-all-in_default
returns-in_ok-all-in_default t c v =
    marked_both (length c.args.marks.now / 2) c.args.first c.args.marks.now v c.in_ok-front-in_default.front c.in_ok-back-in_default.back c.in_ok-all-in_default.all
    (omega arith) (c.in_ok-front-in_default.ensures v) (c.in_ok-back-in_default.ensures v) (c.in_ok-all-in_default.ensures.values v)
