use Rattle.stated_rows.proofs.ShareLaws.{flag_share}
use Rattle.stated_rows.proofs.shares.flag_load.Goals as goal

pub returns-then-t-gt0 : goal.returns-then-t-gt0
returns-then-t-gt0 c = flag_share c.args.maker.now c.in_ok-x.x c.args.bin c.args.t c.factor_of.result c.in_ok-x.ensures c.factor_of.ensures
