use Rattle.stated_rows.proofs.LoadLaws.{share_more}
use Rattle.stated_rows.proofs.reading.with_share.Goals as goal

pub returns-in_ok-put_load-in-Load : goal.returns-in_ok-put_load-in-Load
returns-in_ok-put_load-in-Load c bin a = share_more bin c.args.s c.in-Load.x c.in-Load.size c.args.r.loads.items c.put_load.new.loads.items c.args.r.least.value a c.in-Load.is (c.in_ok-put_load-in-Load.ensures bin a)
