use Rattle.stated_rows.proofs.LoadLaws.{put_anywhere}
use Rattle.stated_rows.proofs.reading.put_load.Goals as goal

pub returns : goal.returns
returns c bin a = put_anywhere bin (c.args.x, c.args.size.value) c.args.loads.now.items c.insert_load.new.loads.items c.place_for-at.result a c.in_ok-insert_load.ensures
