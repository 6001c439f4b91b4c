use Rattle.std.proofs.Common.{rules}
use Rattle.desk_io.proofs.Pieces.{known_more}
use Rattle.desk_io.proofs.whole.read_all.Goals as goal

pub loop-desk-preserved : goal.loop-desk-preserved
loop-desk-preserved g c = record {
  known = known_more (g.D.Desk.files c.args.desk.now) _ _ c.loop-desk.bytes.items c.read_more.new.bytes.items _ c.loop-desk.invariant.files c.loop-desk.invariant.known c.in_ok-read_more.ensures.read;
  files = search rules;
  printed = search rules;
  read_faults = search rules;
  write_faults = search rules;
  may_read = search rules;
  may_write = search rules;
}
