use Rattle.std.proofs.Common.{◌≡◌, ◌≤◌, length, take, ◌-◌}
use Rattle.std.specs.Option.{option_map}
use Rattle.desk_io.specs.Desk.{with_file}
use Rattle.desk_io.proofs.whole.store_all.Given as goal

-- the file holds the front of the bytes
abbrev pub invariant-loop-done : goal.invariant-loop-done
invariant-loop-done g l =
    let d = g.D.Desk in
    record {
      within : l.done ≤ length l.bytes;
      stored : d.files l.desk ≡ option_map (with_file l.name (take l.done l.bytes)) (d.files l.fn.desk);
      printed : d.printed l.desk ≡ d.printed l.fn.desk;
      write_faults : d.write_faults l.fn.desk ≤ d.write_faults l.desk;
      read_faults : d.read_faults l.desk ≡ d.read_faults l.fn.desk;
      may_read : d.may_read l.desk ≡ d.may_read l.fn.desk;
      may_write : d.may_write l.desk ≡ d.may_write l.fn.desk;
    }

abbrev pub decreases-loop-done : goal.decreases-loop-done
decreases-loop-done g l = length l.bytes - l.done
