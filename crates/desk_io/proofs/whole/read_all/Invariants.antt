use Rattle.std.proofs.Common.{◌≡◌, ◌≤◌, length, ◌+◌, ◌-◌}
use Rattle.desk_io.proofs.Pieces.{Known}
use Rattle.desk_io.proofs.whole.read_all.Given as goal

-- what is known of the file, and what the desk keeps
abbrev pub invariant-loop-desk : goal.invariant-loop-desk
invariant-loop-desk g l =
    let d = g.D.Desk in
    record {
      known : Known (d.files l.fn.desk) l.name l.bytes.items;
      files : d.files l.desk ≡ d.files l.fn.desk;
      printed : d.printed l.desk ≡ d.printed l.fn.desk;
      read_faults : d.read_faults l.fn.desk ≤ d.read_faults l.desk;
      write_faults : d.write_faults l.desk ≡ d.write_faults l.fn.desk;
      may_read : d.may_read l.desk ≡ d.may_read l.fn.desk;
      may_write : d.may_write l.desk ≡ d.may_write l.fn.desk;
    }

abbrev pub decreases-loop-desk : goal.decreases-loop-desk
decreases-loop-desk g l = l.limit + 1 - length l.bytes.items
