use Rattle.std.proofs.Common.{◌≡◌, ◌-◌, ◌<◌, ◌≤◌, None, length, take, vec_len}
use Rattle.log_check.specs.Fed.{HasTaken}
use Rattle.log_file.proofs.WholeFile.{OfAny}
use Rattle.log_file.proofs.reading.check_file.Given as goal

-- how far the file was read, what the checker has taken of it, and what the desk keeps
abbrev pub invariant-loop-buffer : goal.invariant-loop-buffer
invariant-loop-buffer g l =
    let d = g.D.Desk in
    record {
      room : 0 < vec_len l.buffer;
      fed : l.c.fed ≡ l.done;
      within : l.done ≤ l.limit;
      unrefused : l.c.refusal ≡ None;
      ground : l.c.ground ≡ l.fn.c.ground;
      taken : OfAny (d.files l.fn.desk) l.name
          (λ file. HasTaken l.fn.c.ground (take l.done file) l.c.left);
      front : OfAny (d.files l.fn.desk) l.name (λ file. l.done ≤ length file);
      files : d.files l.desk ≡ d.files l.fn.desk;
      printed : d.printed l.desk ≡ d.printed l.fn.desk;
      read_faults : d.read_faults l.fn.desk ≤ d.read_faults l.desk;
      write_faults : d.write_faults l.desk ≡ d.write_faults l.fn.desk;
      may_read : d.may_read l.desk ≡ d.may_read l.fn.desk;
      may_write : d.may_write l.desk ≡ d.may_write l.fn.desk;
    }

abbrev pub decreases-loop-buffer : goal.decreases-loop-buffer
decreases-loop-buffer g l = l.limit - l.done
