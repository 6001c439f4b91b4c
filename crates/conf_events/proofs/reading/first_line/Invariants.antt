use Rattle.std.proofs.Common.{◌≡◌, [], take, drop}
use Rattle.conf_events.specs.Texts.{ended, unended}
use Rattle.conf_events.proofs.reading.first_line.Given as goal

-- the line so far is what was passed
abbrev pub invariant-loop-i : goal.invariant-loop-i
invariant-loop-i l = record {
  ended : ended (take l.i l.bytes) (drop l.i l.bytes) ≡ ended [] l.bytes;
  unended : unended (take l.i l.bytes) (drop l.i l.bytes) ≡ unended [] l.bytes;
}
