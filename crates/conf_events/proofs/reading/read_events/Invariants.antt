use Rattle.std.proofs.Common.{◌≡◌, ◌+◌, ◌≤◌, ◌++◌, [], length}
use Rattle.std.specs.Prelude.{IsSome}
use Rattle.std.specs.List.{All}
use Rattle.object_alloc.specs.Paths.{object_named}
use Rattle.command_limits.specs.Limits.{most_events}
use Rattle.conf_events.specs.Texts.{ended, unended, bad_from, bad_line, events_of}
use Rattle.conf_events.proofs.reading.read_events.Given as goal

-- what is left decides, and gives the events that are missing
abbrev pub invariant-loop-rest : goal.invariant-loop-rest
invariant-loop-rest l = record {
  good : bad_from l.objects (length l.events.items + 1) (ended [] l.rest) (unended [] l.rest) ≡ bad_line l.objects l.bytes;
  events : l.events.items ++ events_of l.objects l.rest ≡ events_of l.objects l.bytes;
  few : length l.events.items ≤ most_events;
  named : All (λ e. IsSome (object_named l.objects e.path)) l.events.items;
}

abbrev pub decreases-loop-rest : goal.decreases-loop-rest
decreases-loop-rest l = length l.rest
