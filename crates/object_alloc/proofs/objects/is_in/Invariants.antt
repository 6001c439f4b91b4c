use Rattle.std.proofs.Common.{◌≡◌, ◌-◌, ◌<◌, length}
use Rattle.class_table.specs.Ancestry.{derives}
use Rattle.object_alloc.specs.Paths.{owner_in}
use Rattle.object_alloc.proofs.objects.is_in.Given as goal

-- what is left decides
abbrev pub invariant-loop-step : goal.invariant-loop-step
invariant-loop-step l =
    record {
      within : l.at < length l.objects;
      rest : derives (owner_in l.objects) (length l.objects - l._step) l.at l.whole ≡ derives (owner_in l.objects) (length l.objects) l.object l.whole;
    }
