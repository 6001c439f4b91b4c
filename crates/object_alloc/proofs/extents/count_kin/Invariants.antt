use Rattle.std.proofs.Common.{◌≡◌, ◌-◌, ◌<◌, length}
use Rattle.class_table.specs.Scopes.{HasRanks}
use Rattle.object_alloc.proofs.ExtentLaws.{Counts}
use Rattle.object_alloc.proofs.extents.count_kin.Given as goal

abbrev pub invariant-loop-step : goal.invariant-loop-step
invariant-loop-step l =
    record {
      class : l.at < length l.table.classes;
      count : length l.sizes ≡ length l.table.classes;
      counts : (ranks : HasRanks l.table.classes) → Counts l.table.classes ranks l.class l.at (length l.table.classes - l._step) l.fn.sizes l.sizes;
    }
