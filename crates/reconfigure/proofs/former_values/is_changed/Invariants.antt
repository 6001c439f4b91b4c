use Rattle.std.proofs.Common.{◌≡◌, drop}
use Rattle.object_alloc.specs.Changes.{is_changed}
use Rattle.reconfigure.proofs.former_values.is_changed.Given as goal

-- what is left decides
abbrev pub invariant-loop-i : goal.invariant-loop-i
invariant-loop-i l = is_changed (drop l.i l.hints) (drop l.i l.values) ≡ is_changed l.hints l.values
