-- Why a step that reads a file gave nothing. What a reader believes after this file: that reading
-- failed, or what else it was.
use Rattle.std.specs.Prelude.{◌≡◌, ◌⊎◌, ℕ}
use Rattle.desk_io.specs.Fault.{HasRisen}
use Rattle.run_status.specs.Stages.{Denied}
use Rattle.run_status.specs.declared.status.Status.{Status}
use Rattle.run_status.specs.declared.status.Status.TheVariants as status

-- it is denied, or reading failed
abbrev pub Unreadable : ℕ → ℕ → Status → Type 0 → Type 0
Unreadable reads reads_now s P = ((s ≡ status.ReadFault) × HasRisen reads reads_now) ⊎ Denied s P
