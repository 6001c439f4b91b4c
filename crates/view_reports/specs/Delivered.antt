-- What printing a text came to.
use Rattle.std.specs.Prelude.{ℕ, ◌≡◌, Bool, true, false, List, Option, ⊤}
use Rattle.desk_io.specs.Desk.{with_printed}
use Rattle.desk_io.specs.Fault.{HasRisen}
use Rattle.desk_io.specs.Whole.{PrintsFront}
use Rattle.view_reports.specs.declared.status.Status.{Status as Ended}
use Rattle.view_reports.specs.declared.status.Status.TheVariants.{Whole, Broken, WriteFault, Memory}

abbrev pub IsDelivered : List ℕ → Bool → Option (List ℕ) → Option (List ℕ) → ℕ → ℕ → Ended → Type 0
IsDelivered text found before now writes writes_now Whole =
    (found ≡ false) × (now ≡ with_printed text before)
IsDelivered text found before now writes writes_now Broken =
    (found ≡ true) × (now ≡ with_printed text before)
IsDelivered text found before now writes writes_now WriteFault =
    PrintsFront text before now × HasRisen writes writes_now
IsDelivered text found before now writes writes_now Memory = ⊤
IsDelivered text found before now writes writes_now s = ⊥
