-- What delivering an answer leaves outside. What a reader believes after this file: nothing that
-- `run` says.
use Rattle.std.specs.Prelude.{◌≡◌, ◌⊎◌, List, Option, None, Some, ℕ}
use Rattle.std.specs.Option.{option_map}
use Rattle.desk_io.specs.Desk.{Files, with_file}
use Rattle.desk_io.specs.Whole.{PrintsFront, StoresFront}
use Rattle.run_promise.specs.Delivery.{Outside}

-- the files with a log of this text under this name, where there are both
abbrev pub stored : Option (List ℕ) → Option (List ℕ) → Option Files → Option Files
stored (Some name) (Some log) files = option_map (with_file name log) files
stored (Some name) None files = files
stored None log files = files

abbrev pub StoresSome : Option (List ℕ) → Option (List ℕ) → Option Files → Option Files → Type 0
StoresSome (Some name) (Some log) before now = StoresFront name log before now
StoresSome (Some name) None before now = now ≡ before
StoresSome None log before now = now ≡ before

-- writing broke off: within the log, or behind it, within the text
abbrev pub IsToldBroken : Option (List ℕ) → Option (List ℕ) → List ℕ → Outside → Outside → Type 0
IsToldBroken name log text before now =
    ((now.printed ≡ before.printed) × StoresSome name log before.files now.files)
    ⊎ ((now.files ≡ stored name log before.files) × PrintsFront text before.printed now.printed)
