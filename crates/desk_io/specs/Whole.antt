-- Whole files and texts where the desk stops: what is left of them.
use Rattle.std.specs.Prelude.{ℕ, ◌≤◌, ◌≡◌, ◌⊎◌, List, length, take, Option}
use Rattle.std.specs.Option.{option_map}
use Rattle.desk_io.specs.Desk.{Files, with_file, with_printed}

-- a front of the bytes was printed
abbrev pub PrintsFront : List ℕ → Option (List ℕ) → Option (List ℕ) → Type 0
PrintsFront bytes before now =
    (n : ℕ) × (n ≤ length bytes) × (now ≡ with_printed (take n bytes) before)

-- the files are as before, or the one of that name holds a front of the bytes and the others are
-- as before
abbrev pub StoresFront : List ℕ → List ℕ → Option Files → Option Files → Type 0
StoresFront name bytes before now =
    (now ≡ before)
    ⊎ ((n : ℕ) × (n ≤ length bytes) × (now ≡ option_map (with_file name (take n bytes)) before))
