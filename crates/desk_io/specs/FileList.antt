-- Files that are kept as a list of names and bytes.
use Rattle.std.specs.Prelude.{ℕ, List, [], ◌∷◌, Bool, Option, Some, None, Vec, String, string_bytes, if◌then◌else◌, unwrap_or, bytes_eq}
use Rattle.std.specs.List.{position_from}
use Rattle.std.specs.declared.alloc.Global.{Global}
use Rattle.desk_io.specs.Desk.{Files}

-- a file: its name and its bytes
abbrev pub Stored : Type 0
Stored = String Global × Vec ℕ Global

abbrev pub is_named : List ℕ → Stored → Bool
is_named name file = bytes_eq (string_bytes file.0) name

-- the bytes of the first file of each name
abbrev pub stored : List Stored → Files
stored [] name = None
stored (file ∷ files) name = if is_named name file then Some file.1.items else stored files name

-- the place of the first file of that name
abbrev pub place_in : List ℕ → List Stored → Option ℕ
place_in name files = position_from (is_named name) 0 files

-- the bytes of a file, where a missing file counts as empty
abbrev pub bytes_of : Files → List ℕ → List ℕ
bytes_of files name = unwrap_or (files name) []

-- the same files, and an empty one under every other name
abbrev pub steady : Files → Files
steady files = λ name. Some (bytes_of files name)
