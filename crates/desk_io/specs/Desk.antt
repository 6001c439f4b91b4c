-- What the calls of a desk do to its files and to what it has printed, where it tells them.
use Rattle.std.specs.Prelude.{ℕ, ◌≤◌, ◌≡◌, ◌↔◌, List, [], ◌++◌, length, take, drop, Option, Some, if◌then◌else◌, IfSome, unwrap_or, bytes_eq}
use Rattle.std.specs.Option.{option_map}

-- the bytes of each file that there is, by the bytes of its name
abbrev pub Files : Type 0
Files = List ℕ → Option (List ℕ)

-- the same files with these bytes under this name
abbrev pub with_file : List ℕ → List ℕ → Files → Files
with_file name bytes files = λ other. if bytes_eq name other then Some bytes else files other

-- these bytes at the end of the file, which is made if there is none
abbrev pub with_more : List ℕ → List ℕ → Files → Files
with_more name bytes files = with_file name (unwrap_or (files name) [] ++ bytes) files

-- these bytes behind what was printed, where that is told
abbrev pub with_printed : List ℕ → Option (List ℕ) → Option (List ℕ)
with_printed bytes printed = option_map (λ before. before ++ bytes) printed

-- where files are told, the file is there and P holds of its bytes
abbrev pub OfFile : Option Files → List ℕ → (List ℕ → Type 0) → Type 0
OfFile told name P = IfSome told (λ files. (bytes : List ℕ) × (files name ≡ Some bytes) × P bytes)

-- the first n bytes of buf are those of the file from a place on, and none only at its end
pub record ReadsAt (file : List ℕ) (at n : ℕ) (buf : List ℕ) : Type 0 where
  pub bytes : take n buf ≡ take n (drop at file)
  pub within : n ≤ length (drop at file)
  pub end : (n ≡ 0) ↔ (length file ≤ at)
