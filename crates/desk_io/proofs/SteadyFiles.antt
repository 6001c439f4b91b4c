-- What is written to files that count as empty where they are missing.
use Rattle.std.proofs.Common.{◌≡◌, ℕ, List, [], Bool, true, false, Option, Some, ◌++◌, cond, refl, ◌∙◌, ap, bytes_eq, unwrap_or}
use mathlib.Core.Path.{fun_ext}
use Rattle.desk_io.specs.Desk.{Files, with_file, with_more}
use Rattle.desk_io.specs.FileList.{bytes_of, steady}

in_each_case :
    (b : Bool) (bytes : List ℕ) (before : Option (List ℕ))
    → Some (unwrap_or (cond b (Some bytes) before) []) ≡ cond b (Some bytes) (Some (unwrap_or before []))
in_each_case true bytes before = refl
in_each_case false bytes before = refl

steady-with_file :
    (name bytes : List ℕ) (files : Files)
    → steady (with_file name bytes files) ≡ with_file name bytes (steady files)
steady-with_file name bytes files =
    fun_ext (λ other. in_each_case (bytes_eq name other) bytes (files other))

-- files that were written, where a missing file counts as empty
pub steady_made :
    (name bytes : List ℕ) (new old : Files) → new ≡ with_file name bytes old
    → steady new ≡ with_file name bytes (steady old)
steady_made name bytes new old e = ap steady e ∙ steady-with_file name bytes old

pub steady_more :
    (name piece : List ℕ) (new old : Files) → new ≡ with_more name piece old
    → steady new ≡ with_more name piece (steady old)
steady_more name piece new old e = steady_made name (bytes_of old name ++ piece) new old e
