-- A file that is written piece by piece.
use Rattle.std.proofs.Common.{◌≡◌, ℕ, ◌+◌, ◌-◌, ◌≤◌, List, [], ◌++◌, length, take, drop, Bool, true, false, Option, Some, None, cond, refl, sym, ◌∙◌, ap, take-add, bytes_eq, unwrap_or}
use Rattle.std.proofs.lemmas.List.{take_all}
use Rattle.std.specs.Option.{option_map}
use mathlib.Core.Path.{fun_ext}
use Rattle.desk_io.specs.Desk.{Files, with_file, with_more}
use Rattle.desk_io.proofs.Pieces.{behind}
use Rattle.desk_io.proofs.Names.{same_name}

written_twice :
    (b : Bool) (first second before : Option (List ℕ))
    → cond b second (cond b first before) ≡ cond b second before
written_twice true first second before = refl
written_twice false first second before = refl

-- more bytes behind those of a file that was written just before
with_more-with_file :
    (name front more : List ℕ) (files : Files)
    → with_more name more (with_file name front files) ≡ with_file name (front ++ more) files
with_more-with_file name front more files = fun_ext (λ other.
    ap (λ b. cond (bytes_eq name other) (Some (unwrap_or (cond b (Some front) (files name)) [] ++ more)) (cond (bytes_eq name other) (Some front) (files other))) (same_name name)
    ∙ written_twice (bytes_eq name other) (Some front) (Some (front ++ more)) (files other))

longer :
    (name bytes : List ℕ) (before : Option Files) (done n : ℕ)
    → option_map (with_more name (take n (drop done bytes))) (option_map (with_file name (take done bytes)) before) ≡ option_map (with_file name (take (done + n) bytes)) before
longer name bytes None done n = refl
longer name bytes (Some files) done n =
    ap Some (with_more-with_file name (take done bytes) (take n (drop done bytes)) files ∙ ap (λ xs. with_file name xs files) (sym (take-add done n bytes)))

-- a piece that was added behind the front makes a longer front
pub stored_more :
    (name bytes : List ℕ) (before mid after : Option Files) (done n : ℕ)
    → mid ≡ option_map (with_file name (take done bytes)) before
    → after ≡ option_map (with_more name (take n (take (length bytes - done) (drop done bytes)))) mid
    → after ≡ option_map (with_file name (take (done + n) bytes)) before
stored_more name bytes before mid after done n front piece =
    piece
    ∙ ap (λ xs. option_map (with_more name (take n xs)) mid) (behind done bytes)
    ∙ ap (option_map (with_more name (take n (drop done bytes)))) front
    ∙ longer name bytes before done n

-- no byte is left to write
pub stored_all :
    (name bytes : List ℕ) (before : Option Files) (done : ℕ) → length bytes ≤ done
    → option_map (with_file name (take done bytes)) before ≡ option_map (with_file name bytes) before
stored_all name bytes before done le =
    ap (λ xs. option_map (with_file name xs) before) (take_all done bytes le)
