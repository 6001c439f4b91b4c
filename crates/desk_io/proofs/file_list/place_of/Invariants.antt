use Rattle.std.proofs.Common.{◌≡◌, drop}
use Rattle.std.specs.List.{position_from}
use Rattle.desk_io.specs.FileList.{is_named, place_in}
use Rattle.desk_io.proofs.file_list.place_of.Given as goal

-- the first place among the files that are left is the first among all
abbrev pub invariant-loop-place : goal.invariant-loop-place
invariant-loop-place l = position_from (is_named l.name) l.place (drop l.place l.files) ≡ place_in l.name l.files
