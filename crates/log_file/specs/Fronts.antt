-- How a checker stands to a file of which it was fed a front. What a reader believes after this
-- file: pieces that are read one behind the other make longer and longer fronts of one file.
use Rattle.std.specs.Prelude.{ℕ, ◌≡◌, ◌+◌, ◌≤◌, ◌↔◌, List, length, take}
use Rattle.ground_form.specs.declared.ground.Ground.{Ground}
use Rattle.desk_io.specs.declared.desk.DeskError.{DeskError}
use Rattle.desk_io.specs.declared.desk.DeskError.TheVariants as desk
use Rattle.log_check.specs.Fed.{Left, HasTaken}
use Rattle.log_check.specs.declared.lines.CheckError.{CheckError}
use Rattle.log_check.specs.declared.lines.CheckError.TheVariants as check
use Rattle.log_file.specs.declared.reading.FileCheck.{FileCheck}
use Rattle.log_file.specs.declared.reading.FileCheck.TheVariants.{ReadFault, Rejected, Memory}

abbrev pub desk_cause : DeskError → FileCheck
desk_cause desk.Failed = ReadFault
desk_cause desk.Memory = Memory

abbrev pub check_cause : CheckError → FileCheck
check_cause (check.Rejected line) = Rejected line
check_cause check.Memory = Memory

-- n bytes more were taken behind the first ones, and none only at the file's end
pub record TakesOn (g : Ground) (file : List ℕ) (done n : ℕ) (old new : Left) : Type 0 where
  pub within : done ≤ length file → done + n ≤ length file
  pub taken : HasTaken g (take done file) old → HasTaken g (take (done + n) file) new
  pub end : (n ≡ 0) ↔ (length file ≤ done)
