-- How whole files stand to the pieces that a desk gives, and which error hands on which.
use Rattle.std.specs.Prelude.{ℕ, ◌≤◌, ◌≡◌, ◌↔◌, ◌++◌, List, length, take, drop}
use Rattle.desk_io.specs.declared.desk.DeskError.{DeskError}
use Rattle.desk_io.specs.declared.desk.DeskError.TheVariants.{Failed, Memory}
use Rattle.desk_io.specs.declared.whole.ReadError.{ReadError}
use Rattle.desk_io.specs.declared.whole.ReadError.TheVariants as read
use Rattle.desk_io.specs.declared.whole.WriteError.{WriteError}
use Rattle.desk_io.specs.declared.whole.WriteError.TheVariants as write

abbrev pub read_error_of : DeskError → ReadError
read_error_of Failed = read.ReadFault
read_error_of Memory = read.Memory

abbrev pub write_error_of : DeskError → WriteError
write_error_of Failed = write.WriteFault
write_error_of Memory = write.Memory

-- n more bytes of the file stand behind those that were read before, and none only at its end
pub record ReadsBehind (file : List ℕ) (n : ℕ) (before now : List ℕ) : Type 0 where
  pub items : now ≡ before ++ take n (drop (length before) file)
  pub end : (n ≡ 0) ↔ (length file ≤ length before)
