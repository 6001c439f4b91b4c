-- A writer of rows that has come to the end of one.
use Rattle.std.specs.Prelude.{ℕ, ◌≡◌, false, List, Some, Vec}
use Rattle.csv.specs.Writing.{default_writer, writer_setup, fields_written, has_written, text_written}
use Rattle.csv.specs.declared.writer.Writer.{Writer}

-- this text was written, and the next row may begin
pub record IsWritten {A : Type 0} (text : List ℕ) (w : Writer (Vec ℕ A)) : Type 0 where
  pub text_is : text_written (λ (v : Vec ℕ A). Some v.items) w ≡ Some text
  pub setup : writer_setup w ≡ default_writer
  pub none : fields_written w ≡ 0
  pub clean : has_written w ≡ false
