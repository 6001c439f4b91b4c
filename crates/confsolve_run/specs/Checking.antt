-- What the steps of `check` hand on. What a reader believes after this file: nothing that `run`
-- says.
use Rattle.std.specs.Prelude.{◌≡◌, true, None, List, ℕ}
use Rattle.std.specs.List.{AllByRecursion}
use Rattle.ground_form.specs.declared.ground.Ground.{Ground}
use Rattle.log_check.specs.Verdicts.{ending}
use Rattle.log_file.specs.declared.reading.FileCheck.{FileCheck}
use Rattle.log_file.specs.declared.reading.FileCheck.TheVariants as file
use Rattle.log_form.specs.Acceptance.{accepted}
use Rattle.log_form.specs.declared.line.Line.{Line}
use Rattle.model_search.specs.Findings.{finding}
use Rattle.model_search.specs.declared.finding.Finding.{Finding}
use Rattle.proof_log.specs.Spelling.{lines_text, IsLine}
use Rattle.run_status.specs.declared.status.LimitKind.TheVariants as kind
use Rattle.run_status.specs.declared.status.Status.{Status}
use Rattle.run_status.specs.declared.status.Status.TheVariants as status

-- the bytes spell lines that are accepted, and this is what they tell
pub record IsShownBy (g : Ground) (bytes : List ℕ) (told : Finding) : Type 0 where
  pub lines : List Line
  pub read : bytes ≡ lines_text lines
  pub spelled : AllByRecursion IsLine lines
  pub taken : accepted g lines ≡ true
  pub shown : told ≡ finding g (ending g lines)

abbrev pub file_status : FileCheck → Status
file_status file.ReadFault = status.ReadFault
file_status file.TooLong = status.Limit kind.Log None
file_status (file.Rejected line) = status.Rejected line
file_status file.Memory = status.Memory
