-- When lines are refused.
use Rattle.std.specs.Prelude.{List}
use Rattle.ground_form.specs.declared.ground.Ground.{Ground}
use Rattle.log_form.specs.declared.line.Line.{Line}
use Rattle.log_form.specs.Acceptance.{FailsFirst}
use Rattle.log_check.specs.declared.lines.CheckError.{CheckError}
use Rattle.log_check.specs.declared.lines.CheckError.TheVariants.{Rejected, Memory}

-- a refusal names the first line that fails; want of memory says nothing of the lines
abbrev pub IsRefusedAs : Ground → List Line → CheckError → Type 0
IsRefusedAs g ls (Rejected n) = FailsFirst g ls n
IsRefusedAs g ls Memory = Unit {0}
