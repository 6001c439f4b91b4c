-- The kind of a verdict, and what it shows.
use Rattle.log_form.specs.Acceptance.{shown_by, Shown, Best, NoSolution, Open}
use Rattle.log_check.specs.declared.verdict.VerdictKind.{VerdictKind}
use Rattle.log_check.specs.declared.verdict.VerdictKind.TheVariants as kinds
use Rattle.log_check.specs.Verdicts.{Ending}

-- what they show
abbrev pub shown_of : Ending → Shown
shown_of e = shown_by e.closed e.found

abbrev pub kind_of : Shown → VerdictKind
kind_of (Best a) = kinds.Best
kind_of NoSolution = kinds.NoSolution
kind_of Open = kinds.Open
