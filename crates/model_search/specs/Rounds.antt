-- Closed rounds of a journal. What a reader believes after this file: what the lines of a round
-- tell, and with which verdict.
use Rattle.std.specs.Prelude.{[], List, Some}
use Rattle.ground_form.specs.declared.ground.Ground.{Ground}
use Rattle.log_check.specs.Verdicts.{ending}
use Rattle.log_check.specs.declared.verdict.VerdictKind.{VerdictKind}
use Rattle.log_check.specs.declared.verdict.VerdictKind.TheVariants as kinds
use Rattle.log_form.specs.declared.line.Line.{Line}
use Rattle.model_search.specs.Findings.{finding}
use Rattle.model_search.specs.declared.finding.Finding.{Finding}
use Rattle.model_search.specs.declared.finding.Finding.TheVariants as findings
use Rattle.proof_log.specs.Rounds.{Journal}
use Rattle.proof_log.specs.declared.journal.Round.{Round}

-- a problem, with lines over it, as the journal of a run
abbrev pub journal_with : (ground : Ground) → List Line → Journal
journal_with g lines = record { ground = Some g; lines = lines; rounds = [] }

-- a round as the journal of a run
abbrev pub journal_of : Round → Journal
journal_of round = journal_with round.ground round.lines

-- what the lines of a round tell
abbrev pub told_by : Round → Finding
told_by round = finding round.ground (ending round.ground round.lines)

-- the verdict of which this is told
abbrev pub end_of : Finding → VerdictKind
end_of (findings.Best t) = kinds.Best
end_of findings.NoneExists = kinds.NoSolution
end_of (findings.Open last) = kinds.Open
