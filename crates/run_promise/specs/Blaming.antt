-- What answers the question what to blame. What a reader believes after this file: the searches of
-- the journal show what is told, and the text and the status tell it.
use Rattle.std.specs.Prelude.{◌≡◌, List, ℕ}
use Rattle.class_table.specs.Outline.{Outline}
use Rattle.conf_core.specs.Cores.{BeginsSo, IsAnswered}
use Rattle.conf_core.specs.Parts.{ArePartRounds}
use Rattle.conf_core.specs.declared.answer.CoreAnswer.{CoreAnswer}
use Rattle.conf_types.specs.Programs.{ResolvedConstraint}
use Rattle.run_promise.specs.CoreTexts.{core_status, core_text}
use Rattle.proof_log.specs.declared.journal.Round.{Round}
use Rattle.log_check.specs.declared.verdict.VerdictKind.{VerdictKind}
use Rattle.run_status.specs.declared.status.Status.{Status}

-- the rounds are searches over parts of the model, each within the budget; they show an answer; and
-- the status and the text are its
pub record IsBlamed (o : Outline) (ks : List ResolvedConstraint) (budget : ℕ) (rounds : List Round)
    (s : Status) (text : List ℕ) : Type 0 where
  pub answer : CoreAnswer
  pub answered : IsAnswered o ks rounds answer
  pub searched : ArePartRounds o ks budget rounds
  pub status_is : s ≡ core_status budget answer
  pub text_is : text ≡ core_text ks budget answer

-- the searches broke off behind the first: they are over parts of the model, that one over all of
-- it
pub record IsSearchedSoFar (o : Outline) (ks : List ResolvedConstraint) (budget : ℕ)
    (rounds : List Round) : Type 0 where
  pub end : VerdictKind
  pub begins : BeginsSo ks rounds end
  pub searched : ArePartRounds o ks budget rounds
