-- From what the searches for a core show to what answers.
use Rattle.std.proofs.Common.{◌≡◌, ◌⊎◌, inl, inr, List, [], ℕ}
use Rattle.class_table.specs.Outline.{Outline}
use Rattle.conf_core.specs.Cores.{BeginsSo, IsAnswered}
use Rattle.conf_core.specs.Parts.{ArePartRounds}
use Rattle.conf_core.specs.declared.answer.CoreAnswer.{CoreAnswer}
use Rattle.conf_core.specs.declared.answer.CoreAnswer.TheVariants as answers
use Rattle.conf_types.specs.Programs.{ResolvedConstraint}
use Rattle.run_promise.specs.Blaming.{IsSearchedSoFar}
use Rattle.round_commands.specs.CoreLines.{HasLines}
use Rattle.proof_log.specs.declared.journal.Round.{Round}
use Rattle.log_check.specs.declared.verdict.VerdictKind.{VerdictKind}
use Rattle.log_check.specs.declared.verdict.VerdictKind.TheVariants as kinds

module _ (o : Outline) (ks : List ResolvedConstraint) (rounds : List Round) where
  -- the constraints of a core have places
  pub has_lines : (a : CoreAnswer) → IsAnswered o ks rounds a → HasLines ks a
  has_lines answers.Solvable h = tt
  has_lines answers.Undecided h = tt
  has_lines (answers.Core keep unsure) h = (h.1.part.exist, h.1.ascend)

  -- the first search ended somehow
  begun : (a : CoreAnswer) → IsAnswered o ks rounds a → (end : VerdictKind) × BeginsSo ks rounds end
  begun answers.Solvable h = (kinds.Best, h)
  begun answers.Undecided h = (kinds.Open, h)
  begun (answers.Core keep unsure) h = (kinds.NoSolution, h.0)

  -- where memory fails behind the searches
  pub so_far : (budget : ℕ) (a : CoreAnswer) → IsAnswered o ks rounds a →
      ArePartRounds o ks budget rounds → (rounds ≡ []) ⊎ IsSearchedSoFar o ks budget rounds
  so_far budget a h s =
      let b = begun a h in
      inr (record { end = b.0; begins = b.1; searched = s })

  -- and among them
  pub cut_short : (budget : ℕ) → ArePartRounds o ks budget rounds →
      (rounds ≡ []) ⊎ BeginsSo ks rounds kinds.NoSolution →
      (rounds ≡ []) ⊎ IsSearchedSoFar o ks budget rounds
  cut_short budget s (inl none) = inl none
  cut_short budget s (inr h) =
      inr (record { end = kinds.NoSolution; begins = h; searched = s })
