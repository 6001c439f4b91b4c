-- What the searches for a core hand on. What a reader believes after this file: nothing that
-- `find_core` says.
use Rattle.std.specs.Prelude.{◌≡◌, ◌≤◌, ◌++◌, ◌∷◌, [], ℕ, true, List, None, length}
use Rattle.std.specs.List.{range_with_len}
use Rattle.class_table.specs.Outline.{Outline}
use Rattle.conf_core.specs.Cores.{HasRound, IsWithout, IsCore}
use Rattle.conf_core.specs.Parts.{IsPartRound, ArePartRounds}
use Rattle.conf_core.specs.declared.answer.CoreAnswer.{CoreAnswer}
use Rattle.conf_core.specs.declared.answer.CoreAnswer.TheVariants as answers
use Rattle.conf_core.specs.declared.narrowing.Narrowing.{Narrowing}
use Rattle.conf_core.specs.declared.suspects.Suspect.{Suspect}
use Rattle.conf_core.specs.declared.suspects.Suspect.TheVariants.{Cleared, Open, Needed, Unsure}
use Rattle.conf_core.specs.Suspects.{is_kept, marked, told, AreTried, IsSettled}
use Rattle.conf_types.specs.Programs.{ResolvedConstraint}
use Rattle.ground_form.specs.WellMade.{IsWellMade}
use Rattle.log_form.specs.Acceptance.{accepted}
use Rattle.model_search.specs.Problems.{IsProblemOf}
use Rattle.model_search.specs.Rounds.{told_by, end_of}
use Rattle.proof_log.specs.Rounds.{Journal}
use Rattle.proof_log.specs.declared.journal.Round.{Round}
use Rattle.run_finder.specs.Searched.{HasSearched}
use Rattle.log_check.specs.Verdicts.{Ending}
use Rattle.log_check.specs.declared.verdict.VerdictKind.{VerdictKind}
use Rattle.log_check.specs.declared.verdict.VerdictKind.TheVariants as kinds

-- the rounds have one more, over the problem of these constraints, by a search with this verdict
pub record HasClosed (o : Outline) (ks : List ResolvedConstraint) (budget : ℕ) (part : List ℕ)
    (rounds now : List Round) (verdict : Ending) : Type 0 where
  pub round : Round
  pub more : now ≡ rounds ++ round ∷ []
  pub part_is : round.part ≡ part
  pub problem : IsProblemOf o ks [] None round.ground
  pub well_made : IsWellMade round.ground
  pub searched : HasSearched round.ground budget round.lines verdict

-- the rounds have one more, over this part, and its search ended so
pub record HasTried (o : Outline) (ks : List ResolvedConstraint) (budget : ℕ) (part : List ℕ)
    (rounds now : List Round) (end : VerdictKind) : Type 0 where
  pub round : Round
  pub more : now ≡ rounds ++ round ∷ []
  pub is : IsPartRound o ks budget round
  pub part_is : round.part ≡ part
  pub ended : end_of (told_by round) ≡ end

-- further searches over parts were made
pub record HasGrown (o : Outline) (ks : List ResolvedConstraint) (budget : ℕ)
    (rounds now : List Round) : Type 0 where
  pub further : List Round
  pub more : now ≡ rounds ++ further
  pub are : ArePartRounds o ks budget further

-- the last round is a log that is accepted
pub record EndsAccepted (rounds : List Round) : Type 0 where
  pub before : List Round
  pub round : Round
  pub more : rounds ≡ before ++ round ∷ []
  pub well_made : IsWellMade round.ground
  pub taken : accepted round.ground round.lines ≡ true

-- ---- on the way to a core

-- how the search ended without a constraint that was settled
abbrev pub end_without : Suspect → VerdictKind
end_without Cleared = kinds.NoSolution
end_without Open = kinds.NoSolution
end_without Needed = kinds.Best
end_without Unsure = kinds.Open

-- a search over all constraints told that no configuration satisfies them
abbrev pub IsShownAll : List ResolvedConstraint → List Round → Type 0
IsShownAll ks rounds =
    HasRound rounds (λ part. part ≡ range_with_len 0 (length ks)) kinds.NoSolution

-- no configuration satisfies those that are to blame so far; and of each settled one some search
-- without it, with all others of these, found one or was undecided
pub record IsNarrowed (ks : List ResolvedConstraint) (rounds : List Round)
    (ss : List Suspect) : Type 0 where
  pub count : length ss ≡ length ks
  pub shown : HasRound rounds (λ part. part ≡ marked is_kept 0 ss) kinds.NoSolution
  pub tried : (c : ℕ) → IsSettled (told ss c)
      → HasRound rounds (IsWithout (marked is_kept 0 ss) c) (end_without (told ss c))

-- the loop over further searches, between two of them
pub record IsUnderWay (o : Outline) (ks : List ResolvedConstraint) (budget : ℕ)
    (rounds : List Round) (first : Narrowing) (journal : Journal) (n : Narrowing)
    (allowed : ℕ) : Type 0 where
  pub narrowed : IsNarrowed ks journal.rounds n.suspects.items
  pub tried : AreTried first.suspects.items first.rest.items n.suspects.items n.rest.items
  pub grown : HasGrown o ks budget rounds journal.rounds
  pub some : 1 ≤ n.chunk
  pub ground : journal.ground ≡ None
  pub lines : journal.lines ≡ []
  pub budget_is : allowed ≡ budget

-- the answer is a core
abbrev pub IsCoreAnswer : Outline → List ResolvedConstraint → List Round → CoreAnswer → Type 0
IsCoreAnswer o ks rounds answers.Solvable = ⊥
IsCoreAnswer o ks rounds answers.Undecided = ⊥
IsCoreAnswer o ks rounds (answers.Core keep unsure) = IsCore o ks rounds keep unsure
