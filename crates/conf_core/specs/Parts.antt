-- Parts of a model, and searches over them. What a reader believes after this file: which
-- constraints a part has; and that a round of the journal is a run of a search over the part that
-- it names, without the model's objectives.
use Rattle.std.specs.Prelude.{◌<◌, [], ℕ, List, None, All, AllPairs, length, map}
use Rattle.branch_choice.specs.declared.split.Order.TheVariants as orders
use Rattle.class_table.specs.Outline.{Outline}
use Rattle.conf_types.specs.Programs.{ResolvedConstraint, constraint_at}
use Rattle.ground_form.specs.WellMade.{IsWellMade}
use Rattle.model_search.specs.Rounds.{journal_of, told_by}
use Rattle.model_search.specs.Runs.{HasRun}
use Rattle.proof_log.specs.declared.journal.Round.{Round}

-- the constraints with these indexes
abbrev pub part_of : List ResolvedConstraint → List ℕ → List ResolvedConstraint
part_of ks part = map (constraint_at ks) part

-- these are indexes of constraints, and ascend
pub record IsPart (ks : List ResolvedConstraint) (part : List ℕ) : Type 0 where
  pub ascend : AllPairs ◌<◌ part
  pub exist : All (λ k. k < length ks) part

-- the round is a run of a search, within the budget, over the problem of the part that it names;
-- and what its lines tell is so of the configurations that satisfy the part
pub record IsPartRound (o : Outline) (ks : List ResolvedConstraint) (budget : ℕ)
    (round : Round) : Type 0 where
  pub part : IsPart ks round.part
  pub ground : IsWellMade round.ground
  pub run : HasRun o (part_of ks round.part) [] None orders.Own budget (journal_of round)
      (told_by round)

-- all rounds are
abbrev pub ArePartRounds : Outline → List ResolvedConstraint → ℕ → List Round → Type 0
ArePartRounds o ks budget rounds = All (IsPartRound o ks budget) rounds
