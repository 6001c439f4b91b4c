-- What to blame where a model has no configuration. What a reader believes after this file: when a
-- list of constraints is a core, and which searches show it.
use Rattle.std.specs.Prelude.{◌≡◌, ◌<◌, ℕ, ℤ, List, ◌∷◌, All, AllPairs, Contains, filter, length, not, nat_eq}
use Rattle.std.specs.List.{range_with_len}
use Rattle.class_table.specs.Outline.{Outline}
use Rattle.conf_core.specs.Parts.{part_of, IsPart}
use Rattle.conf_core.specs.declared.answer.CoreAnswer.{CoreAnswer}
use Rattle.conf_core.specs.declared.answer.CoreAnswer.TheVariants as answers
use Rattle.conf_eval.specs.Best.{HasNone}
use Rattle.conf_eval.specs.Satisfying.{Satisfies}
use Rattle.conf_types.specs.Programs.{ResolvedConstraint}
use Rattle.model_search.specs.Rounds.{told_by, end_of}
use Rattle.object_alloc.specs.Configurations.{IsConfiguration}
use Rattle.proof_log.specs.declared.journal.Round.{Round}
use Rattle.log_check.specs.declared.verdict.VerdictKind.{VerdictKind}
use Rattle.log_check.specs.declared.verdict.VerdictKind.TheVariants as kinds

-- ---- which searches there were

-- one of the rounds is over a part for which P holds, and its search ended so
pub record HasRound (rounds : List Round) (P : List ℕ → Type 0) (end : VerdictKind) : Type 0 where
  pub round : Round
  pub there : Contains rounds round
  pub part : P round.part
  pub ended : end_of (told_by round) ≡ end

-- the part lacks constraint c, and has every other one of these
pub record IsWithout (keep : List ℕ) (c : ℕ) (part : List ℕ) : Type 0 where
  pub lacks : Contains part c → ⊥
  pub others : All (λ k. (k ≡ c → ⊥) → Contains part k) keep

-- these but for c
abbrev pub without : ℕ → List ℕ → List ℕ
without c keep = filter (λ k. not (nat_eq k c)) keep

-- ---- cores

-- no configuration satisfies these constraints, and some search showed it; of each that isn't
-- unsure some search without it found a configuration, which satisfies the others; and of each that
-- is, some search without it, with all others, was undecided
pub record IsCore (o : Outline) (ks : List ResolvedConstraint) (rounds : List Round)
    (keep unsure : List ℕ) : Type 0 where
  pub part : IsPart ks keep
  pub impossible : HasNone o (part_of ks keep)
  pub shown : HasRound rounds (λ part. part ≡ keep) kinds.NoSolution
  pub ascend : AllPairs ◌<◌ unsure
  pub within : All (λ c. Contains keep c) unsure
  pub needed : (c : ℕ) → Contains keep c → (Contains unsure c → ⊥)
      → HasRound rounds (IsWithout keep c) kinds.Best
  pub possible : (c : ℕ) → Contains keep c → (Contains unsure c → ⊥)
      → (t : List ℤ) × IsConfiguration o t × Satisfies o (part_of ks (without c keep)) t
  pub undecided : All (λ c. HasRound rounds (IsWithout keep c) kinds.Open) unsure

-- the first round is over all constraints, and its search ended so
pub record BeginsSo (ks : List ResolvedConstraint) (rounds : List Round)
    (end : VerdictKind) : Type 0 where
  pub first : Round
  pub rest : List Round
  pub rounds_are : rounds ≡ first ∷ rest
  pub all : first.part ≡ range_with_len 0 (length ks)
  pub ended : end_of (told_by first) ≡ end

-- what is answered is so of the model, and the rounds show it
abbrev pub IsAnswered : Outline → List ResolvedConstraint → List Round → CoreAnswer → Type 0
IsAnswered o ks rounds answers.Solvable = BeginsSo ks rounds kinds.Best
IsAnswered o ks rounds answers.Undecided = BeginsSo ks rounds kinds.Open
IsAnswered o ks rounds (answers.Core keep unsure) =
    BeginsSo ks rounds kinds.NoSolution × IsCore o ks rounds keep unsure
