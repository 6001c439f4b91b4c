-- What a journal holds of a search over a model. What a reader believes after this file: its
-- problem is the model's, or that of a repair of it; its lines are a run of a search by the order,
-- within the budget, which the checker accepts, and what they show is what is told.
use Rattle.std.specs.Prelude.{◌≡◌, ◌⊎◌, ◌+◌, ◌≤◌, ℕ, Bool, true, false, List, [], ℤ, Option, None, Some, replicate}
use Rattle.branch_choice.specs.declared.split.Order.{Order}
use Rattle.class_table.specs.Outline.{Outline}
use Rattle.conf_types.specs.Programs.{ResolvedConstraint, ResolvedGoal}
use Rattle.ground_form.specs.declared.ground.Ground.{Ground}
use Rattle.log_check.specs.Verdicts.{ending}
use Rattle.log_form.specs.Acceptance.{accepted}
use Rattle.log_form.specs.declared.line.Line.{Line}
use Rattle.model_search.specs.Findings.{finding, Tells}
use Rattle.model_search.specs.Problems.{IsProblemOf}
use Rattle.model_search.specs.declared.finding.Finding.{Finding}
use Rattle.model_search.specs.declared.finding.Finding.TheVariants as findings
use Rattle.object_alloc.specs.Counts.{configuration_count}
use Rattle.proof_log.specs.Rounds.{Journal}
use Rattle.reconfigure.specs.declared.repair.Repair.{Repair}
use Rattle.run_law.specs.Decisions.{decisions, MayDecide}
use Rattle.run_law.specs.Ordered.{IsOrdered}
use Rattle.run_law.specs.Replay.{is_run}

-- neither is shown
abbrev pub is_open : Finding → Bool
is_open (findings.Open last) = true
is_open told = false

-- the values that a search over so many variables goes by: the former ones, of a repair
abbrev pub values_for : ℕ → Option Repair → List (Option ℤ)
values_for n None = replicate n None
values_for n (Some r) = r.former

-- the lines are a run over the problem, by the order and by these values
pub record IsRunBy (g : Ground) (order : Order) (values : List (Option ℤ))
    (ls : List Line) : Type 0 where
  pub run : is_run g ls ≡ true
  pub ordered : IsOrdered g order values ls

-- and so is a search that has ended: the checker accepts them; no more decisions were taken than
-- were allowed; and where they close nothing all of those were, and a further one would be due
pub record IsWholeRun (g : Ground) (order : Order) (values : List (Option ℤ)) (budget : ℕ)
    (ls : List Line) : Type 0 where
  pub by : IsRunBy g order values ls
  pub taken : accepted g ls ≡ true
  pub within : decisions ls ≤ budget
  pub spent : (ending g ls).closed ≡ false → (decisions ls ≡ budget) × MayDecide g ls

-- the journal's lines are one, and this is told of it; where it shows nothing, the model has more
-- configurations than were decided
pub record HasRun (o : Outline) (ks : List ResolvedConstraint) (gs : List ResolvedGoal)
    (r : Option Repair) (order : Order) (budget : ℕ) (journal : Journal)
    (told : Finding) : Type 0 where
  pub ground : Ground
  pub kept : journal.ground ≡ Some ground
  pub problem : IsProblemOf o ks gs r ground
  pub whole : IsWholeRun ground order (values_for ground.search r) budget journal.lines
  pub shown : told ≡ finding ground (ending ground journal.lines)
  pub tells : Tells o ks gs r told
  pub more : is_open told ≡ true → budget + 2 ≤ configuration_count o

-- as far as it came, wherever a search broke off: no line was written, or the lines are a run
pub record HasBegun (o : Outline) (ks : List ResolvedConstraint) (gs : List ResolvedGoal)
    (r : Option Repair) (order : Order) (journal : Journal) : Type 0 where
  pub so_far : (journal.lines ≡ []) ⊎ ((g : Ground) × IsProblemOf o ks gs r g
      × IsRunBy g order (values_for g.search r) journal.lines)
