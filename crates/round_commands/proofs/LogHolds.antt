-- The journal of a search holds a log.
use Rattle.std.proofs.Common.{List, Option, ℕ}
use Rattle.branch_choice.specs.declared.split.Order.{Order}
use Rattle.class_table.specs.Outline.{Outline}
use Rattle.conf_types.specs.Programs.{ResolvedConstraint, ResolvedGoal}
use Rattle.model_search.specs.Runs.{HasRun}
use Rattle.model_search.specs.declared.finding.Finding.{Finding}
use Rattle.proof_log.specs.Rounds.{Journal}
use Rattle.reconfigure.specs.declared.repair.Repair.{Repair}
use Rattle.round_commands.specs.Told.{HoldsLog}

pub holds_log : (o : Outline) (ks : List ResolvedConstraint) (gs : List ResolvedGoal) (r : Option Repair) (order : Order) (budget : ℕ) (journal : Journal) (told : Finding) → HasRun o ks gs r order budget journal told → HoldsLog journal
holds_log o ks gs r order budget journal told h =
    record { ground = h.ground; kept = h.kept; well_made = h.problem.stands.well_made; taken = h.whole.taken }
