-- What the journal of a search holds, whatever is known of files.
use Rattle.std.proofs.Common.{◌≡◌, ◌∙◌, Bool, true, false, List, Option, None, ap, refl, ℕ}
use Rattle.branch_choice.specs.declared.split.Order.{Order}
use Rattle.class_table.specs.Outline.{Outline}
use Rattle.conf_types.specs.Programs.{ResolvedConstraint, ResolvedGoal}
use Rattle.model_search.specs.Runs.{values_for}
use Rattle.model_search.specs.declared.finding.Finding.{Finding}
use Rattle.proof_log.specs.Rounds.{Journal}
use Rattle.reconfigure.specs.declared.repair.Repair.{Repair}
use Rattle.run_status.specs.declared.status.Status.{Status}
use Rattle.run_promise.specs.Answer.{searched_status, IsSearched}
use Rattle.run_promise.specs.Recorded.{HasRecordedRun}

module _ (o : Outline) (ks : List ResolvedConstraint) (gs : List ResolvedGoal) (order : Order) (budget : ℕ) (journal : Journal) (s : Status) (text : Finding → List ℕ) (printed : List ℕ) where
  has_recorded_run : (repaired : Bool) (r : Option Repair) → (repaired ≡ false → r ≡ None) → IsSearched o ks gs r order budget journal s text printed → HasRecordedRun repaired order budget s journal
  has_recorded_run repaired r none a =
      let h = a.run in
      record {
        ground = h.ground;
        kept = h.kept;
        well_made = h.problem.stands.well_made;
        values = values_for h.ground.search r;
        none = λ e. ap (values_for h.ground.search) (none e);
        whole = h.whole;
        status_is = a.status_is ∙ ap (searched_status budget) h.shown;
      }

  -- a search without a repair had no values to go by
  pub has_solved : IsSearched o ks gs None order budget journal s text printed → HasRecordedRun false order budget s journal
  has_solved a = has_recorded_run false None (λ e. refl) a

  pub has_repaired : (r : Option Repair) → IsSearched o ks gs r order budget journal s text printed → HasRecordedRun true order budget s journal
  has_repaired r a = has_recorded_run true r (λ e. absurd cc) a
