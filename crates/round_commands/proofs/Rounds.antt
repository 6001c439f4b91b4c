-- What holds of the journal's rounds, whatever is known of files.
use Rattle.std.proofs.Common.{◌≡◌, ◌∙◌, List, [], Option, None, Some, slice_index_or, refl, sym, subst, ap, ℕ, ℤ}
use Rattle.std.specs.List.{All}
use Rattle.branch_choice.specs.declared.split.Order.TheVariants as orders
use Rattle.class_table.specs.Outline.{Outline}
use Rattle.conf_core.specs.Cores.{BeginsSo, IsAnswered}
use Rattle.conf_core.specs.Parts.{part_of, ArePartRounds}
use Rattle.conf_core.specs.declared.answer.CoreAnswer.{CoreAnswer}
use Rattle.conf_core.specs.declared.answer.CoreAnswer.TheVariants as answers
use Rattle.conf_types.specs.Programs.{ResolvedConstraint, ResolvedGoal}
use Rattle.run_promise.specs.Blaming.{IsBlamed}
use Rattle.run_promise.specs.CoreTexts.{core_status}
use Rattle.ground_form.specs.WellMade.{IsWellMade}
use Rattle.ground_form.specs.declared.ground.Ground.{Ground}
use Rattle.log_check.specs.Verdicts.{ending}
use Rattle.log_form.specs.declared.line.Line.{Line}
use Rattle.model_search.specs.Rounds.{end_of, journal_of, told_by}
use Rattle.model_search.specs.Findings.{finding}
use Rattle.model_search.specs.Runs.{IsWholeRun, HasRun, values_for}
use Rattle.model_search.specs.declared.finding.Finding.{Finding}
use Rattle.model_search.specs.declared.finding.Finding.TheVariants as findings
use Rattle.proof_log.specs.Rounds.{Journal}
use Rattle.proof_log.specs.declared.journal.Round.{Round}
use Rattle.reconfigure.specs.declared.repair.Repair.{Repair}
use Rattle.run_promise.specs.Answer.{searched_status}
use Rattle.run_promise.specs.Recorded.{HasBlamed, IsRoundOf}
use Rattle.log_check.specs.declared.verdict.VerdictKind.{VerdictKind}
use Rattle.log_check.specs.declared.verdict.VerdictKind.TheVariants as kinds
use Rattle.run_status.specs.declared.status.Status.{Status}
use Rattle.run_status.specs.declared.status.Status.TheVariants as status
use Rattle.run_law.proofs.Orders.{own_ordered}

some_ground : (g h : Ground) → Some g ≡ Some h → g ≡ h
some_ground g h e = cc

-- a run by whatever order goes by no values
own_run : (g : Ground) (values : List (Option ℤ)) (budget : ℕ) (ls : List Line) →
    IsWholeRun g orders.Own values budget ls → IsWholeRun g orders.Own [] budget ls
own_run g values budget ls h =
    record {
      by = record { run = h.by.run; ordered = own_ordered g [] ls };
      taken = h.taken;
      within = h.within;
      spent = h.spent;
    }

-- a round of which a run is told is one within the budget, and tells the same
pub round_of : (o : Outline) (ks : List ResolvedConstraint) (gs : List ResolvedGoal)
    (r : Option Repair) (budget : ℕ) (round : Round) (told : Finding) →
    HasRun o ks gs r orders.Own budget (journal_of round) told →
    IsRoundOf budget round × (told_by round ≡ told)
round_of o ks gs r budget round told h =
    let same : round.ground ≡ h.ground = some_ground round.ground h.ground h.kept in
    let shown : told_by round ≡ told = sym (h.shown
    ∙ ap (λ (g : Ground). finding g (ending g round.lines)) (sym same)) in (
      record {
        well_made = subst (λ (g : Ground). IsWellMade g) (sym same) h.problem.stands.well_made;
        whole = subst (λ (g : Ground). IsWholeRun g orders.Own [] budget round.lines) (sym same)
            (own_run h.ground (values_for h.ground.search r) budget round.lines h.whole);
      },
      shown,
    )

-- ---- what to blame

best_status : (budget : ℕ) (f : Finding) → end_of f ≡ kinds.Best →
    searched_status budget f ≡ status.Done
best_status budget (findings.Best t) e = refl
best_status budget findings.NoneExists e = absurd cc
best_status budget (findings.Open last) e = absurd cc

none_status : (budget : ℕ) (f : Finding) → end_of f ≡ kinds.NoSolution →
    searched_status budget f ≡ status.NoneExists
none_status budget (findings.Best t) e = absurd cc
none_status budget findings.NoneExists e = refl
none_status budget (findings.Open last) e = absurd cc

spent_status : (budget : ℕ) (f : Finding) → end_of f ≡ kinds.Open →
    searched_status budget f ≡ status.Undecided budget
spent_status budget (findings.Best t) e = absurd cc
spent_status budget findings.NoneExists e = absurd cc
spent_status budget (findings.Open last) e = refl

-- what the first round shows makes the status
begins_as : (o : Outline) (ks : List ResolvedConstraint) (rounds : List Round) (budget : ℕ)
    (a : CoreAnswer) → IsAnswered o ks rounds a →
    (end : VerdictKind) × BeginsSo ks rounds end
    × ((f : Finding) → end_of f ≡ end → searched_status budget f ≡ core_status budget a)
begins_as o ks rounds budget answers.Solvable h = (kinds.Best, h, best_status budget)
begins_as o ks rounds budget answers.Undecided h = (kinds.Open, h, spent_status budget)
begins_as o ks rounds budget (answers.Core keep unsure) h =
    (kinds.NoSolution, h.0, none_status budget)

-- rounds over parts of a model are runs within the budget
pub part_rounds : (o : Outline) (ks : List ResolvedConstraint) (budget : ℕ) (rounds : List Round) →
    ArePartRounds o ks budget rounds → All (IsRoundOf budget) rounds
part_rounds o ks budget rounds h = λ k d lt.
    let round = slice_index_or rounds k d in
    (round_of o (part_of ks round.part) [] None budget round (told_by round) (h k d lt).run).0

pub has_blamed : (o : Outline) (ks : List ResolvedConstraint) (budget : ℕ) (journal : Journal)
    (s : Status) (text : List ℕ) → IsBlamed o ks budget journal.rounds s text →
    HasBlamed budget s journal
has_blamed o ks budget journal s text h =
    let rounds = journal.rounds in
    let b = begins_as o ks rounds budget h.answer h.answered in
    record {
      rounds = part_rounds o ks budget rounds h.searched;
      first = b.1.first;
      rest = b.1.rest;
      rounds_are = b.1.rounds_are;
      status_is = h.status_is ∙ sym (b.2 (told_by b.1.first) b.1.ended);
    }
