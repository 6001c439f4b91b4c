-- What a step hands on, and the answer that its round gives.
use Rattle.std.proofs.Common.{◌≡◌, inl, inr, ℕ, Bool, true, false, List, [], ◌∷◌, ◌++◌, ℤ, Option, None, Some, Result, Ok, Err, OnErr, refl, sym, ap, ◌∙◌, subst, arith}
use Rattle.std.proofs.lemmas.List.{append-nil}
use Rattle.answer_text.specs.Texts.{solve_text}
use Rattle.branch_choice.specs.declared.split.Order.TheVariants as orders
use Rattle.class_table.specs.Outline.{Outline}
use Rattle.conf_events.specs.declared.event.Event.{Event}
use Rattle.conf_session.specs.Standing.{Standing, former_behind, former_by}
use Rattle.conf_session.specs.Failed.{failed_behind}
use Rattle.conf_session.specs.declared.step.Step.{Step}
use Rattle.conf_session.specs.Steps.{Steps, IsStep}
use Rattle.conf_types.specs.Programs.{ResolvedConstraint, ResolvedGoal}
use Rattle.desk_io.specs.Desk.{with_printed}
use Rattle.desk_io.specs.Whole.{PrintsFront}
use Rattle.model_search.specs.Objectives.{functions}
use Rattle.ground_form.specs.WellMade.{IsWellMade}
use Rattle.ground_form.specs.declared.ground.Ground.{Ground}
use Rattle.log_check.specs.Verdicts.{Ending, ending}
use Rattle.model_search.specs.Rounds.{journal_of}
use Rattle.model_search.proofs.RepairProblems.{repaired_by}
use Rattle.model_search.specs.Findings.{finding, finding_by}
use Rattle.model_search.specs.Runs.{HasRun}
use Rattle.model_search.specs.declared.finding.Finding.{Finding}
use Rattle.model_search.specs.declared.finding.Finding.TheVariants as findings
use Rattle.object_alloc.specs.Hints.{AreHints}
use Rattle.proof_log.specs.Rounds.{Journal, empty}
use Rattle.proof_log.specs.declared.journal.Round.{Round}
use Rattle.reconfigure.specs.Failing.{unknown_word}
use Rattle.reconfigure.specs.declared.repair.Repair.{Repair}
use Rattle.round_commands.specs.Events.{IsAt, IsBetween, StandsAt, situation_of, IsHinted, HasStepped, HasRound, IsTried, IsCut}
use Rattle.run_finder.specs.SoFar.{AreSoFar}
use Rattle.run_promise.specs.Sessions.{Subject, Situation, situation_behind, former_told}

-- ---- where a session stands

pub situation_is : (s : Subject) (p : Situation) (st : Option Standing) → StandsAt s p st → situation_of st ≡ p
situation_is s p None at = absurd at
situation_is s p (Some st) at = λ i. record { former = at.former i; failed = at.failed i }

-- ---- the same question

-- hints for one outline are hints for the same one
pub same_hints : (o p : Outline) (hs : List (Option ℤ)) → p ≡ o → AreHints p hs → AreHints o hs
same_hints o p hs is h = subst (λ x. AreHints x hs) is h

-- a run for one question is a run for the same one
pub same_run : (o p : Outline) (ks ls : List ResolvedConstraint) (gs hs : List ResolvedGoal)
    (r q : Option Repair) (budget : ℕ) (journal : Journal) (told : Finding) → p ≡ o → ls ≡ ks →
    hs ≡ gs → q ≡ r → HasRun p ls hs q orders.Own budget journal told →
    HasRun o ks gs r orders.Own budget journal told
same_run o p ks ls gs hs r q budget journal told outlines constraints goals repairs h =
    subst (λ x. HasRun x ks gs r orders.Own budget journal told) outlines
    (subst (λ x. HasRun p x gs r orders.Own budget journal told) constraints
    (subst (λ x. HasRun p ls x r orders.Own budget journal told) goals
    (subst (λ x. HasRun p ls hs x orders.Own budget journal told) repairs h)))

-- ---- a step

hints_told : (o : Outline) (former : List (Option ℤ)) (told : Finding) → AreHints o former →
    IsHinted o told → AreHints o (former_told former told)
hints_told o former (findings.Best t) h best = best t refl
hints_told o former findings.NoneExists h best = h
hints_told o former (findings.Open last) h best = h

-- the values in force behind what is told are those behind the verdict
former_by_told : (g : Ground) (former : List (Option ℤ)) (closed : Bool) (found : Option (List ℤ)) →
    former_by g.search former closed found ≡ former_told former (finding_by g closed found)
former_by_told g former true (Some a) = refl
former_by_told g former true None = refl
former_by_told g former false found = refl

-- the former values behind a step
former_now : (s : Subject) (e : Event) (old new : Standing) (before after : Journal) (step : Step)
    (told : Finding) (is : IsStep s.outline e s.budget old new before after step) →
    told ≡ finding is.round.ground step.verdict → new.former ≡ former_told old.former told
former_now s e old new before after step told is tells =
    let g = is.round.ground in
    let v = step.verdict in
    is.former ∙ ap (λ n. former_behind n old.former v) (sym is.extends.search)
    ∙ former_by_told g old.former v.closed v.found
    ∙ ap (λ f. former_told old.former f) (sym tells)

at_behind : (s : Subject) (p : Situation) (e : Event) (old new : Standing) (before after : Journal)
    (step : Step) (told : Finding) → IsAt s p old →
    (is : IsStep s.outline e s.budget old new before after step) →
    told ≡ finding is.round.ground step.verdict →
    IsHinted s.outline told → IsAt s (situation_behind p e told) new
at_behind s p e old new before after step told at is tells best =
    let former = former_now s e old new before after step told is tells in
    record {
      over = is.over;
      problem = record {
        test = at.problem.test;
        asks = at.problem.asks;
        stands = is.still at.problem.test (functions s.outline s.goals) at.problem.stands;
      };
      hints = subst (λ hs. AreHints s.outline hs) (sym former)
          (hints_told s.outline old.former told at.hints best);
      former = former ∙ ap (λ hs. former_told hs told) at.former;
      failed = is.failed ∙ ap (λ ws. failed_behind e ws) at.failed;
    }

pub has_stepped : (s : Subject) (p : Situation) (e : Event) (before after : Journal)
    (old new : Option Standing) (step : Step) → StandsAt s p old →
    Steps s.outline e s.budget old new before after step →
    HasStepped s p e before.rounds after.rounds new step
has_stepped s p e before after None new step at is = absurd at
has_stepped s p e before after (Some old) None step at is = absurd is
has_stepped s p e before after (Some old) (Some new) step at is =
    let o = s.outline in
    let values = sym is.repaired_former in
    let words = sym is.repaired_failed in
    record {
      round = is.round;
      more = ap (λ (j : Journal). j.rounds) is.recorded;
      former = is.repaired_former ∙ at.former;
      failed = is.repaired_failed ∙ is.failed ∙ ap (λ ws. failed_behind e ws) at.failed;
      problem = repaired_by o s.constraints s.goals step.repair old.ground is.round.ground
          old.former new.failed values words at.problem is.repairs;
      understood = record {
        former = subst (λ hs. AreHints o hs) values at.hints;
        failed = subst (λ ws. unknown_word o ws ≡ None) words is.over.failed;
      };
      searched = is.searched;
      stands = λ told tells best.
          at_behind s p e old new before after step told at is tells best;
    }

-- ---- an answer

-- what is told of the verdict is told of the round's lines
pub told_same : (r round : Round) (v : Ending) → v ≡ ending r.ground r.lines → round ≡ r →
    finding round.ground v ≡ finding round.ground (ending round.ground round.lines)
told_same r round v is same =
    ap (λ e. finding round.ground e)
    (is ∙ ap (λ (x : Round). ending x.ground x.lines) (sym same))

some_ground : (g h : Ground) → Some g ≡ Some h → g ≡ h
some_ground g h e = cc

pub has_round : (s : Subject) (p : Situation) (e : Event) (repair : Repair) (rounds now : List Round)
    (round : Round) (told : Finding) (text : List ℕ) → repair.former ≡ p.former →
    repair.failed.items ≡ failed_behind e p.failed → now ≡ rounds ++ round ∷ [] →
    HasRun s.outline s.constraints s.goals (Some repair) orders.Own s.budget (journal_of round)
    (finding round.ground (ending round.ground round.lines)) →
    told ≡ finding round.ground (ending round.ground round.lines) →
    text ≡ solve_text s.outline s.goals (Some repair) s.budget told →
    HasRound s p e rounds now told text
has_round s p e repair rounds now round told text former failed more run is text_is =
    record {
      round = round;
      answered = record {
        repair = repair;
        former = former;
        failed = failed;
        ground = subst (λ (g : Ground). IsWellMade g)
            (sym (some_ground round.ground run.ground run.kept)) run.problem.stands.well_made;
        run = subst
            (λ f. HasRun s.outline s.constraints s.goals (Some repair) orders.Own s.budget
            (journal_of round) f) (sym is) run;
        text_is = text_is;
      };
      more = more;
    }

pub tried : (s : Subject) (p : Situation) (e : Event) (repair : Repair) (rounds now : List Round)
    (round : Round) → repair.former ≡ p.former →
    repair.failed.items ≡ failed_behind e p.failed → now ≡ rounds ++ round ∷ [] →
    HasRun s.outline s.constraints s.goals (Some repair) orders.Own s.budget (journal_of round)
    (finding round.ground (ending round.ground round.lines)) → IsTried s p e rounds now
tried s p e repair rounds now round former failed more run =
    let told = finding round.ground (ending round.ground round.lines) in
    let text = solve_text s.outline s.goals (Some repair) s.budget told in
    inr (told, text, has_round s p e repair rounds now round told text former failed more run refl refl)

-- ---- what was printed

pub nothing_printed : (printed : Option (List ℕ)) → with_printed [] printed ≡ printed
nothing_printed None = refl
nothing_printed (Some text) = ap (λ t. Some t) (append-nil text)

-- where nothing was printed of the answer
pub cut_short : (s : Subject) (p : Situation) (e : Event) (rounds now : List Round)
    (printed printed_now : Option (List ℕ)) → printed_now ≡ printed → IsTried s p e rounds now →
    IsCut s p e rounds now printed printed_now
cut_short s p e rounds now printed printed_now is (inl same) = inl (same, is)
cut_short s p e rounds now printed printed_now is (inr h) =
    inr (h.0, h.1, h.2, (0, omega arith, is ∙ sym (nothing_printed printed)))

-- ---- the lines of the present round

pub between_so_far : (journal : Journal) → IsBetween journal → AreSoFar journal.lines
between_so_far journal h = inl h.lines

pub empty_so_far : (journal : Journal) → journal ≡ empty → AreSoFar journal.lines
empty_so_far journal h = inl (ap (λ (j : Journal). j.lines) h)

-- ---- errors

pub on_err : {T E : Type 0} (r : Result T E) (P : Type 0) → P → OnErr r P
on_err (Ok x) P p = tt
on_err (Err e) P p = p

-- where a front of the answer was printed
pub cut_printing : (s : Subject) (p : Situation) (e : Event) (rounds now : List Round) (told : Finding)
    (text bytes : List ℕ) (printed printed_now : Option (List ℕ)) → bytes ≡ text →
    HasRound s p e rounds now told text → PrintsFront bytes printed printed_now →
    IsCut s p e rounds now printed printed_now
cut_printing s p e rounds now told text bytes printed printed_now is round front =
    inr (told, text, round, subst (λ b. PrintsFront b printed printed_now) is front)
