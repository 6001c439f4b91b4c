-- What the journal holds when a search over a model has ended.
use Rattle.std.proofs.Common.{◌≡◌, ◌∙◌, inl, inr, [], ℕ, ◌+◌, ◌≤◌, Bool, true, false, List, ℤ, Option, Some, None, ap, subst, sym, refl}
use Rattle.bound_search.specs.declared.solving.Ended.{Ended}
use Rattle.bound_search.specs.declared.solving.Ended.TheVariants as ended
use Rattle.branch_choice.specs.declared.split.Order.{Order}
use Rattle.branch_choice.specs.declared.split.Order.TheVariants as orders
use Rattle.class_table.specs.Outline.{Outline}
use Rattle.conf_types.specs.Programs.{ResolvedConstraint, ResolvedGoal}
use Rattle.ground_form.specs.declared.ground.Ground.{Ground}
use Rattle.log_check.specs.Soundness.{Means, FoundSolves}
use Rattle.log_check.specs.Verdicts.{Ending, ending}
use Rattle.log_check.specs.Kinds.{kind_of, shown_of}
use Rattle.log_form.specs.Acceptance.{has_empty, made, shown_by}
use Rattle.log_form.specs.declared.line.Line.{Line}
use Rattle.object_alloc.specs.Counts.{configuration_count}
use Rattle.proof_log.specs.Rounds.{Journal}
use Rattle.proof_log.specs.declared.journal.Round.{Round}
use Rattle.reconfigure.specs.declared.repair.Repair.{Repair}
use Rattle.run_finder.specs.Searched.{HasSearched}
use Rattle.run_law.proofs.Fronts.{run_accepted}
use Rattle.run_law.proofs.Orders.{own_ordered}
use Rattle.run_law.specs.Decisions.{decisions, MayDecide}
use Rattle.run_law.specs.Ordered.{IsOrdered}
use Rattle.run_law.specs.Replay.{is_run}
use Rattle.model_search.proofs.Solutions.{verdict_tells}
use Rattle.model_search.specs.Findings.{finding, finding_by, Tells}
use Rattle.model_search.specs.Problems.{IsProblemOf}
use Rattle.model_search.specs.Rounds.{journal_of, told_by, end_of}
use Rattle.model_search.specs.Runs.{is_open, values_for, IsRunBy, IsWholeRun, HasRun, HasBegun}
use Rattle.model_search.specs.declared.finding.Finding.{Finding}

-- ---- a search whose lines were checked

-- where the empty clause was made, the verdict isn't open
spent_by : (g : Ground) (budget : ℕ) (ls : List Line) (end : Ended) (v : Ending) → v ≡ ending g ls →
    (end ≡ ended.Closed → has_empty (made g ls).clauses ≡ true) →
    (end ≡ ended.Spent → (decisions ls ≡ budget) × MayDecide g ls) → v.closed ≡ false →
    (decisions ls ≡ budget) × MayDecide g ls
spent_by g budget ls ended.Closed v is closed spent lacks =
    let yes : v.closed ≡ true = ap (λ (x : Ending). x.closed) is ∙ closed refl in
    absurd cc
spent_by g budget ls ended.Spent v is closed spent lacks = spent refl

-- the lines that were checked are those of the search, and the journal keeps them
pub has_searched : (g : Ground) (budget : ℕ) (ls read kept : List Line) (end : Ended) (v : Ending) →
    read ≡ ls → kept ≡ ls → is_run g ls ≡ true → v ≡ ending g read → Means g (shown_of v) →
    FoundSolves g v.found → (end ≡ ended.Closed → has_empty (made g ls).clauses ≡ true) →
    (end ≡ ended.Spent → (decisions ls ≡ budget) × MayDecide g ls) → decisions ls ≤ budget →
    HasSearched g budget kept v
has_searched g budget ls read kept end v r k run is sound found closed spent within =
    let here : v ≡ ending g ls = is ∙ ap (λ xs. ending g xs) r in
    subst (λ xs. HasSearched g budget xs v) (sym k)
    (record {
      run = run;
      verdict_is = here;
      sound = sound;
      found = found;
      within = within;
      spent = λ lacks. spent_by g budget ls end v here closed spent lacks;
    })

-- ---- a search over a model

closed_tells : (g : Ground) (found : Option (List ℤ)) → is_open (finding_by g true found) ≡ true → ⊥
closed_tells g None e = cc
closed_tells g (Some a) e = cc

open_not_closed : (g : Ground) (closed : Bool) (found : Option (List ℤ)) →
    is_open (finding_by g closed found) ≡ true → closed ≡ false
open_not_closed g true found e = absurd (closed_tells g found e)
open_not_closed g false found e = refl

pub whole_run : (g : Ground) (order : Order) (values : List (Option ℤ)) (budget : ℕ)
    (ls : List Line) (v : Ending) → HasSearched g budget ls v → IsOrdered g order values ls →
    IsWholeRun g order values budget ls
whole_run g order values budget ls v searched ordered =
    record {
      by = record { run = searched.run; ordered = ordered };
      taken = run_accepted g ls searched.run;
      within = searched.within;
      spent = λ lacks. searched.spent (ap (λ (x : Ending). x.closed) searched.verdict_is ∙ lacks);
    }

more_of : (o : Outline) (g : Ground) (budget : ℕ) (j : Journal) (v : Ending) →
    HasSearched g budget j.lines v →
    (MayDecide g j.lines → decisions j.lines + 2 ≤ configuration_count o) →
    is_open (finding g v) ≡ true → budget + 2 ≤ configuration_count o
more_of o g budget j v searched more is =
    let h = searched.spent (open_not_closed g v.closed v.found is) in
    subst (λ n. n + 2 ≤ configuration_count o) h.0 (more h.1)

-- the journal's lines are those of the search, its problem stands there, and its verdict is told
pub has_run : (o : Outline) (ks : List ResolvedConstraint) (gs : List ResolvedGoal)
    (r : Option Repair) (g : Ground) (order : Order) (budget : ℕ) (j : Journal) (told : Finding)
    (v : Ending) → j.ground ≡ Some g → IsProblemOf o ks gs r g → HasSearched g budget j.lines v →
    IsOrdered g order (values_for g.search r) j.lines → told ≡ finding g v →
    (MayDecide g j.lines → decisions j.lines + 2 ≤ configuration_count o) →
    HasRun o ks gs r order budget j told
has_run o ks gs r g order budget j told v kept problem searched ordered is more =
    record {
      ground = g;
      kept = kept;
      problem = problem;
      whole = whole_run g order (values_for g.search r) budget j.lines v searched ordered;
      shown = is ∙ ap (λ e. finding g e) searched.verdict_is;
      tells = subst (λ f. Tells o ks gs r f) (sym is)
          (verdict_tells o ks gs r g v problem searched.sound searched.found);
      more = λ told_open. more_of o g budget j v searched more (subst (λ f. is_open f ≡ true) is told_open);
    }

some_same : (g h : Ground) → Some g ≡ Some h → g ≡ h
some_same g h e = cc

-- the same, where what is told is told of the problem that the journal has
pub found_run : (o : Outline) (ks : List ResolvedConstraint) (gs : List ResolvedGoal)
    (r : Option Repair) (g h : Ground) (order : Order) (budget : ℕ) (j : Journal) (told : Finding)
    (v : Ending) → j.ground ≡ Some g → j.ground ≡ Some h → IsProblemOf o ks gs r g →
    HasSearched g budget j.lines v → IsOrdered g order (values_for g.search r) j.lines →
    told ≡ finding h v → (MayDecide h j.lines → decisions j.lines + 2 ≤ configuration_count o) →
    HasRun o ks gs r order budget j told
found_run o ks gs r g h order budget j told v kept there problem searched ordered is more =
    let same = some_same h g (sym there ∙ kept) in
    has_run o ks gs r g order budget j told v kept problem searched ordered
    (is ∙ ap (λ x. finding x v) same)
    (subst (λ x. MayDecide x j.lines → decisions j.lines + 2 ≤ configuration_count o) same more)

-- wherever it broke off
pub no_lines : (o : Outline) (ks : List ResolvedConstraint) (gs : List ResolvedGoal)
    (r : Option Repair) (order : Order) (j : Journal) → j.lines ≡ [] → HasBegun o ks gs r order j
no_lines o ks gs r order j none = record { so_far = inl none }

pub lines_begun : (o : Outline) (ks : List ResolvedConstraint) (gs : List ResolvedGoal)
    (r : Option Repair) (g : Ground) (order : Order) (j : Journal) → IsProblemOf o ks gs r g →
    IsRunBy g order (values_for g.search r) j.lines → HasBegun o ks gs r order j
lines_begun o ks gs r g order j problem by = record { so_far = inr (g, problem, by) }

-- no line is a run
pub none_run : (g : Ground) (order : Order) (values : List (Option ℤ)) (ls : List Line) → ls ≡ [] →
    IsRunBy g order values ls
none_run g order values ls none =
    subst (λ xs. IsRunBy g order values xs) (sym none) (record { run = refl; ordered = tt })

pub run_by : (g : Ground) (order : Order) (values : List (Option ℤ)) (ls : List Line) →
    is_run g ls ≡ true → IsOrdered g order values ls → IsRunBy g order values ls
run_by g order values ls run ordered = record { run = run; ordered = ordered }

-- ---- a round is one

pub run_of : (o : Outline) (ks : List ResolvedConstraint) (gs : List ResolvedGoal)
    (r : Option Repair) (round : Round) (budget : ℕ) (v : Ending) →
    IsProblemOf o ks gs r round.ground → HasSearched round.ground budget round.lines v →
    (MayDecide round.ground round.lines → decisions round.lines + 2 ≤ configuration_count o) →
    HasRun o ks gs r orders.Own budget (journal_of round) (told_by round)
run_of o ks gs r round budget v problem searched more =
    let g = round.ground in
    has_run o ks gs r g orders.Own budget (journal_of round) (told_by round) v refl problem searched
    (own_ordered g (values_for g.search r) round.lines)
    (ap (λ e. finding g e) (sym searched.verdict_is)) more

end_by : (g : Ground) (closed : Bool) (found : Option (List ℤ)) →
    end_of (finding_by g closed found) ≡ kind_of (shown_by closed found)
end_by g true (Some a) = refl
end_by g true None = refl
end_by g false found = refl

pub ended_so : (round : Round) (budget : ℕ) (v : Ending) →
    HasSearched round.ground budget round.lines v → end_of (told_by round) ≡ kind_of (shown_of v)
ended_so round budget v searched =
    ap (λ e. end_of (finding round.ground e)) (sym searched.verdict_is)
    ∙ end_by round.ground v.closed v.found
