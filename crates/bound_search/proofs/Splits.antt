-- What choosers are asked about, and what their splits are as decisions.
use Rattle.std.proofs.Common.{◌≡◌, ℕ, ◌<◌, ◌≤◌, true, false, List, [], ◌∷◌, ◌++◌, ℤ, length, refl, sym, ap, ◌∙◌, arith, subst, Some}
use Rattle.std.proofs.lemmas.List.{get_or_default}
use Rattle.std.proofs.lemmas.Bool.{and_parts, false_from_ne_true, lt-ltb}
use Rattle.signed_clause.specs.Ranges.{Ranges, has, is_nil, IsValid}
use Rattle.signed_clause.specs.SetAlgebra.{is_disjoint, is_within, meet}
use Rattle.signed_clause.specs.Clauses.{Boxes, box_of}
use Rattle.signed_clause.proofs.RangeSteps.{has-meet_valid, IsValid-meet}
use Rattle.signed_clause.proofs.SetFacts.{within_law}
use Rattle.ground_form.specs.declared.ground.Ground.{Ground}
use Rattle.branch_choice.specs.declared.split.Split.{Split}
use Rattle.branch_choice.specs.declared.split.Order.{Order}
use Rattle.branch_choice.specs.declared.split.Order.TheVariants as orders
use Rattle.branch_choice.specs.Picks.{Hints, IsAsked, IsPick, half_of}
use Rattle.log_form.specs.declared.line.Line.{Line}
use Rattle.log_form.specs.declared.line.Line.TheVariants.{Empty}
use Rattle.log_form.specs.Acceptance.{has_empty, made}
use Rattle.log_form.specs.Acceptance as acceptance
use Rattle.proof_log.specs.Rounds.{Journal}
use Rattle.run_law.specs.Replay as replay
use Rattle.run_law.specs.Replay.{Going, is_split, is_run}
use Rattle.run_law.specs.Ordered.{IsDecidedBy, IsOrdered}
use Rattle.run_law.specs.Decisions.{decisions, MayDecide}
use Rattle.bound_search.specs.declared.engine.Engine.{Engine}
use Rattle.bound_search.specs.declared.solving.Ended.{Ended}
use Rattle.bound_search.specs.declared.solving.Ended.TheVariants as ended
use Rattle.bound_search.specs.Ends.{EndsOf}
use Rattle.bound_search.specs.Standing.{IsDecision}
use Rattle.bound_search.specs.Engines.{added_of, Shows, IsDue, IsKeptBy}
use Rattle.bound_search.proofs.MoreLines.{boxes_at}
use Rattle.bound_search.proofs.Decisions.{decide_at}
use Rattle.bound_search.proofs.Steps.{valid_at}

pub asked_at : (g : Ground) (ls : List Line) (e : Engine) (hints : Hints) → Shows g ls e Going →
    g.search ≤ length hints → IsAsked e.board.store.top.now hints g.search
asked_at g ls e hints s h =
    let boxes = e.board.store.top.now in
    let w = boxes_at g ls e.clauses e.board.store (added_of e) Going s.at in
    let size = w.size in
    let few = s.at.lines.well_made.few_variables in
    let search = s.at.lines.well_made.search in
    record {
      sets = w.sets;
      some = λ k d lt. subst (λ (b : Ranges). is_nil b ≡ false) (get_or_default boxes k [] d lt)
          (w.some k lt);
      few = omega (arith, few, search);
      boxed = omega (arith, search, size);
      hinted = h;
    }

-- ---- the half that is taken

both_parts : (s box : Ranges) (v : ℤ) → IsValid s → IsValid box → has (meet s box) v ≡ true →
    (has s v ≡ true) × (has box v ≡ true)
both_parts s box v f g h =
    and_parts (has s v) (has box v) (sym (has-meet_valid s box f g v) ∙ h)

-- what a set takes of a box, where it takes something and leaves something
half_splits : (s box : Ranges) → IsValid s → IsValid box → is_disjoint s box ≡ false →
    is_within box s ≡ false → is_split (meet s box) box ≡ true
half_splits s box f g some left =
    let half = meet s box in
    let valid = IsValid-meet s box f g in
    let inside : is_within half box ≡ true =
    (within_law half box valid g).1 (λ v k. (both_parts s box v f g k).1) in
    let outside : is_within box half ≡ false = false_from_ne_true (is_within box half) (λ k.
    let sub = (within_law box half g valid).0 k in
    let all = (within_law box s g f).1 (λ v m. (both_parts s box v f g (sub v m)).0) in
    grind arith) in
    rw (some, inside, outside) refl

-- the half of a split that is due
abbrev pub taken : Boxes → Split → Ranges
taken boxes s = meet (half_of s) (box_of boxes s.var)

pub due_decision : (g : Ground) (ls : List Line) (order : Order) (hints : Hints) (e : Engine)
    (s : Split) → IsDue g ls order hints e s → IsValid (half_of s) →
    IsDecision g e.board.store.top.now s.var (taken e.board.store.top.now s)
due_decision g ls order hints e s d f =
    let boxes = e.board.store.top.now in
    let valid = valid_at g ls e.clauses e.board.store (added_of e) Going d.at.at in
    let split = d.picked.split s refl in
    record {
      searched = split.undecided.searched;
      valid = IsValid-meet (half_of s) (box_of boxes s.var) f (valid s.var);
      splits = half_splits (half_of s) (box_of boxes s.var) f (valid s.var) split.taken split.left;
    }

-- ---- the order

pub due_order : (g : Ground) (order : Order) (boxes : Boxes) (hints : Hints) (s : Split) →
    IsPick order boxes hints g.search (Some s) →
    IsDecidedBy order boxes hints g.search s.var (taken boxes s)
due_order g orders.First boxes hints s p =
    record { split = s; picked = p.first refl s refl; var = refl; taken = refl }
due_order g orders.Small boxes hints s p =
    record { split = s; picked = p.small refl s refl; var = refl; taken = refl }
due_order g orders.Former boxes hints s p =
    record { split = s; picked = p.former refl s refl; var = refl; taken = refl }
due_order g orders.Own boxes hints s p = tt

-- ---- a further decision may stand

pub due_may_decide : (g : Ground) (ls : List Line) (order : Order) (hints : Hints) (e : Engine)
    (s : Split) → IsDue g ls order hints e s → IsValid (half_of s) → MayDecide g ls
due_may_decide g ls order hints e s d f =
    let boxes = e.board.store.top.now in
    let decision = due_decision g ls order hints e s d f in
    record {
      var = s.var;
      half = taken boxes s;
      set = decision.valid;
      stands = (decide_at g ls e.clauses e.board.store (added_of e) s.var (taken boxes s)
          d.at.at d.fixed decision).lines.run;
    }

-- ---- a journal that two steps led on

pub kept_on : (g : Ground) (order : Order) (hints : Hints) (a b c : Journal) →
    IsKeptBy g order hints a b → IsKeptBy g order hints b c → IsKeptBy g order hints a c
kept_on g order hints a b c h k = record {
  run = k.run;
  ordered = λ o. k.ordered (h.ordered o);
  problem = k.problem ∙ h.problem;
  rounds = k.rounds ∙ h.rounds;
}

pub kept_first : (g : Ground) (order : Order) (hints : Hints) (a : Journal) → a.lines ≡ [] →
    IsKeptBy g order hints a a
kept_first g order hints a e = record {
  run = subst (λ (ls : List Line). is_run g ls ≡ true) (sym e) refl;
  ordered = λ o. o;
  problem = refl;
  rounds = refl;
}

-- ---- an empty domain

empty_follows : (g : Ground) (x : ℕ) → x < length g.domains →
    is_nil (box_of g.domains x) ≡ true → is_run g (Empty x ∷ []) ≡ true
unfolding acceptance.accepts replay.may_stand
empty_follows g x lt e =
    let below = lt-ltb x (length g.domains) lt in
    rw (below, e) refl

pub empty_kept : (g : Ground) (order : Order) (hints : Hints) (old new : Journal) (x : ℕ) →
    old.lines ≡ [] → x < length g.domains → is_nil (box_of g.domains x) ≡ true →
    new.lines ≡ old.lines ++ Empty x ∷ [] → new.ground ≡ old.ground → new.rounds ≡ old.rounds →
    IsKeptBy g order hints old new
empty_kept g order hints old new x none lt e l p q =
    let is : new.lines ≡ Empty x ∷ [] = l ∙ ap (λ (ls : List Line). ls ++ Empty x ∷ []) none in
    record {
      run = subst (λ (ls : List Line). is_run g ls ≡ true) (sym is) (empty_follows g x lt e);
      ordered = λ o. subst (IsOrdered g order hints) (sym is) (tt, tt);
      problem = p;
      rounds = q;
    }

empty_made : (g : Ground) (x : ℕ) → has_empty (made g (Empty x ∷ [])).clauses ≡ true
unfolding acceptance.after
empty_made g x = refl

pub empty_closes : (g : Ground) (old new : Journal) (x budget : ℕ) → old.lines ≡ [] →
    new.lines ≡ old.lines ++ Empty x ∷ [] →
    (has_empty (made g new.lines).clauses ≡ true) × (decisions new.lines ≤ budget)
empty_closes g old new x budget none l =
    let is : new.lines ≡ Empty x ∷ [] = l ∙ ap (λ (ls : List Line). ls ++ Empty x ∷ []) none in
    let few : decisions new.lines ≡ 0 = ap decisions is in (
      subst (λ (ls : List Line). has_empty (made g ls).clauses ≡ true) (sym is) (empty_made g x),
      omega (arith, few),
    )

-- an ended search took no more decisions than it may
pub ended_within : (g : Ground) (budget : ℕ) (ls : List Line) (r : Ended) → EndsOf g budget ls r →
    decisions ls ≤ budget
ended_within g budget ls ended.Closed h = h.1
ended_within g budget ls ended.Spent h = let all = h.0 in omega (arith, all)

pub ordered_first : (g : Ground) (order : Order) (hints : Hints) (ls : List Line) → ls ≡ [] →
    IsOrdered g order hints ls
ordered_first g order hints ls e = subst (IsOrdered g order hints) (sym e) tt
