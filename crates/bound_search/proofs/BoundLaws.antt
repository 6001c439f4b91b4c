-- Where a search stands behind a solution.
use Rattle.std.proofs.Common.{◌≡◌, ℕ, suc, ◌<◌, true, false, cond, List, [], ◌∷◌, ◌++◌, ℤ, length, refl, sym, ap, ◌∙◌, arith, subst, All, Option, Some, length-append, append_assoc}
use Rattle.std.specs.List.{Contains, AllByRecursion}
use Rattle.std.proofs.lemmas.Bool.Decides.{Decides-int_eq}
use Rattle.std.proofs.lemmas.List.{get_or_default}
use Rattle.std.proofs.lemmas.List.Elements.{All-cons}
use Rattle.signed_clause.specs.Ranges.{Ranges}
use Rattle.signed_clause.specs.Clauses.{Boxes, Literals, false_in, clause_true, IsClause, IsWithinBoxes, AreValid}
use Rattle.ground_form.specs.declared.ground.Ground.{Ground}
use Rattle.ground_form.specs.declared.ground.GroundGoal.{GroundGoal}
use Rattle.ground_form.specs.Bounds.{singles}
use Rattle.ground_form.specs.Meaning.{value_of}
use Rattle.ground_form.specs.Solutions.{IsSolution, better}
use Rattle.ground_form.specs.WellMade.{IsWellMade}
use Rattle.rule_law.specs.Singles.{IsSingle}
use Rattle.branch_choice.specs.Picks.{is_single}
use Rattle.fd_store.specs.Levels.{Stack}
use Rattle.log_form.specs.declared.line.Line.{Line}
use Rattle.log_form.specs.declared.line.Line.TheVariants.{Bound, Found}
use Rattle.log_form.specs.Acceptance.{Made, clause_at, has_empty, states, states_found, bounds, bounds_of, accepts, after, may_come, made}
use Rattle.log_form.specs.Acceptance as acceptance
use Rattle.log_check.proofs.Bounds.{bounds_form}
use Rattle.run_law.specs.Replay.{State, Mode, Going, Conflict, AtFound, Closed, top_boxes, first_false, mode_by_bounds, asked, may_stand, changed, next, state_of}
use Rattle.run_law.specs.Replay as replay
use Rattle.run_law.proofs.Fronts.{made_more as made_with, state_more as state_with}
use Rattle.run_law.proofs.LineSets.{one_more}
use Rattle.run_law.proofs.StateSteps.{made_new}
use Rattle.run_law.proofs.FoundLines.{found_follows, single_true}
use Rattle.run_law.proofs.BoundTruths.{bound_beats}
use Rattle.bound_search.specs.BoundLists.{numbered_from, values_of}
use Rattle.bound_search.specs.Awaited.{Awaited, asking}
use Rattle.bound_search.specs.Standing.{IsRun, clauses_of, IsNumbered, AreAdded, AreWatched, IsFixed, IsAt}
use Rattle.bound_search.proofs.MoreLines.{run_of, going_on, MayFollow, run_with, IsBehind, at_with, numbered_more, AreKept}
use Rattle.bound_search.proofs.Decisions.{settled_at}

-- ---- what goals say of the values found

pub states_values : (goals : List GroundGoal) (a : List ℤ) → states goals a (values_of a goals) ≡ true
states_values [] a = refl
states_values (goal ∷ goals) a =
    let here = (Decides-int_eq (value_of a goal.var) (value_of a goal.var)).1 refl in
    let more = states_values goals a in
    rw (here, more) refl

better-self : (goals : List GroundGoal) (a : List ℤ) → better goals a a ≡ false
better-self [] a = refl
better-self (goal ∷ goals) a =
    let here = (Decides-int_eq (value_of a goal.var) (value_of a goal.var)).1 refl in
    let more = better-self goals a in
    rw here more

-- ---- clauses and their numbers

clauses_of-numbered : (n : ℕ) (cs : List Literals) → clauses_of (numbered_from n cs) ≡ cs
clauses_of-numbered n [] = refl
clauses_of-numbered n (c ∷ cs) =
    ap (λ (ds : List Literals). c ∷ ds) (clauses_of-numbered (suc n) cs)

clause_here : (before : List Literals) (c : Literals) (cs : List Literals) →
    clause_at (before ++ c ∷ cs) (length before) ≡ c
clause_here [] c cs = refl
clause_here (b ∷ before) c cs = clause_here before c cs

length_one : (before : List Literals) (c : Literals) →
    length (before ++ c ∷ []) ≡ suc (length before)
length_one [] c = refl
length_one (b ∷ before) c = ap suc (length_one before c)

numbered_list : (before cs : List Literals) →
    All (λ p. IsNumbered (before ++ cs) p) (numbered_from (length before) cs)
numbered_list before [] = λ k d lt. absurd (omega arith)
numbered_list before (c ∷ cs) =
    let whole = before ++ c ∷ cs in
    let n = length before in
    let assoc : (before ++ c ∷ []) ++ cs ≡ whole = append_assoc before (c ∷ []) cs in
    let long = length-append before (c ∷ cs) in
    let here : IsNumbered whole (n, c) = record {
      exists = omega (arith, long);
      is = clause_here before c cs;
    } in
    let more : All (λ p. IsNumbered whole p) (numbered_from (length (before ++ c ∷ [])) cs) =
    subst (λ (ds : List Literals). All (λ p. IsNumbered ds p)
    (numbered_from (length (before ++ c ∷ [])) cs)) assoc (numbered_list (before ++ c ∷ []) cs) in
    let later : All (λ p. IsNumbered whole p) (numbered_from (suc n) cs) =
    subst (λ (k : ℕ). All (λ p. IsNumbered whole p) (numbered_from k cs)) (length_one before c) more
    in
    All-cons (λ p. IsNumbered whole p) (n, c) (numbered_from (suc n) cs) here later

-- ---- the Found line

pub found_run : (g : Ground) (ls : List Line) (clauses : List Literals) (levels : Stack)
    (added : Awaited) (a : List ℤ) → IsAt g ls clauses levels added Going →
    IsFixed g levels.top.now added → levels.top.now ≡ singles a → IsSolution g a →
    IsRun g (ls ++ Found a ∷ [])
found_run g ls clauses levels added a at f single sol =
    let s = state_of g ls in
    let P : Stack → Type 0 = λ k. IsFixed g k.top.now added × (k.top.now ≡ singles a) in
    let here : P s.levels = subst P (sym at.levels_are) (f, single) in
    let settled = settled_at g clauses s added at.watched here.0 in
    record {
      well_made = at.lines.well_made;
      some = at.lines.some;
      sets = one_more ls (Found a) at.lines.sets tt;
      run = found_follows g ls a (run_of g ls at.lines) (record {
        going = at.mode_is;
        settled = settled;
        is_quiet = here.0.is_quiet;
        single = here.1;
        solution = sol;
      });
    }

-- ---- the Bound line

bound_follows : (g : Ground) (m : Made) (s : State) (a vs : List ℤ) → s.mode ≡ AtFound →
    has_empty m.clauses ≡ false → m.found ≡ Some a → states g.goals a vs ≡ true →
    MayFollow g m s (Bound vs)
unfolding acceptance.accepts replay.may_stand
bound_follows g m s a vs mode open_so_far found h =
    let told : states_found g.goals m.found vs ≡ true =
    ap (λ (o : Option (List ℤ)). states_found g.goals o vs) found ∙ h in
    let at = ap replay.is_found mode in
    record { sets = tt; comes = rw (open_so_far, told) refl; stands = at }

bound_behind : (g : Ground) (m : Made) (s : State) (a vs : List ℤ)
    (added : Awaited) → m.found ≡ Some a → AreWatched m.clauses s added →
    IsBehind (after g m (Bound vs)) (next g m s (Bound vs))
    (m.clauses ++ bounds_of g.goals g.domains a) s.levels
    (asking (length m.clauses) (bounds_of g.goals g.domains a) added)
    (mode_by_bounds (top_boxes s) (length m.clauses) (bounds_of g.goals g.domains a))
unfolding acceptance.after replay.changed
bound_behind g m s a vs added found w =
    let n = length m.clauses in
    let bs = bounds_of g.goals g.domains a in
    let more = asking n bs added in
    let P : Option (List ℤ) → Type 0 = λ o. IsBehind
    (record { clauses = m.clauses ++ bounds g o; found = m.found })
    (record (asked n (bounds g o) s) { fresh = false }) (m.clauses ++ bs) s.levels more
    (mode_by_bounds (top_boxes s) n bs) in
    let new : All (λ c. Contains bs c) bs = made_new [] bs in
    let here : P (Some a) = record {
      clauses_are = refl;
      levels_are = refl;
      mode_is = refl;
      watched = record {
        numbered = numbered_more m.clauses bs added.watched w.numbered;
        asked = numbered_list m.clauses bs;
        learnt = w.learnt;
        bounds = subst (λ (cs : List Literals). All (λ c. Contains cs c) bs)
            (sym (clauses_of-numbered n bs)) new;
      };
    } in
    subst P (sym found) here

-- what stands behind the Found line
record IsFoundState (g : Ground) (m n : Made) (s t : State) (a : List ℤ) : Type 0 where
  pub clauses_are : n.clauses ≡ m.clauses
  pub found_is : n.found ≡ Some a
  pub levels_are : t.levels ≡ s.levels
  pub mode_is : t.mode ≡ AtFound
  pub learnt_is : t.learnt ≡ s.learnt
  pub bounds_are : t.bounds ≡ s.bounds

found_state : (g : Ground) (m : Made) (s : State) (a : List ℤ) →
    IsFoundState g m (after g m (Found a)) s (next g m s (Found a)) a
unfolding acceptance.after replay.changed
found_state g m s a = record {
  clauses_are = refl;
  found_is = refl;
  levels_are = refl;
  mode_is = refl;
  learnt_is = refl;
  bounds_are = refl;
}

pub bound_at : (g : Ground) (ls : List Line) (clauses : List Literals) (levels : Stack)
    (added : Awaited) (a vs : List ℤ) → IsAt g ls clauses levels added Going →
    IsRun g (ls ++ Found a ∷ []) → states g.goals a vs ≡ true →
    IsAt g ((ls ++ Found a ∷ []) ++ Bound vs ∷ [])
    (clauses ++ bounds_of g.goals g.domains a) levels
    (asking (length clauses) (bounds_of g.goals g.domains a) added)
    (mode_by_bounds levels.top.now (length clauses) (bounds_of g.goals g.domains a))
bound_at g ls clauses levels added a vs at r h =
    let bs = bounds_of g.goals g.domains a in
    let news = ls ++ Found a ∷ [] in
    let m = made g ls in
    let s = state_of g ls in
    let n = made g news in
    let t = state_of g news in
    let F : Made → State → Type 0 = λ n t. IsFoundState g m n s t a in
    let one : F (after g m (Found a)) t =
    subst (λ (t : State). F (after g m (Found a)) t) (sym (state_with g ls (Found a)))
    (found_state g m s a) in
    let f : F n t = subst (λ (n : Made). F n t) (sym (made_with g ls (Found a))) one in
    let cs : n.clauses ≡ clauses = f.clauses_are ∙ at.clauses_are in
    let ks : t.levels ≡ levels = f.levels_are ∙ at.levels_are in
    let open_so_far : has_empty n.clauses ≡ false =
    ap has_empty f.clauses_are ∙ going_on g ls at.lines at.mode_is in
    let watched : AreWatched n.clauses t added = record {
      numbered = subst (λ (ds : List Literals). All (λ p. IsNumbered ds p) added.watched) (sym cs)
          at.watched.numbered;
      asked = subst (λ (ds : List Literals). All (λ p. IsNumbered ds p) added.asked) (sym cs)
          at.watched.asked;
      learnt = subst (AreKept added) (sym f.learnt_is) at.watched.learnt;
      bounds = subst (AreAdded added.asked) (sym f.bounds_are) at.watched.bounds;
    } in
    let follows = bound_follows g n t a vs f.mode_is open_so_far f.found_is h in
    let run = run_with g news (Bound vs) r follows in
    let behind = bound_behind g n t a vs added f.found_is watched in
    let self : IsAt g (news ++ Bound vs ∷ []) (n.clauses ++ bs) t.levels
    (asking (length n.clauses) bs added)
    (mode_by_bounds t.levels.top.now (length n.clauses) bs) =
    at_with g news (Bound vs) (n.clauses ++ bs) t.levels
    (asking (length n.clauses) bs added)
    (mode_by_bounds t.levels.top.now (length n.clauses) bs) run behind in
    let two : IsAt g (news ++ Bound vs ∷ []) (clauses ++ bs) t.levels
    (asking (length clauses) bs added)
    (mode_by_bounds t.levels.top.now (length clauses) bs) =
    subst (λ (ds : List Literals). IsAt g (news ++ Bound vs ∷ []) (ds ++ bs) t.levels
    (asking (length ds) bs added) (mode_by_bounds t.levels.top.now (length ds) bs)) cs self
    in
    subst (λ (k : Stack). IsAt g (news ++ Bound vs ∷ []) (clauses ++ bs) k
    (asking (length clauses) bs added)
    (mode_by_bounds k.top.now (length clauses) bs)) ks two

-- ---- the search doesn't go on

going_not_conflict : (n : ℕ) → Conflict n ≡ Going → ⊥
going_not_conflict n e = cc

closed_not_going : Closed ≡ Going → ⊥
closed_not_going e = cc

true_clauses : (cs : List Literals) (n : ℕ) (boxes : Boxes) (a : List ℤ) → AreValid boxes →
    AllByRecursion (λ c. IsClause c) cs → boxes ≡ singles a → first_false boxes n cs ≡ Going →
    AllByRecursion (λ c. clause_true c a ≡ true) cs
true_clauses [] n boxes a v f e h = tt
true_clauses (c ∷ cs) n boxes a v f e h =
    (elim (false_in boxes c) as (λ b. false_in boxes c ≡ b →
    cond b (Conflict n) (first_false boxes (suc n) cs) ≡ Going →
    AllByRecursion (λ c. clause_true c a ≡ true) (c ∷ cs)) [
      | true ↦ λ k h. absurd (going_not_conflict n h)
      | false ↦ λ k h.
          (single_true c 0 boxes a v f.0 e k, true_clauses cs (suc n) boxes a v f.1 e h)
    ]) refl h

forms_of : (g : Ground) (a : List ℤ) (goals : List GroundGoal) → IsWellMade g → IsSolution g a →
    All (λ goal. goal.var < length g.domains) goals →
    AllByRecursion (λ c. IsClause c) (bounds_of goals g.domains a)
forms_of g a [] w s h = (tt, tt)
forms_of g a (goal ∷ goals) w s h =
    bounds_form g.domains a (goal ∷ goals) [] w.domains s.point h tt

-- some clause of the Bound line is false where the boxes are the values that were found
pub bound_stops : (g : Ground) (n : ℕ) (boxes : Boxes) (a : List ℤ) → IsWellMade g →
    AreValid boxes → boxes ≡ singles a → IsSolution g a →
    mode_by_bounds boxes n (bounds_of g.goals g.domains a) ≡ Going → ⊥
bound_stops g n boxes a w v e s h =
    let bs = bounds_of g.goals g.domains a in
    let better_self = better-self g.goals a in
    (elim (has_empty bs) as (λ b. cond b Closed (first_false boxes n bs) ≡ Going → ⊥) [
      | true ↦ λ h. closed_not_going h
      | false ↦ λ h.
          let truths = true_clauses bs n boxes a v (forms_of g a g.goals w s w.goals) e h in
          let beats : better g.goals a a ≡ true = bound_beats g (Some a) a w s truths in
          let wrong : true ≡ false = sym beats ∙ better_self in
          absurd cc
    ]) h

-- ---- what the code comes to

tail_all : (P : Literals → Type 0) (cs ds : List Literals) →
    ((j : ℕ) → P (clause_at (cs ++ ds) j)) → All (λ c. P c) ds
tail_all P [] ds h = λ k d lt. subst P (get_or_default ds k [] d lt) (h k)
tail_all P (c ∷ cs) ds h = tail_all P cs ds (λ j. h (suc j))

pub bounds_there : (boxes : Boxes) (cs ds : List Literals) →
    ((j : ℕ) → IsWithinBoxes (clause_at (cs ++ ds) j) boxes) →
    All (λ c. IsWithinBoxes c boxes) ds
bounds_there boxes cs ds h = tail_all (λ c. IsWithinBoxes c boxes) cs ds h

-- a set that is a single value
pub single_is : (s : Ranges) → is_single s ≡ true → IsSingle s
single_is [] h = absurd cc
single_is (r ∷ []) h =
    let same : r.0 ≡ r.1 = (Decides-int_eq r.0 r.1).0 h in
    (r.0, ap (λ (v : ℤ). (r.0, v) ∷ []) (sym same))
single_is (r ∷ s ∷ rs) h = absurd cc
