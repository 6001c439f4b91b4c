-- Behind a solution a Bound line may follow, and it ends the level: one of its clauses is false.
use Rattle.std.proofs.Common.{◌≡◌, ℕ, suc, ◌<◌, ◌⊎◌, inl, inr, Bool, true, false, ◌&&◌, ◌||◌, cond, List, [], ◌∷◌, ◌++◌, ℤ, length, refl, ap, ◌∙◌, arith, subst, All, Option, Some}
use Rattle.std.proofs.lemmas.Int.{ints}
use Rattle.std.proofs.lemmas.List.{get_or_past}
use Rattle.std.proofs.lemmas.Bool.{and_from, cases_lt, false_from_ne_true}
use Rattle.signed_clause.specs.Ranges.{Ranges, has, is_nil, IsValid}
use Rattle.signed_clause.specs.SetAlgebra.{is_disjoint}
use Rattle.signed_clause.specs.Clauses.{Boxes, Literals, box_of, false_in, clause_true, IsClauseFrom, IsClause, AreValid}
use Rattle.signed_clause.proofs.RangeSteps.{meet-none}
use Rattle.signed_clause.proofs.SetFacts.{disjoint_law}
use Rattle.ground_form.specs.declared.ground.Ground.{Ground}
use Rattle.ground_form.specs.declared.ground.GroundGoal.{GroundGoal}
use Rattle.ground_form.specs.Meaning.{value_of}
use Rattle.ground_form.specs.Bounds.{singles}
use Rattle.ground_form.proofs.SingleValues.{box_single}
use Rattle.log_form.specs.declared.line.Line.{Line}
use Rattle.log_form.specs.declared.line.Line.TheVariants.{Bound}
use Rattle.log_form.specs.Acceptance.{Made, has_empty, better_than, with_literal, better_values, bounds, bounds_from, bounds_of, states, states_found, may_come, made}
use Rattle.log_form.specs.Acceptance as acceptance
use Rattle.log_check.specs.Soundness.{FoundSolves}
use Rattle.log_check.proofs.Bounds.{beats_value, with_true, with_form}
use Rattle.run_law.specs.Replay.{State, Mode, Going, Conflict, AtFound, Closed, top_boxes, first_false, mode_by_bounds, may_stand, changed, next, is_run, state_of}
use Rattle.run_law.specs.Replay as replay
use Rattle.run_law.specs.Fixpoints.{is_ended}
use Rattle.run_law.proofs.Within.{better_set}
use Rattle.run_law.proofs.LevelFacts.{stack_boxes}
use Rattle.run_law.proofs.StateSteps.{HoldsIn}
use Rattle.run_law.proofs.RunLaws.{IsRunOf, state_is}
use Rattle.run_law.proofs.Fronts.{run_more, state_more}
use Rattle.run_law.proofs.BoundTruths.{AreFound, beats_here}
use Rattle.run_law.proofs.Waiting.{run_sound}
use Rattle.run_law.proofs.FoundLines.{alone}

-- ---- clauses that are false at single values

apart_alone : (s : Ranges) (v : ℤ) → IsValid s → IsValid ((v, v) ∷ []) → has s v ≡ false →
    is_disjoint s ((v, v) ∷ []) ≡ true
apart_alone s v f g h = (disjoint_law s ((v, v) ∷ []) f g).1 (λ w k.
    false_from_ne_true (has ((v, v) ∷ []) w) (λ here.
    let same = alone v w here in
    let there : has s v ≡ true = subst (λ (z : ℤ). has s z ≡ true) same k in
    grind arith))

both_false : (a b : Bool) → (a || b) ≡ false → (a ≡ false) × (b ≡ false)
both_false true b h = absurd cc
both_false false b h = (refl, h)

length_singles : (a : List ℤ) → length (singles a) ≡ length a
length_singles [] = refl
length_singles (v ∷ a) = ap suc (length_singles a)

false_literal : (boxes : Boxes) (a : List ℤ) (l : ℕ × Ranges) → AreValid boxes → IsValid l.1 →
    boxes ≡ singles a → has l.1 (value_of a l.0) ≡ false →
    is_disjoint l.1 (box_of boxes l.0) ≡ true
false_literal boxes a l valid f e h =
    let long : length boxes ≡ length a = ap (λ (b : Boxes). length b) e ∙ length_singles a in
    elim (cases_lt l.0 (length a)) [
      | inl lt ↦
          let at : box_of boxes l.0 ≡ (value_of a l.0, value_of a l.0) ∷ [] =
          ap (λ (b : Boxes). box_of b l.0) e ∙ box_single a l.0 lt in
          let apart = apart_alone l.1 (value_of a l.0) f (subst IsValid at (valid l.0)) h in
          ap (λ (b : Ranges). is_disjoint l.1 b) at ∙ apart
      | inr past ↦
          let at : box_of boxes l.0 ≡ [] = get_or_past boxes l.0 [] (omega (arith, past, long)) in
          ap (λ (b : Ranges). is_disjoint l.1 b) at ∙ ap is_nil (meet-none l.1)
    ]

false_single : (c : Literals) (n : ℕ) (boxes : Boxes) (a : List ℤ) → AreValid boxes →
    IsClauseFrom n c → boxes ≡ singles a → clause_true c a ≡ false → false_in boxes c ≡ true
false_single [] n boxes a v f e h = refl
false_single (l ∷ c) n boxes a v f e h =
    let p = both_false (has l.1 (value_of a l.0)) (clause_true c a) h in
    and_from (is_disjoint l.1 (box_of boxes l.0)) (false_in boxes c)
    (false_literal boxes a l v f.2 e p.0) (false_single c (suc l.0) boxes a v f.3 e p.1)

-- ---- the last bound is false at the values themselves

-- nothing is better than itself
not_itself : (up : Bool) (v : ℤ) → beats_value up v v ≡ false
not_itself true v = grind (arith, ints)
not_itself false v = grind (arith, ints)

either_true : (a b : Bool) → b ≡ true → (a || b) ≡ true
either_true true b h = refl
either_true false b h = h

no_better : (domains : Boxes) (b : List ℤ) (goal : GroundGoal) → AreFound domains b →
    goal.var < length domains → has (better_values domains b goal) (value_of b goal.var) ≡ false
no_better domains b goal f lt =
    let v = value_of b goal.var in
    false_from_ne_true (has (better_values domains b goal) v) (λ h.
    let beats = beats_here domains b goal v f lt h in
    let itself = not_itself goal.max v in
    grind arith)

-- some clause of the list is false
abbrev some_false : Boxes → List Literals → Bool
some_false boxes [] = false
some_false boxes (c ∷ cs) = false_in boxes c || some_false boxes cs

-- the boxes are the values alone
record AreAt (domains boxes : Boxes) (b : List ℤ) : Type 0 where
  pub found : AreFound domains b
  pub sets : AreValid boxes
  pub single : boxes ≡ singles b

plus_false : (domains : Boxes) (b : List ℤ) (goal : GroundGoal) (earlier : Literals) →
    AreFound domains b → goal.var < length domains → IsClause earlier →
    clause_true earlier b ≡ false →
    clause_true (with_literal goal.var (better_values domains b goal) earlier) b ≡ false
plus_false domains b goal earlier f lt form h =
    let set = better_set domains b goal f.sets f.point lt in
    let none = no_better domains b goal f lt in
    with_true 0 goal.var _ earlier b set.valid form ∙ rw (none, h) refl

bounds_false : (domains boxes : Boxes) (b : List ℤ) (goal : GroundGoal) (goals : List GroundGoal)
    (earlier : Literals) → AreAt domains boxes b →
    All (λ goal. goal.var < length domains) (goal ∷ goals) → IsClause earlier →
    clause_true earlier b ≡ false →
    some_false boxes (bounds_from domains b earlier (goal ∷ goals)) ≡ true
bounds_false domains boxes b goal [] earlier f w form h =
    let lt : goal.var < length domains = w 0 goal (omega arith) in
    let set = better_set domains b goal f.found.sets f.found.point lt in
    let clause = with_literal goal.var (better_values domains b goal) earlier in
    let last = with_form 0 goal.var _ earlier (omega arith) set.valid form in
    let is_false = plus_false domains b goal earlier f.found lt form h in
    let here = false_single clause 0 boxes b f.sets last f.single is_false in
    rw here refl
bounds_false domains boxes b goal (next ∷ goals) earlier f w form h =
    let lt : goal.var < length domains = w 0 goal (omega arith) in
    let set = better_set domains b goal f.found.sets f.found.point lt in
    let plus = with_literal goal.var (better_values domains b goal) earlier in
    let last = with_form 0 goal.var _ earlier (omega arith) set.valid form in
    let is_false = plus_false domains b goal earlier f.found lt form h in
    either_true _ _ (bounds_false domains boxes b next goals plus f
    (λ k d less. w (suc k) d (omega arith)) last is_false)

-- a false clause is a conflict
false_ends : (boxes : Boxes) (n : ℕ) (cs : List Literals) → some_false boxes cs ≡ true →
    is_ended (first_false boxes n cs) ≡ true
false_ends boxes n [] h = absurd cc
false_ends boxes n (c ∷ cs) h =
    (elim (false_in boxes c) as (λ b. (b || some_false boxes cs) ≡ true →
    is_ended (cond b (Conflict n) (first_false boxes (suc n) cs)) ≡ true) [
      | true ↦ λ h. refl
      | false ↦ λ h. false_ends boxes (suc n) cs h
    ]) h

ended_by : (boxes : Boxes) (n : ℕ) (cs : List Literals) →
    (has_empty cs ≡ true) ⊎ (some_false boxes cs ≡ true) →
    is_ended (mode_by_bounds boxes n cs) ≡ true
ended_by boxes n cs h =
    (elim (has_empty cs) as (λ b. (b ≡ true) ⊎ (some_false boxes cs ≡ true) →
    is_ended (cond b Closed (first_false boxes n cs)) ≡ true) [
      | true ↦ λ h. refl
      | false ↦ λ h. elim h [ inl e ↦ absurd cc | inr e ↦ false_ends boxes n cs e ]
    ]) h

bounds_end : (domains boxes : Boxes) (b : List ℤ) (goals : List GroundGoal) (n : ℕ) →
    AreAt domains boxes b → All (λ goal. goal.var < length domains) goals →
    is_ended (mode_by_bounds boxes n (bounds_of goals domains b)) ≡ true
bounds_end domains boxes b [] n f w = refl
bounds_end domains boxes b (goal ∷ goals) n f w =
    ended_by boxes n (bounds_of (goal ∷ goals) domains b)
    (inr (bounds_false domains boxes b goal goals [] f w tt refl))

-- ---- the line

-- what was found last, and its goals' values
pub record IsBoundLine (g : Ground) (m : Made) (s : State) (a values : List ℤ) : Type 0 where
  pub at_found : s.mode ≡ AtFound
  pub found : m.found ≡ Some a
  pub values_are : states g.goals a values ≡ true

pub bound_follows : (g : Ground) (ls : List Line) (a values : List ℤ) → IsRunOf g ls →
    IsBoundLine g (made g ls) (state_of g ls) a values → is_run g (ls ++ Bound values ∷ []) ≡ true
unfolding acceptance.accepts replay.may_stand
bound_follows g ls a values r w =
    let m = made g ls in
    let s = state_of g ls in
    let open_so_far : has_empty m.clauses ≡ false =
    (subst (HoldsIn m (top_boxes s)) w.at_found (state_is g ls r).mode_holds).0 in
    let stated : states_found g.goals m.found values ≡ true =
    ap (λ (o : Option (List ℤ)). states_found g.goals o values) w.found ∙ w.values_are in
    let comes : may_come g m (Bound values) ≡ true = rw (open_so_far, stated) refl in
    let stands : may_stand g m s (Bound values) ≡ true = ap replay.is_found w.at_found in
    run_more g ls (Bound values)
    ∙ and_from (is_run g ls) (may_come g m (Bound values) && may_stand g m s (Bound values)) r.run
    (and_from (may_come g m (Bound values)) (may_stand g m s (Bound values)) comes stands)

-- where the present boxes are the values alone, there is a conflict behind it, or the end
pub bound_ends : (g : Ground) (ls : List Line) (a values : List ℤ) → IsRunOf g ls →
    IsBoundLine g (made g ls) (state_of g ls) a values → top_boxes (state_of g ls) ≡ singles a →
    is_ended (state_of g (ls ++ Bound values ∷ [])).mode ≡ true
unfolding replay.changed
bound_ends g ls a values r w single =
    let m = made g ls in
    let s = state_of g ls in
    let n = length m.clauses in
    let sound = run_sound g ls r.well_made r.sets r.run in
    let solved : FoundSolves g (Some a) = subst (FoundSolves g) w.found sound.solved in
    let boxes = stack_boxes m.clauses g.domains s.levels (state_is g ls r).stack in
    let at : AreAt g.domains (top_boxes s) a = record {
      found = record { sets = r.well_made.domains; point = solved.point };
      sets = boxes.sets;
      single = single;
    } in
    let ends = bounds_end g.domains (top_boxes s) a g.goals n at r.well_made.goals in
    let behind : is_ended (mode_by_bounds (top_boxes s) n (bounds g m.found)) ≡ true =
    ap (λ (o : Option (List ℤ)). is_ended (mode_by_bounds (top_boxes s) n (bounds g o))) w.found
    ∙ ends in
    ap (λ (t : State). is_ended t.mode) (state_more g ls (Bound values)) ∙ behind
