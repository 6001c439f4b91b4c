-- What solutions of the ground problem of a model say of its configurations.
use Rattle.std.proofs.Common.{◌≡◌, ◌∙◌, ◌≤◌, ℕ, zero, suc, ◌<◌, Bool, true, false, cond, List, [], ◌∷◌, ℤ, Option, Some, None, IfSome, take, length, int_lt, nat_eq, nat_lt, pos, refl, ap, sym, subst, arith}
use Rattle.std.proofs.lemmas.Int.{ints}
use Rattle.std.specs.List.{All}
use Rattle.std.specs.Ordering.{int_eq}
use Rattle.class_table.specs.Outline.{Outline}
use Rattle.conf_eval.specs.Meaning.{int_same}
use Rattle.conf_eval.specs.Satisfying as model
use Rattle.conf_eval.specs.Satisfying.{objectives}
use Rattle.conf_types.specs.Programs.{ResolvedConstraint, ResolvedGoal}
use Rattle.ground_cells.proofs.Points.{cells_agree}
use Rattle.ground_cells.specs.CellBoxes.{cell_boxes}
use Rattle.ground_model.specs.Objectives.{functions}
use Rattle.ground_form.specs.declared.con.Con.{Con}
use Rattle.ground_form.specs.declared.ground.GroundGoal.{GroundGoal}
use Rattle.ground_form.specs.declared.ground.Ground.{Ground}
use Rattle.ground_form.specs.Meaning.{value_of, con_true}
use Rattle.ground_form.specs.Solutions.{IsPoint, IsSolution, better}
use Rattle.ground_form.specs.StandsFor.{IsDefinition, IsExtension, AreGoalValues}
use Rattle.log_check.specs.Soundness.{Means, FoundSolves}
use Rattle.log_check.specs.Verdicts.{Ending}
use Rattle.log_check.specs.Kinds.{shown_of}
use Rattle.log_form.specs.Acceptance.{shown_by, FailsFirst}
use Rattle.log_form.specs.declared.line.Line.{Line}
use Rattle.object_alloc.specs.Configurations.{IsConfiguration}
use Rattle.run_law.proofs.Fronts.{run_accepted, run_front}
use Rattle.run_law.specs.Replay.{is_run}
use Rattle.signed_clause.specs.Clauses.{Boxes, box_of}
use Rattle.signed_clause.specs.Ranges.{has}
use Rattle.model_search.specs.Findings.{finding, finding_by, Tells}
use Rattle.model_search.specs.declared.finding.Finding.{Finding}
use Rattle.model_search.specs.Problems.{IsProblemOf, aims}
use Rattle.model_search.specs.Wanted.{IsWanted, IsBestOf, HasNoneOf, improves}
use Rattle.object_alloc.specs.Changes.{changes}
use Rattle.reconfigure.specs.declared.repair.Repair.{Repair}

-- a front of a point is a point of the boxes' front
pub front_point : (n : ℕ) (boxes : Boxes) (a : List ℤ) → IsPoint boxes a → IsPoint (take n boxes) (take n a)
front_point zero boxes a p = record { size = refl; within = λ x lt. absurd (omega (arith, lt)) }
front_point (suc n) [] [] p = record { size = refl; within = λ x lt. absurd (omega (arith, lt)) }
front_point (suc n) [] (v ∷ vs) p = absurd (omega (arith, p.size))
front_point (suc n) (b ∷ bs) [] p = absurd (omega (arith, p.size))
front_point (suc n) (b ∷ bs) (v ∷ vs) p =
    let rest = front_point n bs vs (record { size = omega (arith, p.size); within = λ x lt. p.within (suc x) (omega (arith, lt)) }) in
    record { size = ap suc rest.size; within = at rest }
  where
    at : IsPoint (take n bs) (take n vs) → (x : ℕ) → x < length (b ∷ take n bs) → has (box_of (b ∷ take n bs) x) (value_of (v ∷ take n vs) x) ≡ true
    at rest zero lt = p.within 0 (omega arith)
    at rest (suc x) lt = rest.within x (omega (arith, lt))

definitions_true : (n : ℕ) (a : List ℤ) (cons : List Con) → All (λ con. con_true con a ≡ true) cons → All (λ con. IsDefinition n con → con_true con a ≡ true) cons
definitions_true n a cons h = λ k d lt _. h k d lt

-- a solution is the extension of its front
extends : (g : Ground) (a : List ℤ) → IsSolution g a → IsExtension g (take g.search a) a
extends g a s = record { front = refl; point = s.point; definitions = definitions_true g.search a g.cons s.truths }

-- what a solution says of the configuration that it begins with
pub record IsOfConfiguration (o : Outline) (ks : List ResolvedConstraint) (r : Option Repair) (g : Ground) (a : List ℤ) : Type 0 where
  pub point : IsPoint (cell_boxes o) (take g.search a)
  pub extension : IsExtension g (take g.search a) a
  pub configuration : IsConfiguration o (take g.search a)
  pub wanted : IsWanted o ks r (take g.search a)

pub solution_wanted : (o : Outline) (ks : List ResolvedConstraint) (gs : List ResolvedGoal) (r : Option Repair) (g : Ground) (a : List ℤ) → IsProblemOf o ks gs r g → IsSolution g a → IsOfConfiguration o ks r g a
solution_wanted o ks gs r g a p s =
    let point = subst (λ b. IsPoint b (take g.search a)) p.stands.cells_first (front_point g.search g.domains a s.point) in
    let faithful = p.stands.faithful (take g.search a) point in
    let passes = (faithful.truths a (extends g a s)).0 s.truths in
    record {
      point = point;
      extension = extends g a s;
      configuration = (cells_agree o (take g.search a)).0 point;
      wanted = (p.asks (take g.search a)).0 passes;
    }

-- a wanted configuration is the front of a solution
pub record HasSolution (o : Outline) (g : Ground) (u : List ℤ) : Type 0 where
  pub values : List ℤ
  pub point : IsPoint (cell_boxes o) u
  pub extension : IsExtension g u values
  pub solution : IsSolution g values

pub wanted_solves : (o : Outline) (ks : List ResolvedConstraint) (gs : List ResolvedGoal) (r : Option Repair) (g : Ground) (u : List ℤ) → IsProblemOf o ks gs r g → IsConfiguration o u → IsWanted o ks r u → HasSolution o g u
wanted_solves o ks gs r g u p c s =
    let point = (cells_agree o u).1 c in
    let faithful = p.stands.faithful u point in
    let extension = faithful.extension in
    record {
      values = extension.0;
      point = point;
      extension = extension.1;
      solution = record { point = extension.1.point; truths = (faithful.truths extension.0 extension.1).1 ((p.asks u).1 s) };
    }

same_numbers : (v w : ℤ) → int_same v w ≡ int_eq v w
same_numbers v w = grind (arith, ints)

compared : (m : Bool) (x y : ℤ) (r s : Bool) → r ≡ s → cond (int_eq x y) r (cond m (int_lt y x) (int_lt x y)) ≡ cond (int_same x y) s (cond m (int_lt y x) (int_lt x y))
compared m x y r s h = subst (λ t. cond (int_eq x y) r (cond m (int_lt y x) (int_lt x y)) ≡ cond (int_same x y) t (cond m (int_lt y x) (int_lt x y))) h (ap (λ b. cond b r (cond m (int_lt y x) (int_lt x y))) (sym (same_numbers x y)))

-- of two solutions with the objectives' values the same one is better
pub better_agrees : (o : Outline) (gs : List ResolvedGoal) (goals : List GroundGoal) (u t b a : List ℤ) → AreGoalValues goals (functions o gs) u b → AreGoalValues goals (functions o gs) t a → better goals b a ≡ model.better gs (objectives o gs u) (objectives o gs t)
better_agrees o [] [] u t b a h k = refl
better_agrees o [] (goal ∷ goals) u t b a h k = absurd h
better_agrees o (q ∷ gs) [] u t b a h k = absurd h
better_agrees o (q ∷ gs) (goal ∷ goals) u t b a h k =
    let rest = better_agrees o gs goals u t b a h.2 k.2 in
    let now = compared q.max (model.objective o u q) (model.objective o t q) (better goals b a) (model.better gs (objectives o gs u) (objectives o gs t)) rest in
    ap (λ m. cond (int_eq (value_of b goal.var) (value_of a goal.var)) (better goals b a) (cond m (int_lt (value_of a goal.var) (value_of b goal.var)) (int_lt (value_of b goal.var) (value_of a goal.var)))) h.0
    ∙ ap (λ v. cond (int_eq v (value_of a goal.var)) (better goals b a) (cond q.max (int_lt (value_of a goal.var) v) (int_lt v (value_of a goal.var)))) h.1
    ∙ ap (λ w. cond (int_eq (model.objective o u q) w) (better goals b a) (cond q.max (int_lt w (model.objective o u q)) (int_lt (model.objective o u q) w))) k.1
    ∙ now

not_true : (b : Bool) → (b ≡ true → ⊥) → b ≡ false
not_true true h = absurd (h refl)
not_true false h = refl

counts_compared : (m n : ℕ) (r s : Bool) → r ≡ s → cond (int_eq (pos m) (pos n)) r (int_lt (pos m) (pos n)) ≡ cond (nat_eq m n) s (nat_lt m n)
counts_compared m n r s h = ap (λ t. cond (int_eq (pos m) (pos n)) t (int_lt (pos m) (pos n))) h ∙ grind (arith, ints)

-- of two solutions the one with fewer changes is better, or that with better objectives
pub changes_agree : (o : Outline) (gs : List ResolvedGoal) (goals : List GroundGoal) (r : Repair) (u t b a : List ℤ) → AreGoalValues goals (aims o gs (Some r)) u b → AreGoalValues goals (aims o gs (Some r)) t a → better goals b a ≡ improves o gs r u t
changes_agree o gs [] r u t b a h k = absurd h
changes_agree o gs (goal ∷ goals) r u t b a h k =
    let rest = better_agrees o gs goals u t b a h.2 k.2 in
    let m = changes o r.former u in
    let n = changes o r.former t in
    ap (λ d. cond (int_eq (value_of b goal.var) (value_of a goal.var)) (better goals b a) (cond d (int_lt (value_of a goal.var) (value_of b goal.var)) (int_lt (value_of b goal.var) (value_of a goal.var)))) h.0
    ∙ ap (λ v. cond (int_eq v (value_of a goal.var)) (better goals b a) (int_lt v (value_of a goal.var))) h.1
    ∙ ap (λ w. cond (int_eq (pos m) w) (better goals b a) (int_lt (pos m) w)) k.1
    ∙ counts_compared m n (better goals b a) (model.better gs (objectives o gs u) (objectives o gs t)) rest

-- none is better than a solution that no solution is better than
pub best_of : (o : Outline) (ks : List ResolvedConstraint) (gs : List ResolvedGoal) (r : Option Repair) (g : Ground) (a : List ℤ) → IsProblemOf o ks gs r g → IsSolution g a → ((b : List ℤ) → IsSolution g b → better g.goals b a ≡ true → ⊥) → IsBestOf o ks gs r (take g.search a)
best_of o ks gs None g a p s none = λ u c k.
    let here = solution_wanted o ks gs None g a p s in
    let there = wanted_solves o ks gs None g u p c k in
    let agrees = better_agrees o gs g.goals u (take g.search a) there.values a ((p.stands.faithful u there.point).goals there.values there.extension) ((p.stands.faithful (take g.search a) here.point).goals a here.extension) in
    not_true (model.better gs (objectives o gs u) (objectives o gs (take g.search a))) (λ h. none there.values there.solution (agrees ∙ h))
best_of o ks gs (Some r) g a p s none = λ u c k.
    let here = solution_wanted o ks gs (Some r) g a p s in
    let there = wanted_solves o ks gs (Some r) g u p c k in
    let agrees = changes_agree o gs g.goals r u (take g.search a) there.values a ((p.stands.faithful u there.point).goals there.values there.extension) ((p.stands.faithful (take g.search a) here.point).goals a here.extension) in
    not_true (improves o gs r u (take g.search a)) (λ h. none there.values there.solution (agrees ∙ h))

none_of : (o : Outline) (ks : List ResolvedConstraint) (gs : List ResolvedGoal) (r : Option Repair) (g : Ground) → IsProblemOf o ks gs r g → ((b : List ℤ) → IsSolution g b → ⊥) → HasNoneOf o ks r
none_of o ks gs None g p never = λ u c s. let there = wanted_solves o ks gs None g u p c s in never there.values there.solution
none_of o ks gs (Some r) g p never = λ u c s. let there = wanted_solves o ks gs (Some r) g u p c s in never there.values there.solution

found_tells : (o : Outline) (ks : List ResolvedConstraint) (gs : List ResolvedGoal) (r : Option Repair) (g : Ground) (closed : Bool) (found : Option (List ℤ)) → IsProblemOf o ks gs r g → Means g (shown_by closed found) → FoundSolves g found → Tells o ks gs r (finding_by g closed found)
found_tells o ks gs r g true (Some a) p m f =
    let here = solution_wanted o ks gs r g a p m.0 in
    (here.configuration, here.wanted, best_of o ks gs r g a p m.0 m.1)
found_tells o ks gs r g true None p m f = none_of o ks gs r g p m
found_tells o ks gs r g false (Some a) p m f =
    let here = solution_wanted o ks gs r g a p f in
    (here.configuration, here.wanted)
found_tells o ks gs r g false None p m f = tt

-- what a verdict says of the problem, it tells of the model
pub verdict_tells : (o : Outline) (ks : List ResolvedConstraint) (gs : List ResolvedGoal) (r : Option Repair) (g : Ground) (e : Ending) → IsProblemOf o ks gs r g → Means g (shown_of e) → FoundSolves g e.found → Tells o ks gs r (finding g e)
verdict_tells o ks gs r g e p m f = found_tells o ks gs r g e.closed e.found p m f

pub tells_as : (o : Outline) (ks : List ResolvedConstraint) (gs : List ResolvedGoal) (r : Option Repair) (g : Ground) (e : Ending) (f : Finding) → f ≡ finding g e → IsProblemOf o ks gs r g → Means g (shown_of e) → FoundSolves g e.found → Tells o ks gs r f
tells_as o ks gs r g e f is p m found = subst (λ x. Tells o ks gs r x) (sym is) (verdict_tells o ks gs r g e p m found)

-- a solution has a value for each searched variable
pub long_enough : (o : Outline) (ks : List ResolvedConstraint) (gs : List ResolvedGoal) (r : Option Repair) (g : Ground) (found : Option (List ℤ)) → IsProblemOf o ks gs r g → FoundSolves g found → IfSome found (λ a. g.search ≤ length a)
long_enough o ks gs r g None p f = tt
long_enough o ks gs r g (Some a) p f =
    let size = f.point.size in
    let few = p.stands.well_made.search in
    omega (arith, size, few)

-- no line of a run fails
pub run_is_taken : (g : Ground) (ls : List Line) (n : ℕ) → is_run g ls ≡ true → FailsFirst g ls n → ⊥
run_is_taken g ls n h f =
    let yes = run_accepted g (take n ls) (run_front g ls n h) in
    let no = f.here in
    absurd cc
