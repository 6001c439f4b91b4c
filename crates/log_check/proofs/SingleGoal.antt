-- With one goal or none, acceptance is what it would be without lists of goals.
use Rattle.std.proofs.Common.{◌≡◌, ◌≤◌, Bool, true, false, not, ◌&&◌, cond, List, [], ◌∷◌, ◌++◌, ℤ, Option, Some, None, length, refl, ap, ◌∙◌, arith}
use Rattle.std.specs.Ordering.{int_eq}
use Rattle.std.proofs.lemmas.Int.{ints}
use Rattle.std.proofs.Math.Bool.{and-true}
use Rattle.std.proofs.lemmas.Bool.Decides.{Decides-int_eq}
use Rattle.signed_clause.specs.Clauses.{Boxes, Literals}
use Rattle.ground_form.specs.declared.ground.Ground.{Ground}
use Rattle.ground_form.specs.declared.ground.GroundGoal.{GroundGoal}
use Rattle.ground_form.specs.Meaning.{value_of}
use Rattle.ground_form.specs.Solutions.{better}
use Rattle.log_form.specs.declared.line.Line.{Line}
use Rattle.log_form.specs.declared.line.Line.TheVariants.{Axiom, Chain, Bound, Use, Found, Decide, Empty}
use Rattle.log_form.specs.Acceptance.{Made, start, has_empty, point_of, all_true, beats, states, states_found, bounds, bounds_of, accepts, after, accepted_from, made_from}
use Rattle.log_check.specs.OneGoal.{goal_of, better_at, improves, states_value, states_last, bound_at, bound_last, one_accepts, one_after, one_accepted_from, one_made_from}
use Rattle.log_check.proofs.Bounds.{beats_value}

equal_not_better : (up e : Bool) (v w : ℤ) → int_eq v w ≡ e → cond e false (beats_value up v w) ≡ beats_value up v w
equal_not_better true true v w h = let same = (Decides-int_eq v w).0 h in grind (arith, ints)
equal_not_better false true v w h = let same = (Decides-int_eq v w).0 h in grind (arith, ints)
equal_not_better up false v w h = refl

better_is : (goals : List GroundGoal) (a b : List ℤ) → length goals ≤ 1 → better goals a b ≡ better_at (goal_of goals) a b
better_is [] a b h = refl
better_is (goal ∷ []) a b h = equal_not_better goal.max (int_eq (value_of a goal.var) (value_of b goal.var)) (value_of a goal.var) (value_of b goal.var) refl
better_is (goal ∷ next ∷ goals) a b h = absurd (omega arith)

beats_is : (goals : List GroundGoal) (found : Option (List ℤ)) (a : List ℤ) → length goals ≤ 1 → beats goals found a ≡ improves (goal_of goals) found a
beats_is goals None a h = refl
beats_is goals (Some b) a h = better_is goals a b h

states_is : (goals : List GroundGoal) (a vs : List ℤ) → length goals ≤ 1 → states goals a vs ≡ states_value (goal_of goals) a vs
states_is [] a [] h = refl
states_is [] a (v ∷ vs) h = refl
states_is (goal ∷ []) a [] h = refl
states_is (goal ∷ []) a (v ∷ []) h = and-true (int_eq v (value_of a goal.var))
states_is (goal ∷ []) a (v ∷ w ∷ vs) h = elim (int_eq v (value_of a goal.var)) as (λ b. (b && false) ≡ false) [ true ↦ refl | false ↦ refl ]
states_is (goal ∷ next ∷ goals) a vs h = absurd (omega arith)

states_found_is : (goals : List GroundGoal) (found : Option (List ℤ)) (vs : List ℤ) → length goals ≤ 1 → states_found goals found vs ≡ states_last (goal_of goals) found vs
states_found_is goals None vs h = refl
states_found_is goals (Some a) vs h = states_is goals a vs h

bounds_of_is : (goals : List GroundGoal) (domains : Boxes) (a : List ℤ) → length goals ≤ 1 → bounds_of goals domains a ≡ bound_at (goal_of goals) domains a ∷ []
bounds_of_is [] domains a h = refl
bounds_of_is (goal ∷ []) domains a h = refl
bounds_of_is (goal ∷ next ∷ goals) domains a h = absurd (omega arith)

bounds_is : (g : Ground) (found : Option (List ℤ)) → length g.goals ≤ 1 → bounds g found ≡ bound_last g found
bounds_is g None h = refl
bounds_is g (Some a) h = bounds_of_is g.goals g.domains a h

accepts_is : (g : Ground) (m : Made) (l : Line) → length g.goals ≤ 1 → accepts g m l ≡ one_accepts g m l
unfolding accepts
accepts_is g m (Axiom k c) h = refl
accepts_is g m (Chain chain c) h = refl
accepts_is g m (Bound values) h = states_found_is g.goals m.found values h
accepts_is g m (Use i) h = refl
accepts_is g m (Found a) h = ap (λ b. point_of g.domains a && (all_true g.cons a && b)) (beats_is g.goals m.found a h)
accepts_is g m (Decide x set) h = refl
accepts_is g m (Empty x) h = refl

after_is : (g : Ground) (m : Made) (l : Line) → length g.goals ≤ 1 → after g m l ≡ one_after g m l
unfolding after
after_is g m (Axiom k c) h = refl
after_is g m (Chain chain c) h = refl
after_is g m (Bound values) h = ap (λ (z : List Literals). record { clauses = m.clauses ++ z; found = m.found }) (bounds_is g m.found h)
after_is g m (Use i) h = refl
after_is g m (Found a) h = refl
after_is g m (Decide x set) h = refl
after_is g m (Empty x) h = refl

accepted_is : (g : Ground) (m : Made) (ls : List Line) → length g.goals ≤ 1 → accepted_from g m ls ≡ one_accepted_from g m ls
accepted_is g m [] h = refl
accepted_is g m (l ∷ ls) h =
    ap (λ b. (not (has_empty m.clauses) && b) && accepted_from g (after g m l) ls) (accepts_is g m l h)
    ∙ ap (λ b. (not (has_empty m.clauses) && one_accepts g m l) && b) (ap (λ (z : Made). accepted_from g z ls) (after_is g m l h) ∙ accepted_is g (one_after g m l) ls h)

made_is : (g : Ground) (m : Made) (ls : List Line) → length g.goals ≤ 1 → made_from g m ls ≡ one_made_from g m ls
made_is g m [] h = refl
made_is g m (l ∷ ls) h = ap (λ (z : Made). made_from g z ls) (after_is g m l h) ∙ made_is g (one_after g m l) ls h

pub same_acceptance : (g : Ground) (ls : List Line) → length g.goals ≤ 1 → accepted_from g start ls ≡ one_accepted_from g start ls
same_acceptance g ls h = accepted_is g start ls h

pub same_made : (g : Ground) (ls : List Line) → length g.goals ≤ 1 → made_from g start ls ≡ one_made_from g start ls
same_made g ls h = made_is g start ls h
