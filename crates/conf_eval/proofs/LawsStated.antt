-- The constraints and objectives of a typed model with narrow numbers may be evaluated, each constraint for each object for which it is stated.
use Rattle.std.proofs.Common.{◌≡◌, ℕ, true, List, [], ◌∷◌, Option, None, Some, ℤ, refl}
use Rattle.std.specs.Prelude.{All}
use Rattle.std.specs.List.{list_all}
use Rattle.std.proofs.lemmas.Bool.{and_parts}
use Rattle.std.proofs.lemmas.List.Elements.{All-nil, All-cons, All-head, All-tail, All-weaker, All-map, All-contains_itself}
use Rattle.class_table.specs.Outline.{Outline}
use Rattle.conf_types.specs.declared.types.ExprType.TheVariants as type
use Rattle.conf_types.specs.Programs.{ResolvedConstraint, ResolvedGoal}
use Rattle.conf_types.specs.Typing.{outermost, IsTypedConstraint, IsTypedGoal, IsTypedModel}
use Rattle.object_alloc.specs.Cells.{extent}
use Rattle.conf_eval.specs.Fitting.{IsThis, IsEvaluable}
use Rattle.conf_limits.specs.Measures.{constraint_narrow, goal_narrow, model_narrow}
use Rattle.conf_eval.specs.Satisfying.{setting, stated_for}

module _ (o : Outline) (vs : List ℤ) where
  this_fits : (class : Option ℕ) → All (IsThis o class) (stated_for o class)
  this_fits None = All-cons (IsThis o None) None [] tt (All-nil (IsThis o None))
  this_fits (Some c) = All-map (IsThis o (Some c)) (λ x. Some x) (extent o c) (All-contains_itself (extent o c))

  pub constraint_evaluable : (k : ResolvedConstraint) → IsTypedConstraint o k → constraint_narrow o k ≡ true → All (λ this. IsEvaluable o vs k.tree (setting o vs this)) (stated_for o k.class)
  constraint_evaluable k t n =
      All-weaker (IsThis o k.class) (λ this. IsEvaluable o vs k.tree (setting o vs this))
      (λ this h. record { place = outermost k.class; type = type.Truth; setting = record { outline = refl; values = refl; this = h; vars = tt }; typed = t.type; numbers = n })
      (stated_for o k.class) (this_fits k.class)

  pub goal_evaluable : (g : ResolvedGoal) → IsTypedGoal o g → goal_narrow o g ≡ true → IsEvaluable o vs g.tree (setting o vs None)
  goal_evaluable g t n = record { place = outermost None; type = type.Int; setting = record { outline = refl; values = refl; this = tt; vars = tt }; typed = t; numbers = n }

  -- those of a whole model
  pub record AreStated (ks : List ResolvedConstraint) (gs : List ResolvedGoal) : Type 0 where
    pub constraints : All (λ (k : ResolvedConstraint). All (λ this. IsEvaluable o vs k.tree (setting o vs this)) (stated_for o k.class)) ks
    pub goals : All (λ (g : ResolvedGoal). IsEvaluable o vs g.tree (setting o vs None)) gs

  constraints_evaluable : (ks : List ResolvedConstraint) → All (IsTypedConstraint o) ks → list_all (constraint_narrow o) ks ≡ true → All (λ (k : ResolvedConstraint). All (λ this. IsEvaluable o vs k.tree (setting o vs this)) (stated_for o k.class)) ks
  constraints_evaluable [] t n = All-nil (λ (k : ResolvedConstraint). All (λ this. IsEvaluable o vs k.tree (setting o vs this)) (stated_for o k.class))
  constraints_evaluable (k ∷ ks) t n =
      let p = and_parts (constraint_narrow o k) (list_all (constraint_narrow o) ks) n in
      All-cons (λ (k : ResolvedConstraint). All (λ this. IsEvaluable o vs k.tree (setting o vs this)) (stated_for o k.class)) k ks
      (constraint_evaluable k (All-head (IsTypedConstraint o) k ks t) p.0) (constraints_evaluable ks (All-tail (IsTypedConstraint o) k ks t) p.1)

  goals_evaluable : (gs : List ResolvedGoal) → All (IsTypedGoal o) gs → list_all (goal_narrow o) gs ≡ true → All (λ (g : ResolvedGoal). IsEvaluable o vs g.tree (setting o vs None)) gs
  goals_evaluable [] t n = All-nil (λ (g : ResolvedGoal). IsEvaluable o vs g.tree (setting o vs None))
  goals_evaluable (g ∷ gs) t n =
      let p = and_parts (goal_narrow o g) (list_all (goal_narrow o) gs) n in
      All-cons (λ (g : ResolvedGoal). IsEvaluable o vs g.tree (setting o vs None)) g gs
      (goal_evaluable g (All-head (IsTypedGoal o) g gs t) p.0) (goals_evaluable gs (All-tail (IsTypedGoal o) g gs t) p.1)

  pub model_evaluable : (ks : List ResolvedConstraint) (gs : List ResolvedGoal) → IsTypedModel o ks gs → model_narrow o ks gs ≡ true → AreStated ks gs
  model_evaluable ks gs t n =
      let p = and_parts (list_all (constraint_narrow o) ks) (list_all (goal_narrow o) gs) n in
      record { constraints = constraints_evaluable ks t.constraints p.0; goals = goals_evaluable gs t.goals p.1 }
