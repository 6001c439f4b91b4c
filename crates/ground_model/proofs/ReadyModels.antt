-- A typed model whose numbers are narrow can be made ground.
use Rattle.std.proofs.Common.{◌≡◌, ℕ, ◌<◌, true, List, [], ◌∷◌, Option, None, Some, All, length, subst}
use Rattle.std.specs.Prelude.{IfSome, nat_lt}
use Rattle.std.specs.Option.{option_map_or}
use Rattle.std.specs.List.{list_all}
use Rattle.std.proofs.lemmas.Bool.{and_parts, ltb-true}
use Rattle.std.proofs.lemmas.List.Elements.{All-nil, All-cons, All-head, All-tail}
use Rattle.class_table.specs.Outline.{Outline}
use Rattle.conf_types.specs.Programs.{ResolvedConstraint, ResolvedGoal}
use Rattle.conf_types.specs.Typing.{IsTypedConstraint, IsTypedGoal, IsTypedModel}
use Rattle.object_alloc.specs.Cells.{extent}
use Rattle.conf_eval.specs.Satisfying.{stated_for}
use Rattle.conf_eval.proofs.FindingLaws.{all_mapped}
use Rattle.conf_eval.proofs.LawsStated.{constraint_evaluable, goal_evaluable}
use Rattle.conf_limits.specs.Measures.{constraint_narrow, goal_narrow, model_narrow}
use Rattle.ground_model.specs.Stated.{IsReady, IsReadyConstraint, IsReadyGoal, IsReadyModel}

class_there : (o : Outline) (c : Option ℕ) → option_map_or (λ n. nat_lt n (length o.classes)) c true ≡ true → IfSome c (λ n. n < length o.classes)
class_there o None h = tt
class_there o (Some c) h = ltb-true c (length o.classes) h

module _ (o : Outline) where
  constraints_ready : (ks : List ResolvedConstraint) → All (IsTypedConstraint o) ks → list_all (constraint_narrow o) ks ≡ true → All (IsReadyConstraint o) ks
  constraints_ready [] t n = All-nil (IsReadyConstraint o)
  constraints_ready (k ∷ ks) t n =
      let b = and_parts (constraint_narrow o k) (list_all (constraint_narrow o) ks) n in
      let here = All-head (IsTypedConstraint o) k ks t in
      All-cons (IsReadyConstraint o) k ks (record { class = class_there o k.class here.class; ready = constraint_evaluable o [] k here b.0 }) (constraints_ready ks (All-tail (IsTypedConstraint o) k ks t) b.1)

  goals_ready : (gs : List ResolvedGoal) → All (IsTypedGoal o) gs → list_all (goal_narrow o) gs ≡ true → All (IsReadyGoal o) gs
  goals_ready [] t n = All-nil (IsReadyGoal o)
  goals_ready (g ∷ gs) t n =
      let b = and_parts (goal_narrow o g) (list_all (goal_narrow o) gs) n in
      All-cons (IsReadyGoal o) g gs (goal_evaluable o [] g (All-head (IsTypedGoal o) g gs t) b.0) (goals_ready gs (All-tail (IsTypedGoal o) g gs t) b.1)

pub model_ready : (o : Outline) (ks : List ResolvedConstraint) (gs : List ResolvedGoal) → IsTypedModel o ks gs → model_narrow o ks gs ≡ true → IsReadyModel o ks gs
model_ready o ks gs t n =
    let b = and_parts (list_all (constraint_narrow o) ks) (list_all (goal_narrow o) gs) n in
    record { constraints = constraints_ready o ks t.constraints b.0; goals = goals_ready o gs t.goals b.1 }

-- the objects for which a constraint is ready
pub class_ready : (o : Outline) (k : ResolvedConstraint) (c : ℕ) → k.class ≡ Some c → IsReadyConstraint o k → All (λ n. IsReady o k.tree (Some n)) (extent o c)
class_ready o k c e h = all_mapped (λ this. IsReady o k.tree this) (λ n. Some n) (extent o c) (subst (λ (x : Option ℕ). All (λ this. IsReady o k.tree this) (stated_for o x)) e h.ready)

pub class_low : (o : Outline) (k : ResolvedConstraint) (c : ℕ) → k.class ≡ Some c → IsReadyConstraint o k → c < length o.classes
class_low o k c e h = subst (λ (x : Option ℕ). IfSome x (λ n. n < length o.classes)) e h.class

pub top_ready : (o : Outline) (k : ResolvedConstraint) → k.class ≡ None → IsReadyConstraint o k → IsReady o k.tree None
top_ready o k e h = All-head (λ this. IsReady o k.tree this) None [] (subst (λ (x : Option ℕ). All (λ this. IsReady o k.tree this) (stated_for o x)) e h.ready)
