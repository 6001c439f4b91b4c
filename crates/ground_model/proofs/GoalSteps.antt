-- Goals, one after the other.
use Rattle.std.proofs.Common.{◌≡◌, ℕ, ◌+◌, ◌<◌, ◌≤◌, Bool, List, [], ◌∷◌, ◌++◌, ℤ, All, get_or, length, length-append, take, map, refl, sym, ap, ◌∙◌, subst, arith}
use Rattle.std.proofs.lemmas.List.{take_more, take_all}
use Rattle.std.proofs.lemmas.List.Elements.{All-weaker, All-push}
use Rattle.class_table.specs.Outline.{Outline}
use Rattle.conf_types.specs.Programs.{ResolvedGoal}
use Rattle.conf_eval.specs.Satisfying.{objective}
use Rattle.ground_form.specs.declared.ground.Ground.{Ground}
use Rattle.ground_form.specs.declared.ground.GroundGoal.{GroundGoal}
use Rattle.ground_form.specs.Meaning.{value_of}
use Rattle.ground_form.specs.StandsFor.{AreGoalValues}
use Rattle.form_build.specs.Worlds.{IsWorld, Defines}
use Rattle.form_build.proofs.Growth.{world_before, no_less, defines_more}
use Rattle.ground_expr.specs.Objectives.{functions}

-- one goal more
goal_behind : (gs : List GroundGoal) (fs : List (Bool × (List ℤ → ℤ))) (g : GroundGoal) (f : Bool × (List ℤ → ℤ)) (t a : List ℤ) → AreGoalValues gs fs t a → g.max ≡ f.0 → value_of a g.var ≡ f.1 t → AreGoalValues (gs ++ g ∷ []) (fs ++ f ∷ []) t a
goal_behind [] [] g f t a h m v = (m, v, tt)
goal_behind [] (e ∷ fs) g f t a h m v = absurd h
goal_behind (d ∷ gs) [] g f t a h m v = absurd h
goal_behind (d ∷ gs) (e ∷ fs) g f t a h m v = (h.0, h.1, goal_behind gs fs g f t a h.2 m v)

-- what was found of the first k objectives
pub record AreGoalsUpTo (o : Outline) (start now : Ground) (goals : List GroundGoal) (gs : List ResolvedGoal) (k : ℕ) : Type 0 where
  pub exist : All (λ (goal : GroundGoal). goal.var < length now.domains) goals
  pub values : (a : List ℤ) → IsWorld now a → AreGoalValues goals (functions o (take k gs)) (take now.search a) a
  pub count : length goals ≡ length (take k gs)
  pub adds : Defines start now

pub no_goals : (o : Outline) (g : Ground) (gs : List ResolvedGoal) → Defines g g → AreGoalsUpTo o g g [] gs 0
no_goals o g gs d = record { exist = λ k e lt. absurd (omega (arith, lt)); values = λ a w. tt; count = refl; adds = d }

abbrev function : Outline → ResolvedGoal → Bool × (List ℤ → ℤ)
function o g = (g.max, λ (values : List ℤ). objective o values g)

functions_more : (o : Outline) (gs : List ResolvedGoal) (k : ℕ) (x : ResolvedGoal) → k < length gs → x ≡ get_or gs k x → functions o (take (k + 1) gs) ≡ functions o (take k gs) ++ function o x ∷ []
functions_more o gs k x lt is =
    ap (map (function o)) (take_more gs k x lt) ∙ mapped (take k gs) (get_or gs k x)
    ∙ ap (λ (y : ResolvedGoal). functions o (take k gs) ++ function o y ∷ []) (sym is)
  where
    mapped : (xs : List ResolvedGoal) (y : ResolvedGoal) → map (function o) (xs ++ y ∷ []) ≡ map (function o) xs ++ function o y ∷ []
    mapped [] y = refl
    mapped (x ∷ xs) y = ap (λ z. function o x ∷ z) (mapped xs y)

module _ (o : Outline) (start now new : Ground) (goals next : List GroundGoal) (gs : List ResolvedGoal) (k : ℕ) (x : ResolvedGoal) (goal : GroundGoal) where
  pub goals_next : k < length gs → x ≡ get_or gs k x → AreGoalsUpTo o start now goals gs k → Defines now new → next ≡ goals ++ goal ∷ [] → goal.max ≡ x.max → goal.var < length new.domains →
      ((a : List ℤ) → IsWorld new a → value_of a goal.var ≡ objective o (take new.search a) x) → AreGoalsUpTo o start new next gs (k + 1)
  goals_next lt is found adds pushed max exists value = record {
    exist = subst (λ (z : List GroundGoal). All (λ (d : GroundGoal). d.var < length new.domains) z) (sym pushed)
        (All-push (λ (d : GroundGoal). d.var < length new.domains) goals goal (All-weaker (λ (d : GroundGoal). d.var < length now.domains) (λ (d : GroundGoal). d.var < length new.domains) (λ d low. let more = no_less now new adds.grows in omega (arith, low, more)) goals found.exist) exists);
    values = λ a w.
        let before = found.values a (world_before now new a adds.grows w) in
        let same = subst (λ (n : ℕ). AreGoalValues goals (functions o (take k gs)) (take n a) a) (sym adds.grows.search) before in
        let behind = goal_behind goals (functions o (take k gs)) goal (function o x) (take new.search a) a same max (value a w) in
        subst (λ (z : List GroundGoal). AreGoalValues z (functions o (take (k + 1) gs)) (take new.search a) a) (sym pushed)
        (subst (λ (z : List (Bool × (List ℤ → ℤ))). AreGoalValues (goals ++ goal ∷ []) z (take new.search a) a) (sym (functions_more o gs k x lt is)) behind);
    count = let e = ap length pushed in
        let one = length-append goals (goal ∷ []) in
        let two = ap length (take_more gs k x lt) in
        let three = length-append (take k gs) (get_or gs k x ∷ []) in
        let c = found.count in
        omega (arith, e, one, two, three, c);
    adds = defines_more start now new found.adds adds;
  }

pub goals_all : (o : Outline) (start now : Ground) (goals : List GroundGoal) (gs : List ResolvedGoal) (k : ℕ) → length gs ≤ k → AreGoalsUpTo o start now goals gs k → (a : List ℤ) → IsWorld now a → AreGoalValues goals (functions o gs) (take now.search a) a
goals_all o start now goals gs k h found a w =
    subst (λ (z : List ResolvedGoal). AreGoalValues goals (functions o z) (take now.search a) a) (take_all k gs h) (found.values a w)

pub goals_count : (o : Outline) (start now : Ground) (goals : List GroundGoal) (gs : List ResolvedGoal) (k : ℕ) → length gs ≤ k → AreGoalsUpTo o start now goals gs k → length goals ≡ length gs
goals_count o start now goals gs k h found = found.count ∙ ap length (take_all k gs h)
