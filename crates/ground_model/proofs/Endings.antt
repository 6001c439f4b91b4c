-- From a maker over a model's cells to what the problem stands for.
use Rattle.std.proofs.Common.{◌≡◌, ℕ, suc, ◌<◌, Bool, true, false, true≢false, ◌&&◌, ◌||◌, List, [], ◌∷◌, ℤ, All, length, take, map, append-nil, refl, sym, ap, ◌∙◌, subst, arith}
use Rattle.std.specs.List.{list_any}
use Rattle.std.proofs.lemmas.List.{take_all}
use Rattle.std.proofs.lemmas.List.Elements.{All-nil, All-cons}
use Rattle.signed_clause.specs.Ranges.{Ranges, has, is_nil}
use Rattle.signed_clause.specs.Clauses.{Boxes, box_of}
use Rattle.class_table.specs.Outline.{Outline}
use Rattle.conf_types.specs.Programs.{ResolvedConstraint, ResolvedGoal}
use Rattle.ground_form.specs.declared.ground.Ground.{Ground}
use Rattle.ground_form.specs.declared.ground.GroundGoal.{GroundGoal}
use Rattle.ground_form.specs.Meaning.{value_of}
use Rattle.ground_form.specs.StandsFor.{AreGoalValues, StandsFor}
use Rattle.ground_form.specs.WellMade.{IsWellMade}
use Rattle.ground_build.specs.Growing.{over_cells, with_goals}
use Rattle.form_build.specs.Worlds.{IsWorld, IsInBoxes, AreSome, Adds, Defines}
use Rattle.form_build.proofs.Growth.{adds_more}
use Rattle.form_build.proofs.Final.{stands_from}
use Rattle.ground_cells.specs.CellBoxes.{cell_boxes}
use Rattle.expr_forms.specs.Standing.{HasCells}
use Rattle.ground_expr.specs.Asked.{satisfied_by}
use Rattle.ground_expr.specs.Objectives.{functions}
use Rattle.ground_model.specs.Aims.{idle_goal}
use Rattle.ground_model.specs.Requiring.{Requires}
use Rattle.ground_model.specs.WholesStand.{WholesStand}
use Rattle.ground_model.proofs.WholeSteps.{never_wholes}

-- a problem of the cells alone has the cells
pub cells_first : (o : Outline) (g : Ground) → g ≡ over_cells (cell_boxes o) → HasCells o g
cells_first o g e = subst (HasCells o) (sym e) (record { searched = refl; rest = []; domains = sym (append-nil (cell_boxes o)) })

-- the boxes of a builder over cells
pub cells_are : (b : Ground) (boxes cells : Boxes) → b ≡ over_cells boxes → boxes ≡ cells → b.domains ≡ cells
cells_are b boxes cells e h = ap (λ (z : Ground). z.domains) e ∙ h

and_true : (b : Bool) → (b && true) ≡ b
and_true true = refl
and_true false = refl

pub function_count : (o : Outline) (gs : List ResolvedGoal) → length (functions o gs) ≡ length gs
function_count o [] = refl
function_count o (g ∷ gs) = ap suc (function_count o gs)

-- what was required, and then the objectives as goals
pub whole_stands : (o : Outline) (ks : List ResolvedConstraint) (gs : List ResolvedGoal) (start mid g : Ground) (goals : List GroundGoal) → start ≡ over_cells (cell_boxes o) →
    Requires [] start mid (satisfied_by o ks) → Defines mid g → IsWellMade (with_goals g goals) → length goals ≡ length gs →
    ((a : List ℤ) → IsWorld g a → AreGoalValues goals (functions o gs) (take g.search a) a) →
    StandsFor (with_goals g goals) (cell_boxes o) (satisfied_by o ks) (functions o gs)
whole_stands o ks gs start mid g goals e asked d made count values =
    let says : List ℤ → Bool = λ a. satisfied_by o ks (take start.search a) && true in
    let added : Adds [] start g says = adds_more [] start mid g (λ a. satisfied_by o ks (take start.search a)) (λ a. true) asked d in
    stands_from (cell_boxes o) g goals says (satisfied_by o ks) (functions o gs)
    (subst (λ (f : Ground). Adds [] f g says) e added)
    made (count ∙ sym (function_count o gs))
    (λ a w. and_true (satisfied_by o ks (take start.search a)) ∙ ap (λ (n : ℕ). satisfied_by o ks (take n a)) (sym added.grows.search))
    values

-- a part of what a model requires, without objectives
pub part_stands : (o : Outline) (start g f : Ground) (goals : List GroundGoal) (test : List ℤ → Bool) → start ≡ over_cells (cell_boxes o) → Requires [] start g test → goals ≡ [] → f ≡ with_goals g goals → IsWellMade f → StandsFor f (cell_boxes o) test []
part_stands o start g f goals test e asked none is made =
    let says : List ℤ → Bool = λ a. test (take start.search a) in
    let whole : f ≡ with_goals g [] = is ∙ ap (with_goals g) none in
    subst (λ (z : Ground). StandsFor z (cell_boxes o) test []) (sym whole)
    (stands_from (cell_boxes o) g [] says test [] (subst (λ (z : Ground). Adds [] z g says) e asked) (subst IsWellMade whole made) refl
    (λ a w. ap (λ (n : ℕ). test (take n a)) (sym asked.grows.search)) (λ a w. tt))

-- ---- boxes of which one is empty

no_point : (boxes : Boxes) (f : ℕ → ℤ) → list_any is_nil boxes ≡ true → ((x : ℕ) → x < length boxes → has (box_of boxes x) (f x) ≡ true) → ⊥
no_point [] f e h = true≢false (sym e)
no_point ([] ∷ bs) f e h = true≢false (sym (h 0 (omega arith)))
no_point ((r ∷ rs) ∷ bs) f e h = no_point bs (λ x. f (suc x)) e (λ x lt. h (suc x) (omega (arith, lt)))

some_box : (boxes : Boxes) → list_any is_nil boxes ≡ true → 0 < length boxes
some_box [] e = absurd (true≢false (sym e))
some_box (b ∷ bs) e = omega arith

either : (p q : Bool) → (p || q) ≡ false → (p ≡ false) × (q ≡ false)
either true q e = absurd (true≢false e)
either false q e = (refl, e)

pub all_some : (boxes : Boxes) → list_any is_nil boxes ≡ false → AreSome boxes
all_some [] e = All-nil (λ (d : Ranges). is_nil d ≡ false)
all_some (b ∷ bs) e = let h = either (is_nil b) (list_any is_nil bs) e in All-cons (λ (d : Ranges). is_nil d ≡ false) b bs h.0 (all_some bs h.1)

idle_low : (n : ℕ) (gs : List ResolvedGoal) → 0 < n → All (λ (goal : GroundGoal). goal.var < n) (map idle_goal gs)
idle_low n [] h = All-nil (λ (goal : GroundGoal). goal.var < n)
idle_low n (g ∷ gs) h = All-cons (λ (goal : GroundGoal). goal.var < n) (idle_goal g) (map idle_goal gs) h (idle_low n gs h)

pub idle_exist : (boxes : Boxes) (goals : List GroundGoal) (gs : List ResolvedGoal) → list_any is_nil boxes ≡ true → goals ≡ map idle_goal gs → All (λ (goal : GroundGoal). goal.var < length boxes) goals
idle_exist boxes goals gs e is = subst (λ (z : List GroundGoal). All (λ (goal : GroundGoal). goal.var < length boxes) z) (sym is) (idle_low (length boxes) gs (some_box boxes e))

idle_count : (gs : List ResolvedGoal) → length (map idle_goal gs) ≡ length gs
idle_count [] = refl
idle_count (g ∷ gs) = ap suc (idle_count gs)

-- there is no configuration, so whatever is asked of one
pub idle_stands : (boxes : Boxes) (b g : Ground) (goals : List GroundGoal) (gs : List ResolvedGoal) (test : List ℤ → Bool) (asked : List (Bool × (List ℤ → ℤ))) → list_any is_nil boxes ≡ true → b ≡ over_cells boxes → g ≡ with_goals b goals → goals ≡ map idle_goal gs → IsWellMade g → length asked ≡ length gs → StandsFor g boxes test asked
idle_stands boxes b g goals gs test asked e cells is aims made count =
    let whole : g ≡ with_goals (over_cells boxes) goals = is ∙ ap (λ (z : Ground). with_goals z goals) cells in
    record {
      well_made = made;
      cells_first = ap (λ (z : Ground). take z.search z.domains) whole ∙ whole_front (length boxes) boxes refl;
      searched = ap (λ (z : Ground). z.search) whole;
      goal_count = ap (λ (z : Ground). length z.goals) whole ∙ ap length aims ∙ idle_count gs ∙ sym count;
      faithful = λ t p. absurd (no_point boxes (value_of t) e p.within);
    }
  where
    whole_front : (n : ℕ) (xs : Boxes) → n ≡ length xs → take n xs ≡ xs
    whole_front n xs h = take_all n xs (omega (arith, h))

-- and no world, so whatever stands where one is
pub idle_wholes : (o : Outline) (boxes : Boxes) (b g : Ground) (goals : List GroundGoal) (ks : List ResolvedConstraint) → list_any is_nil boxes ≡ true → b ≡ over_cells boxes → g ≡ with_goals b goals → WholesStand o g ks
idle_wholes o boxes b g goals ks e cells is =
    let same : g.domains ≡ boxes = ap (λ (z : Ground). z.domains) (is ∙ ap (λ (z : Ground). with_goals z goals) cells) in
    never_wholes o g ks (λ a w. no_point boxes (value_of a) e (subst (λ (z : Boxes). IsInBoxes z a) same w.within))
