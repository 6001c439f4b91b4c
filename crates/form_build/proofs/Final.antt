-- From what was added to a problem of cells alone to what the problem stands for.
use Rattle.std.proofs.Common.{◌≡◌, ℕ, ◌≤◌, Bool, true, List, [], ◌++◌, ℤ, arith, length, take, sym, ap, ◌∙◌, subst}
use Rattle.signed_clause.specs.Clauses.{Boxes}
use Rattle.ground_form.specs.declared.ground.Ground.{Ground}
use Rattle.ground_form.specs.declared.ground.GroundGoal.{GroundGoal}
use Rattle.ground_form.specs.Meaning.{con_true}
use Rattle.ground_form.specs.Solutions.{IsPoint}
use Rattle.ground_form.specs.StandsFor.{IsExtension, AreGoalValues, StandsFor}
use Rattle.ground_form.specs.WellMade.{IsWellMade}
use Rattle.ground_build.specs.Growing.{over_cells, with_goals, IsOnlyExtension}
use Rattle.form_build.specs.Worlds.{IsWorld, AreKnown, Adds}
use Rattle.form_build.proofs.Lists.{no_con, take_all, take_front}

no_known : (a : List ℤ) → AreKnown [] a
no_known a k d lt = absurd (omega (arith, lt))

-- of cells alone a configuration is its own extension
begins : (cells : Boxes) (t : List ℤ) → IsPoint cells t → IsOnlyExtension (over_cells cells) t t
begins cells t p = record {
  extension = record { front = take_all (length cells) t p.size; point = p; definitions = no_con _ };
  alone = λ b e. sym (take_all (length cells) b e.point.size) ∙ e.front;
}

-- an extension is a world
pub world_of : (g : Ground) (t a : List ℤ) → g.search ≤ length g.domains → IsExtension g t a → IsWorld g a
world_of g t a low e = record {
  long = subst (λ (n : ℕ). g.search ≤ n) (sym e.point.size) low;
  within = e.point.within;
  defined = e.definitions;
}

-- goals change nothing of extensions
plain : (g : Ground) (goals : List GroundGoal) (t a : List ℤ) → IsExtension (with_goals g goals) t a → IsExtension g t a
plain g goals t a e = record { front = e.front; point = e.point; definitions = e.definitions }

-- a problem that grew from cells alone stands for the test that it says, and for the functions that
-- its goals are
pub stands_from : (cells : Boxes) (g : Ground) (goals : List GroundGoal) (says test : List ℤ → Bool) (functions : List (Bool × (List ℤ → ℤ))) →
    Adds [] (over_cells cells) g says →
    IsWellMade (with_goals g goals) →
    length goals ≡ length functions →
    ((a : List ℤ) → IsWorld g a → says a ≡ test (take g.search a)) →
    ((a : List ℤ) → IsWorld g a → AreGoalValues goals functions (take g.search a) a) →
    StandsFor (with_goals g goals) cells test functions
stands_from cells g goals says test functions added made count means values = record {
  well_made = made;
  cells_first = ap (λ (z : Boxes). take g.search z) added.grows.domains ∙ take_front g.search cells added.grows.more added.grows.search;
  searched = added.grows.search;
  goal_count = count;
  faithful = λ t p.
      let k = added.grows.keeps t t (begins cells t p) in
      let only = k.1 in
      record {
        extension = (t ++ k.0, record { front = only.extension.front; point = only.extension.point; definitions = only.extension.definitions });
        alone = λ a b x y. only.alone a (plain g goals t a x) ∙ sym (only.alone b (plain g goals t b y));
        truths = λ a x.
            let e = plain g goals t a x in
            let w = world_of g t a made.search e in
            let h = added.holds a w (no_known a) in
            let same : says a ≡ test t = means a w ∙ ap test e.front in
            ((λ all. sym same ∙ (h.0 all).1), (λ passes. h.1 (no_con (λ c. con_true c a ≡ true), same ∙ passes)));
        goals = λ a x.
            let e = plain g goals t a x in
            subst (λ (z : List ℤ). AreGoalValues goals functions z a) e.front (values a (world_of g t a made.search e));
      };
}
