-- When a ground problem stands for a question about configurations. What a reader believes after
-- this file: the solutions of such a problem are exactly the configurations that pass the test, and
-- its goals are the functions to be made best.
use Rattle.std.specs.Prelude.{◌≡◌, ◌↔◌, ℕ, ◌≤◌, Bool, true, List, [], ◌∷◌, ℤ, Some, length, take}
use Rattle.std.specs.List.{All}
use Rattle.signed_clause.specs.Clauses.{Boxes}
use Rattle.ground_form.specs.declared.con.Con.{Con}
use Rattle.ground_form.specs.declared.ground.Ground.{Ground}
use Rattle.ground_form.specs.declared.ground.GroundGoal.{GroundGoal}
use Rattle.ground_form.specs.Meaning.{value_of, con_true}
use Rattle.ground_form.specs.Solutions.{IsPoint}
use Rattle.ground_form.specs.WellMade.{defined_by, IsWellMade}

-- the constraint is the definition of a variable from n on
abbrev pub IsDefinition : ℕ → Con → Type 0
IsDefinition n con = (x : ℕ) × (defined_by con ≡ Some x) × (n ≤ x)

-- a has the configuration's values first, lies in the domains, and makes all definitions true
pub record IsExtension (g : Ground) (t a : List ℤ) : Type 0 where
  pub front : take g.search a ≡ t
  pub point : IsPoint g.domains a
  pub definitions : All (λ con. IsDefinition g.search con → con_true con a ≡ true) g.cons

-- the goals are as many as the functions, in the same order and directions, and at a they have
-- their values at t
abbrev pub AreGoalValues : List GroundGoal → List (Bool × (List ℤ → ℤ)) → List ℤ → List ℤ → Type 0
AreGoalValues [] [] t a = Unit {0}
AreGoalValues [] (f ∷ fs) t a = ⊥
AreGoalValues (goal ∷ goals) [] t a = ⊥
AreGoalValues (goal ∷ goals) (f ∷ fs) t a =
    (goal.max ≡ f.0) × (value_of a goal.var ≡ f.1 t) × AreGoalValues goals fs t a

-- a configuration has exactly one extension, all constraints are true under it exactly where the
-- test passes, and the goals have the functions' values
pub record IsFaithfulAt (g : Ground) (passes : List ℤ → Bool) (functions : List (Bool × (List ℤ → ℤ))) (t : List ℤ) : Type 0 where
  pub extension : (a : List ℤ) × IsExtension g t a
  pub alone : (a b : List ℤ) → IsExtension g t a → IsExtension g t b → a ≡ b
  pub truths : (a : List ℤ) → IsExtension g t a → All (λ con. con_true con a ≡ true) g.cons
      ↔ (passes t ≡ true)
  pub goals : (a : List ℤ) → IsExtension g t a → AreGoalValues g.goals functions t a

-- g stands for the test and the functions over configurations, one value for each cell
pub record StandsFor (g : Ground) (cells : Boxes) (passes : List ℤ → Bool) (functions : List (Bool × (List ℤ → ℤ))) : Type 0 where
  pub well_made : IsWellMade g
  pub cells_first : take g.search g.domains ≡ cells
  pub searched : g.search ≡ length cells
  pub goal_count : length g.goals ≡ length functions
  pub faithful : (t : List ℤ) → IsPoint cells t → IsFaithfulAt g passes functions t
