-- What stands inside of a quantifier. What a reader believes after this file: where a quantifier
-- stands, its filter and bodies stand inside of it for each object of the class that it is over.
use Rattle.std.specs.Prelude.{◌≡◌, ℕ, List, [], ◌∷◌, ◌++◌, Option, Some, Contains}
use Rattle.class_table.specs.Outline.{Outline}
use Rattle.conf_types.specs.Readings.{list_class}
use Rattle.conf_types.specs.Trees.{Tree, Filter, Bodies}
use Rattle.conf_types.specs.Typing.{Place, tree_type}
use Rattle.object_alloc.specs.Cells.{extent}
use Rattle.conf_eval.specs.Evaluating.{AllEvaluable}
use Rattle.conf_eval.specs.Fitting.{Fits, IsEvaluableFilter}
use Rattle.expr_forms.specs.Standing.{IsStanding, bare_setting}

-- the filter and the bodies are typed where they stand, and their numbers are narrow
pub record IsInside (o : Outline) (f : Filter) (bs : Bodies) (this : Option ℕ) (vars : List ℕ) : Type 0 where
  pub filter : IsEvaluableFilter o [] f (bare_setting o this vars)
  pub bodies : AllEvaluable o [] bs (bare_setting o this vars)

-- the list is one of objects of the class, and all inside stands for each object of it
pub record IsOver (o : Outline) (e : Tree) (f : Filter) (bs : Bodies) (this : Option ℕ) (vars : List ℕ) : Type 0 where
  pub class : ℕ
  pub place : Place
  pub setting : Fits o [] place (bare_setting o this vars)
  pub listed : list_class (tree_type o e place) ≡ Some class
  pub over : IsStanding o e this vars
  pub inside : (x : ℕ) → Contains (extent o class) x → IsInside o f bs this (vars ++ x ∷ [])
