-- What the laws on values speak of: an expression of a type, in a setting that gives what is named
-- where it stands.
use Rattle.std.specs.Prelude.{◌≡◌, List, Some, ℤ}
use Rattle.class_table.specs.Outline.{Outline}
use Rattle.conf_types.specs.declared.types.ExprType.{ExprType}
use Rattle.conf_types.specs.Trees.{Tree}
use Rattle.conf_types.specs.Typing.{Place, tree_type}
use Rattle.conf_eval.specs.Fitting.{Fits}
use Rattle.conf_eval.specs.Meaning.{Setting}

pub record HasType (o : Outline) (vs : List ℤ) (t : Tree) (s : Setting) (type : ExprType) : Type 0 where
  pub place : Place
  pub setting : Fits o vs place s
  pub typed : tree_type o t place ≡ Some type
