-- The steps of paths, and places in texts.
use Rattle.std.specs.Prelude.{◌≡◌, ℕ, suc, cond, List, ◌∷◌, Option, Some, nat_eq, slice_get, []}
use Rattle.class_table.specs.declared.table.Variable.{Variable}
use Rattle.class_table.specs.Outline.{Outline}
use Rattle.object_alloc.specs.declared.object.Object.{Object}
use Rattle.object_alloc.specs.Variables.{variables_of}
use Rattle.object_alloc.specs.Paths.{last_step}
use Rattle.object_alloc.specs.Walk.{objects}

-- the place of the first byte of this kind; the text's length where there is none
abbrev pub first_place : ℕ → List ℕ → ℕ
first_place b [] = 0
first_place b (x ∷ xs) = cond (nat_eq x b) 0 (suc (first_place b xs))

-- object n is held by the owner, and the last name of its path is this text
pub record IsStep (o : Outline) (owner : Option ℕ) (text : List ℕ) (n : ℕ) : Type 0 where
  pub object : Object
  pub has : slice_get (objects o) n ≡ Some object
  pub owner_is : object.owner ≡ owner
  pub text_is : last_step (variables_of o owner) object ≡ text

-- variable k of these has this name
pub record HasName (vs : List Variable) (name : List ℕ) (k : ℕ) : Type 0 where
  pub variable : Variable
  pub has : slice_get vs k ≡ Some variable
  pub name_is : variable.name ≡ name
