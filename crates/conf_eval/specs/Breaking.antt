-- What is broken first at a configuration that doesn't satisfy a model: sets before constraints,
-- constraints in order of place, objects in order of allocation.
use Rattle.std.specs.Prelude.{◌≡◌, ℕ, List, ◌∷◌, ◌++◌, Option, ℤ, length, All}
use Rattle.std.specs.List.{flat_map}
use Rattle.class_table.specs.Outline.{Outline}
use Rattle.conf_types.specs.Programs.{ResolvedConstraint}
use Rattle.object_alloc.specs.declared.object.Leaf.{Leaf}
use Rattle.object_alloc.specs.Cells.{leaf_cells}
use Rattle.object_alloc.specs.Walk.{walk, leaves_in}
use Rattle.conf_eval.specs.Satisfying.{IsFull, Holds, HoldsFor, stated_for}
use Rattle.conf_eval.specs.declared.broken.BrokenAt.{BrokenAt}
use Rattle.conf_eval.specs.declared.broken.BrokenAt.TheVariants.{SetSize, Constraint}

-- the first item at which P doesn't hold, with those before it
pub record IsFirstNot {X : Type 0} (P : X → Type 0) (xs : List X) (before : List X) (x : X) : Type 0 where
  pub after : List X
  pub split : xs ≡ before ++ x ∷ after
  pub hold : All P before
  pub not : P x → ⊥

-- the first reference set of another size than its shape's, by the number of its first cell; a set
-- without cells by the number that its first cell would have
pub record IsWrongSet (o : Outline) (values : List ℤ) (cell : ℕ) : Type 0 where
  pub before : List Leaf
  pub set : Leaf
  pub first : IsFirstNot (IsFull o values) (leaves_in (walk o)) before set
  pub number : cell ≡ length (flat_map (leaf_cells o) before)

-- the first constraint that doesn't hold, by its number, and the first object for which it doesn't
pub record IsWrongConstraint (o : Outline) (ks : List ResolvedConstraint) (values : List ℤ) (index : ℕ) (object : Option ℕ) : Type 0 where
  pub sets : All (IsFull o values) (leaves_in (walk o))
  pub before : List ResolvedConstraint
  pub constraint : ResolvedConstraint
  pub first : IsFirstNot (Holds o values) ks before constraint
  pub number : index ≡ length before
  pub earlier : List (Option ℕ)
  pub first_object : IsFirstNot (HoldsFor o values constraint) (stated_for o constraint.class)
      earlier object

abbrev pub IsFirstBroken : Outline → List ResolvedConstraint → List ℤ → BrokenAt → Type 0
IsFirstBroken o ks values (SetSize cell) = IsWrongSet o values cell
IsFirstBroken o ks values (Constraint index object) = IsWrongConstraint o ks values index object
