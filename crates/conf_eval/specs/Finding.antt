-- How what is broken first is found.
use Rattle.std.specs.Prelude.{ℕ, ◌+◌, Bool, true, cond, List, [], ◌∷◌, Option, None, Some, ℤ, length, nat_eq, All}
use Rattle.class_table.specs.declared.table.Resolved.{Resolved}
use Rattle.class_table.specs.declared.table.Resolved.TheVariants as shape
use Rattle.class_table.specs.Outline.{Outline}
use Rattle.conf_types.specs.Programs.{ResolvedConstraint}
use Rattle.conf_types.specs.Trees.{Tree}
use Rattle.object_alloc.specs.declared.object.Leaf.{Leaf}
use Rattle.object_alloc.specs.Cells.{leaf_cells}
use Rattle.conf_eval.specs.declared.broken.BrokenAt.{BrokenAt}
use Rattle.conf_eval.specs.declared.broken.BrokenAt.TheVariants.{Constraint}
use Rattle.conf_eval.specs.Fitting.{IsEvaluable}
use Rattle.conf_eval.specs.Meaning.{value, truth_of, objects_of, attribute_value}
use Rattle.conf_eval.specs.Satisfying.{setting, stated_for}

-- the first item that fails the test
abbrev pub first_failing : {X : Type 0} → (X → Bool) → List X → Option X
first_failing test [] = None
first_failing test (x ∷ xs) = cond (test x) (first_failing test xs) (Some x)

-- a leaf of this shape has as many members as the shape says, where it is a reference set
abbrev pub shape_is_full : Outline → List ℤ → Leaf → Resolved → Bool
shape_is_full o values l (shape.RefSet c n) =
    nat_eq (length (objects_of (attribute_value o values l.owner l.attribute l.shape))) n
shape_is_full o values l (shape.Span low high) = true
shape_is_full o values l shape.Truth = true
shape_is_full o values l (shape.Choice e) = true
shape_is_full o values l (shape.One c) = true
shape_is_full o values l (shape.Many c n) = true
shape_is_full o values l (shape.Ref c) = true

abbrev pub is_full : Outline → List ℤ → Leaf → Bool
is_full o values l = shape_is_full o values l l.shape

-- the number of the first cell of the first leaf that isn't full, where n cells stand before these
-- leaves
abbrev pub wrong_set : Outline → List ℤ → ℕ → List Leaf → Option ℕ
wrong_set o values n [] = None
wrong_set o values n (l ∷ ls) =
    cond (is_full o values l) (wrong_set o values (n + length (leaf_cells o l)) ls) (Some n)

abbrev pub holds_for : Outline → List ℤ → ResolvedConstraint → Option ℕ → Bool
holds_for o values k this = truth_of (value k.tree (setting o values this))

-- the first for which a constraint is stated and doesn't hold
abbrev pub wrong_object : Outline → List ℤ → ResolvedConstraint → Option (Option ℕ)
wrong_object o values k = first_failing (holds_for o values k) (stated_for o k.class)

abbrev pub broken_by : ℕ → Option (Option ℕ) → Option BrokenAt → Option BrokenAt
broken_by n None rest = rest
broken_by n (Some object) rest = Some (Constraint n object)

-- the first constraint that doesn't hold, where the first of these has number n
abbrev pub wrong_constraint : Outline → List ℤ → ℕ → List ResolvedConstraint → Option BrokenAt
wrong_constraint o values n [] = None
wrong_constraint o values n (k ∷ ks) =
    broken_by n (wrong_object o values k) (wrong_constraint o values (n + 1) ks)

-- the expression may be evaluated where each of these is `this`
abbrev pub IsStatedFor : Outline → List ℤ → Tree → List (Option ℕ) → Type 0
IsStatedFor o values e all = All (λ this. IsEvaluable o values e (setting o values this)) all

abbrev pub IsStated : Outline → List ℤ → ResolvedConstraint → Type 0
IsStated o values k = IsStatedFor o values k.tree (stated_for o k.class)
