-- That each object is held by one with a lesser number.
use Rattle.std.specs.Prelude.{◌≡◌, ℕ, suc, ◌<◌, List, ◌∷◌, Option, None, Some, slice_get, []}
use Rattle.class_table.specs.declared.table.Resolved.{Resolved}
use Rattle.class_table.specs.declared.table.Resolved.TheVariants.{Span, Truth, Choice, One, Many, Ref, RefSet}
use Rattle.class_table.specs.declared.table.Variable.{Variable}
use Rattle.class_table.specs.Outline.{Outline}
use Rattle.object_alloc.specs.declared.object.Object.{Object}
use Rattle.object_alloc.specs.Variables.{class_in, variables}

-- the shape holds objects of class c, and element i is one of them
abbrev pub HoldsAt : Resolved → ℕ → ℕ → Type 0
HoldsAt (One d) c i = (c ≡ d) × (i ≡ 0)
HoldsAt (Many d m) c i = (c ≡ d) × (i < m)
HoldsAt (Span low high) c i = ⊥
HoldsAt Truth c i = ⊥
HoldsAt (Choice e) c i = ⊥
HoldsAt (Ref d) c i = ⊥
HoldsAt (RefSet d m) c i = ⊥

abbrev pub IsBefore : Option ℕ → ℕ → Type 0
IsBefore None n = Unit {0}
IsBefore (Some p) n = p < n

-- object x, which has number n, is held by one with a lesser number, as an element of an attribute
-- of it
pub record IsHeld (o : Outline) (xs : List Object) (n : ℕ) (x : Object) : Type 0 where
  pub owner : IsBefore x.owner n
  pub variable : Variable
  pub has : slice_get (variables o (class_in xs x.owner)) x.attribute ≡ Some variable
  pub holds : HoldsAt variable.shape x.class x.element

-- each of these objects, the first of which has number n
abbrev pub AreHeld : Outline → List Object → ℕ → List Object → Type 0
AreHeld o xs n [] = Unit {0}
AreHeld o xs n (y ∷ ys) = IsHeld o xs n y × AreHeld o xs (suc n) ys
