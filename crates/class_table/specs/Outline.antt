-- The outline of a model: its names, classes, enumerations and top-level variables, with shapes in
-- which each name is resolved. A table is seen as its program's outline.
use Rattle.std.specs.Prelude.{ℕ, Bool, cond, List, [], Option, None, Some, ℤ, pos, neg_ℤ, length, map, slice_get}
use Rattle.std.specs.Option.{option_map_or, option_and_then}
use Rattle.model_limits.specs.Limits.{least_int, greatest_int}
use Rattle.conf_syntax.specs.declared.token.Ident.{Ident}
use Rattle.conf_syntax.specs.declared.tree.Bound.{Bound}
use Rattle.conf_syntax.specs.declared.tree.ClassDecl.{ClassDecl}
use Rattle.conf_syntax.specs.declared.tree.EnumDecl.{EnumDecl}
use Rattle.conf_syntax.specs.declared.tree.Item.{Item}
use Rattle.conf_syntax.specs.declared.tree.Shape.{Shape}
use Rattle.conf_syntax.specs.declared.tree.Shape.TheVariants as shape
use Rattle.conf_syntax.specs.declared.tree.VarDecl.{VarDecl}
use Rattle.class_table.specs.declared.names.NameMeaning.{NameMeaning}
use Rattle.class_table.specs.declared.names.NameMeaning.TheVariants as meaning
use Rattle.class_table.specs.declared.table.Class.{Class}
use Rattle.class_table.specs.declared.table.Enumeration.{Enumeration}
use Rattle.class_table.specs.declared.table.Resolved.{Resolved}
use Rattle.class_table.specs.declared.table.Resolved.TheVariants.{Span, Truth, Choice, One, Many, Ref, RefSet}
use Rattle.class_table.specs.declared.table.Variable.{Variable}
use Rattle.class_table.specs.Ancestry.{derives, attributes_within}
use Rattle.class_table.specs.Names.{Space, space, means, classes, enumerations, roots, own}

pub record Outline : Type 0 where
  pub names : Space
  pub classes : List Class
  pub enumerations : List Enumeration
  pub roots : List Variable

-- Shapes

abbrev pub bound_value : Bound → ℤ
bound_value b = cond b.minus (neg_ℤ (pos b.value)) (pos b.value)

-- where a fault stands in a shape, it is taken for a truth
abbrev pub named : Option NameMeaning → Resolved
named (Some (meaning.Class c)) = One c
named (Some (meaning.Enumeration e)) = Choice e
named other = Truth

abbrev pub of_class : (ℕ → Resolved) → Option NameMeaning → Resolved
of_class shape_of (Some (meaning.Class c)) = shape_of c
of_class shape_of other = Truth

-- `int` has the numbers between two limits
abbrev pub resolved : Space → Shape → Resolved
resolved names (shape.Range low high) = Span (bound_value low) (bound_value high)
resolved names shape.Int = Span least_int greatest_int
resolved names shape.Bool = Truth
resolved names (shape.Named i) = named (means names i.name)
resolved names (shape.Many i n) = of_class (λ c. Many c n) (means names i.name)
resolved names (shape.Ref i) = of_class Ref (means names i.name)
resolved names (shape.RefSet i n) = of_class (λ c. RefSet c n) (means names i.name)

-- Classes, enumerations and variables

abbrev pub class_meant : Option NameMeaning → Option ℕ
class_meant (Some (meaning.Class c)) = Some c
class_meant other = None

abbrev pub parent_named : Space → Option Ident → Option ℕ
parent_named names parent = option_and_then (λ i. class_meant (means names i.name)) parent

abbrev pub variable_of : Space → VarDecl → Variable
variable_of names v = record { name = v.name.name; shape = resolved names v.shape }

abbrev pub class_of : Space → ClassDecl → Class
class_of names d =
    record {
      name = d.name.name;
      parent = parent_named names d.parent;
      own = map (variable_of names)
          (own d);
    }

abbrev pub value_name : Ident → List ℕ
value_name i = i.name

abbrev pub enumeration_of : EnumDecl → Enumeration
enumeration_of d = record { name = d.name.name; values = map value_name d.values }

-- the outline of a model
abbrev pub outline : List Item → Outline
outline items = record {
  names = space items;
  classes = map (class_of (space items)) (classes items);
  enumerations = map enumeration_of (enumerations items);
  roots = map (variable_of (space items)) (roots items);
}

-- Derivation and attributes in a list of classes

abbrev pub parent_in : List Class → ℕ → Option ℕ
parent_in cs c = option_map_or (λ (k : Class). k.parent) (slice_get cs c) None

abbrev pub own_in : List Class → ℕ → List Variable
own_in cs c = option_map_or (λ (k : Class). k.own) (slice_get cs c) []

-- d is c or an ancestor of c
abbrev pub is_a : List Class → ℕ → ℕ → Bool
is_a cs c d = derives (parent_in cs) (length cs) c d

-- the attributes of a class: its parent's and then its own
abbrev pub attributes : List Class → ℕ → List Variable
attributes cs c = attributes_within (parent_in cs) (own_in cs) (length cs) (length cs) c

abbrev pub variable_name : Variable → List ℕ
variable_name v = v.name
