-- What a word at the head of an expression means where it stands: the first of these that fits is a
-- quantifier's variable, an attribute of `this`, a top-level variable, an enumeration, a class.
use Rattle.std.specs.Prelude.{ℕ, cond, List, [], ◌∷◌, ◌++◌, Option, None, Some, length, map, position, slice_index_or}
use Rattle.std.specs.Option.{option_map, option_and_then, option_map_or}
use Rattle.class_table.specs.declared.names.NameMeaning.{NameMeaning}
use Rattle.class_table.specs.declared.names.NameMeaning.TheVariants as meaning
use Rattle.class_table.specs.declared.table.Resolved.{Resolved}
use Rattle.class_table.specs.declared.table.Resolved.TheVariants as shape
use Rattle.class_table.specs.declared.table.Variable.{Variable}
use Rattle.class_table.specs.Names.{means}
use Rattle.class_table.specs.Outline.{Outline, attributes, variable_name}
use Rattle.class_table.specs.Same.{same_name}
use Rattle.conf_types.specs.declared.scope.Found.{Found}

-- where an expression stands: the class of `this`, if it stands in one, and the variables of the
-- quantifiers round it, each with its name and its class, if it has one. The outermost comes first.
pub record Scope : Type 0 where
  pub class : Option ℕ
  pub locals : List (List ℕ × Option ℕ)

-- a quantifier's variable more, the innermost
abbrev pub within : Scope → List ℕ → Option ℕ → Scope
within s w c = record { class = s.class; locals = s.locals ++ (w, c) ∷ [] }

-- what a word means: a quantifier's variable by its distance, 0 for the innermost, with its class;
-- an attribute of `this` or a top-level variable, by its number; an enumeration; a class; or
-- nothing
pub data Sense : Type 0 where
  ALocal : ℕ → Option ℕ → Sense
  AnOwn : ℕ → Resolved → Sense
  ARoot : ℕ → Resolved → Sense
  AnEnumeration : ℕ → Sense
  AClass : ℕ → Sense
  Nothing : Sense

-- the shape of variable k
abbrev pub shape_at : List Variable → ℕ → Resolved
shape_at vs k = (slice_index_or vs k (record { name = []; shape = shape.Truth })).shape

abbrev pub with_shape : List Variable → Option ℕ → Option Found
with_shape vs found = option_map (λ k. record { number = k; shape = shape_at vs k }) found

-- the attribute of this name of a class, inherited ones too
abbrev pub attribute_named : Outline → ℕ → List ℕ → Option Found
attribute_named o c w =
    with_shape (attributes o.classes c)
    (position (same_name w) (map variable_name (attributes o.classes c)))

abbrev pub own_named : Outline → Option ℕ → List ℕ → Option Found
own_named o class w = option_and_then (λ c. attribute_named o c w) class

-- the innermost of the variables with this name; its distance is the number of those behind it
abbrev pub local_or : Sense → List ℕ → List (List ℕ × Option ℕ) → Sense
local_or other w [] = other
local_or other w (v ∷ vs) = local_or (cond (same_name w v.0) (ALocal (length vs) v.1) other) w vs

abbrev pub own_or : Sense → Option Found → Sense
own_or other found = option_map_or (λ (f : Found). AnOwn f.number f.shape) found other

-- what a name of the one space of classes, enumerations and top-level variables means
abbrev pub declared_sense : Outline → Option NameMeaning → Sense
declared_sense o (Some (meaning.Variable v)) = ARoot v (shape_at o.roots v)
declared_sense o (Some (meaning.Enumeration e)) = AnEnumeration e
declared_sense o (Some (meaning.Class c)) = AClass c
declared_sense o None = Nothing

abbrev pub sense : Outline → Scope → List ℕ → Sense
sense o s w =
    local_or (own_or (declared_sense o (means o.names w)) (own_named o s.class w)) w s.locals
