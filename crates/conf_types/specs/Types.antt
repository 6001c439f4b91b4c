-- Types, what is needed of them, and the tables of both for quantifiers: one line for each row of
-- the table of expressions. Those of operators stand in `Operators`.
use Rattle.std.specs.Prelude.{ℕ, nat_eq, Bool, true, false, not, cond}
use Rattle.class_table.specs.declared.table.Resolved.{Resolved}
use Rattle.class_table.specs.declared.table.Resolved.TheVariants.{Span, One, Many, Ref, RefSet}
use Rattle.class_table.specs.declared.table.Resolved.TheVariants as shape
use Rattle.conf_syntax.specs.declared.tree.QuantKind.{QuantKind}
use Rattle.conf_syntax.specs.declared.tree.QuantKind.TheVariants as kind
use Rattle.conf_types.specs.declared.types.ExprType.{ExprType}
use Rattle.conf_types.specs.declared.types.ExprType.TheVariants.{Int, Truth, Choice, Object, Objects, Class}
use Rattle.conf_types.specs.declared.types.Need.{Need}
use Rattle.conf_types.specs.declared.types.Need.TheVariants as need

-- the type of what has this shape
abbrev pub shape_type : Resolved → ExprType
shape_type (Span low high) = Int
shape_type shape.Truth = Truth
shape_type (shape.Choice e) = Choice e
shape_type (One c) = Object c
shape_type (Ref c) = Object c
shape_type (Many c n) = Objects c
shape_type (RefSet c n) = Objects c

abbrev pub is_int : ExprType → Bool
is_int Int = true
is_int other = false

abbrev pub is_truth : ExprType → Bool
is_truth Truth = true
is_truth other = false

-- a value of enumeration e
abbrev pub is_choice : ℕ → ExprType → Bool
is_choice e (Choice f) = nat_eq e f
is_choice e other = false

abbrev pub is_object : ExprType → Bool
is_object (Object c) = true
is_object other = false

-- a list, or a class
abbrev pub is_list : ExprType → Bool
is_list (Objects c) = true
is_list (Class c) = true
is_list other = false

abbrev pub meets : Need → ExprType → Bool
meets need.Int t = is_int t
meets need.Truth t = is_truth t
meets need.Object t = is_object t
meets need.Value t = not (is_list t)
meets need.List t = is_list t
meets need.Any t = true

-- what `=` and `!=` take: both Int, both Bool, one enumeration, or objects of any classes
abbrev pub is_comparable : ExprType → ExprType → Bool
is_comparable Int t = is_int t
is_comparable Truth t = is_truth t
is_comparable (Choice e) t = is_choice e t
is_comparable (Object c) t = is_object t
is_comparable (Objects c) t = false
is_comparable (Class c) t = false

-- Quantifiers

-- what is needed of body number k: of `pack` the place, the size and the room
abbrev pub body_need : QuantKind → ℕ → Need
body_need kind.Sum k = need.Int
body_need kind.AllDifferent k = need.Value
body_need kind.Pack k = cond (nat_eq k 0) need.Object need.Int
body_need other k = need.Truth

abbrev pub quant_result : QuantKind → ExprType
quant_result kind.Sum = Int
quant_result kind.Count = Int
quant_result other = Truth
