-- The classes of operators, and what operators need of their sides and make of them: one line for
-- each class.
use Rattle.std.specs.Prelude.{Bool, true, false, ◌&&◌, ◌||◌}
use Rattle.conf_syntax.specs.declared.tree.Op.{Op}
use Rattle.conf_syntax.specs.declared.tree.Op.TheVariants as op
use Rattle.conf_types.specs.declared.operators.OpClass.{OpClass}
use Rattle.conf_types.specs.declared.operators.OpClass.TheVariants.{Logic, Equality, Order, Member, Sum, Product}
use Rattle.conf_types.specs.declared.types.ExprType.{ExprType}
use Rattle.conf_types.specs.declared.types.ExprType.TheVariants.{Int, Truth}
use Rattle.conf_types.specs.declared.types.Need.{Need}
use Rattle.conf_types.specs.declared.types.Need.TheVariants as need
use Rattle.conf_types.specs.Types.{is_comparable, is_int}

abbrev pub class_of : Op → OpClass
class_of op.Implies = Logic
class_of op.Or = Logic
class_of op.And = Logic
class_of op.Eq = Equality
class_of op.Ne = Equality
class_of op.In = Member
class_of op.Add = Sum
class_of op.Sub = Sum
class_of op.Mul = Product
class_of other = Order

-- what a class needs of the left side
abbrev pub left_by : OpClass → Need
left_by Logic = need.Truth
left_by Equality = need.Any
left_by Member = need.Object
left_by other = need.Int

-- what a class needs of the right side
abbrev pub right_by : OpClass → Need
right_by Logic = need.Truth
right_by Equality = need.Any
right_by Member = need.List
right_by other = need.Int

-- the pairs of types that a class takes; `in` and what compares nothing have their needs alone
abbrev pub taken_by : OpClass → ExprType → ExprType → Bool
taken_by Equality a b = is_comparable a b
taken_by Order a b = is_int a && is_int b
taken_by other a b = true

-- the type of what a class makes
abbrev pub made_by : OpClass → ExprType
made_by Sum = Int
made_by Product = Int
made_by other = Truth

-- the class makes numbers of numbers, and of what is built of literals what is built of literals
abbrev pub makes_numbers : OpClass → Bool
makes_numbers Sum = true
makes_numbers Product = true
makes_numbers other = false

-- one side of `*` is built of literals
abbrev pub is_linear : Op → Bool → Bool → Bool
is_linear op.Mul l r = l || r
is_linear op l r = true

abbrev pub is_in : Op → Bool
is_in op.In = true
is_in op = false
