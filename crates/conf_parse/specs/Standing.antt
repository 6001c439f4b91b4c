-- Where the places of declarations come from: each reader says what is behind, and that the places
-- are those of the tokens.
use Rattle.std.specs.Prelude.{◌≡◌, ◌+◌, ℕ, Bool, true, false, List, [], ◌∷◌, Option, drop}
use Rattle.conf_syntax.specs.declared.token.Ident.{Ident}
use Rattle.conf_syntax.specs.declared.token.Placed.{Placed}
use Rattle.conf_syntax.specs.declared.tree.Bound.{Bound}
use Rattle.conf_syntax.specs.declared.tree.ClassDecl.{ClassDecl}
use Rattle.conf_syntax.specs.declared.tree.EnumDecl.{EnumDecl}
use Rattle.conf_syntax.specs.declared.tree.Expr.{Expr}
use Rattle.conf_syntax.specs.declared.tree.GoalDecl.{GoalDecl}
use Rattle.conf_syntax.specs.declared.tree.Item.{Item}
use Rattle.conf_syntax.specs.declared.tree.Member.{Member}
use Rattle.conf_syntax.specs.declared.tree.Shape.{Shape}
use Rattle.conf_syntax.specs.declared.tree.Shape.TheVariants as shape
use Rattle.conf_syntax.specs.declared.tree.VarDecl.{VarDecl}
use Rattle.conf_syntax.specs.declared.tree.WhereDecl.{WhereDecl}
use Rattle.conf_syntax.specs.Places.{first_at}
use Rattle.conf_syntax.specs.Standing.{statement_size, bound_size, shape_size, var_size, where_size, goal_size, value_size, enum_size, abstract_size, parent_size, member_size, class_size, item_size, InRow, WordStands, ExprStands, ShapeStands, VarStands, WhereStands, GoalStands, EnumStands, MemberStands, ParentStands, ClassStands, ItemStands}

-- what was read stands at the front of the tokens, and has so many of them
pub record StandsBefore {X : Type 0} (Stand : List Placed → X → Type 0) (size : X → ℕ) (tokens : List Placed) (x : X) (rest : List Placed) : Type 0 where
  pub stands : Stand tokens x
  pub rest_is : rest ≡ drop (size x) tokens

abbrev pub StatementReads : List Placed → Expr → List Placed → Type 0
StatementReads = StandsBefore ExprStands statement_size

abbrev pub VarReads : List Placed → VarDecl → List Placed → Type 0
VarReads = StandsBefore VarStands var_size

abbrev pub WhereReads : List Placed → WhereDecl → List Placed → Type 0
WhereReads = StandsBefore WhereStands where_size

abbrev pub GoalReads : List Placed → GoalDecl → List Placed → Type 0
GoalReads = StandsBefore GoalStands goal_size

abbrev pub EnumReads : List Placed → EnumDecl → List Placed → Type 0
EnumReads = StandsBefore EnumStands enum_size

abbrev pub MemberReads : List Placed → Member → List Placed → Type 0
MemberReads = StandsBefore MemberStands member_size

abbrev pub ClassReads : List Placed → ClassDecl → List Placed → Type 0
ClassReads = StandsBefore ClassStands class_size

abbrev pub TopLevelReads : List Placed → Item → List Placed → Type 0
TopLevelReads = StandsBefore ItemStands item_size

-- a shape with its semicolon
abbrev pub shape_end : Shape → ℕ
shape_end s = shape_size s + 1

abbrev pub ShapeReads : List Placed → Shape → List Placed → Type 0
ShapeReads = StandsBefore ShapeStands shape_end

-- a parent, or none, with the brace
abbrev pub parent_end : Option Ident → ℕ
parent_end p = parent_size p + 1

abbrev pub ParentReads : List Placed → Option Ident → List Placed → Type 0
ParentReads = StandsBefore ParentStands parent_end

-- the low end of a range, with the points
pub record LowReads (tokens : List Placed) (low : Bound) (rest : List Placed) : Type 0 where
  pub at_is : low.at ≡ first_at tokens
  pub rest_is : rest ≡ drop (bound_size low + 1) tokens

-- a range from behind the points; `front` begins with the low end
pub record HighReads (low : Bound) (tokens : List Placed) (s : Shape) (rest : List Placed) : Type 0 where
  pub stands : (front : List Placed) → low.at ≡ first_at front → tokens ≡ drop (bound_size low + 1)
      front → ShapeStands front s
  pub rest_is : (front : List Placed) → tokens ≡ drop (bound_size low + 1) front → rest
      ≡ drop (shape_end s) front

abbrev pub ref_size : Bool → ℕ
ref_size true = 1
ref_size false = 0

abbrev pub named_shape : Bool → Ident → Shape
named_shape true i = shape.Ref i
named_shape false i = shape.Named i

abbrev pub counted_shape : Bool → Ident → ℕ → Shape
counted_shape true i n = shape.RefSet i n
counted_shape false i n = shape.Many i n

-- the shape of a name from behind the name; `front` begins with `ref`, if it is there, and the name
pub record CountReads (r : Bool) (i : Ident) (tokens : List Placed) (s : Shape) (rest : List Placed) : Type 0 where
  pub stands : (front : List Placed) → WordStands (drop (ref_size r) front) i → ShapeStands front s
  pub rest_is : (front : List Placed) → tokens ≡ drop (ref_size r + 1) front → rest
      ≡ drop (shape_end s) front

-- a class from behind its name; `front` begins with `abstract`, if it is there, and `class`
pub record ClassBodyReads (a : Bool) (i : Ident) (tokens : List Placed) (c : ClassDecl) (rest : List Placed) : Type 0 where
  pub stands : (front : List Placed) → WordStands (drop (abstract_size a + 1) front) i → tokens
      ≡ drop (abstract_size a + 2) front → ClassStands front c
  pub rest_is : (front : List Placed) → tokens ≡ drop (abstract_size a + 2) front → rest
      ≡ drop (class_size c) front

abbrev pub row_size : {X : Type 0} → (X → ℕ) → List X → ℕ
row_size size [] = 0
row_size size (x ∷ xs) = size x + row_size size xs

-- a row so far, and what is behind it
pub record RowReads {X : Type 0} (Stand : List Placed → X → Type 0) (size : X → ℕ) (tokens : List Placed) (xs : List X) (rest : List Placed) : Type 0 where
  pub stands : InRow Stand size tokens xs
  pub rest_is : rest ≡ drop (row_size size xs) tokens

abbrev pub StatementsRead : List Placed → List Expr → List Placed → Type 0
StatementsRead = RowReads ExprStands statement_size

abbrev pub ValuesRead : List Placed → List Ident → List Placed → Type 0
ValuesRead = RowReads WordStands value_size

abbrev pub MembersRead : List Placed → List Member → List Placed → Type 0
MembersRead = RowReads MemberStands member_size

abbrev pub ItemsRead : List Placed → List Item → List Placed → Type 0
ItemsRead = RowReads ItemStands item_size
