-- That each place in a model is that of its token: a name's that of its word, a bound's that of its
-- first token, that of a `where` and of a goal that of its keyword. The tokens begin with those of
-- what stands there.
use Rattle.std.specs.Prelude.{◌≡◌, ◌+◌, ℕ, Bool, cond, List, [], ◌∷◌, Option, IfSome, length, drop}
use Rattle.conf_syntax.specs.declared.token.Ident.{Ident}
use Rattle.conf_syntax.specs.declared.token.Key.TheVariants as key
use Rattle.conf_syntax.specs.declared.token.Placed.{Placed}
use Rattle.conf_syntax.specs.declared.token.Token.TheVariants.{Key}
use Rattle.conf_syntax.specs.declared.tree.Bound.{Bound}
use Rattle.conf_syntax.specs.declared.tree.ClassDecl.{ClassDecl}
use Rattle.conf_syntax.specs.declared.tree.EnumDecl.{EnumDecl}
use Rattle.conf_syntax.specs.declared.tree.Expr.{Expr}
use Rattle.conf_syntax.specs.declared.tree.GoalDecl.{GoalDecl}
use Rattle.conf_syntax.specs.declared.tree.Item.{Item}
use Rattle.conf_syntax.specs.declared.tree.Item.TheVariants as item
use Rattle.conf_syntax.specs.declared.tree.Member.{Member}
use Rattle.conf_syntax.specs.declared.tree.Member.TheVariants as member
use Rattle.conf_syntax.specs.declared.tree.Program.{Program}
use Rattle.conf_syntax.specs.declared.tree.Shape.{Shape}
use Rattle.conf_syntax.specs.declared.tree.Shape.TheVariants as shape
use Rattle.conf_syntax.specs.declared.tree.VarDecl.{VarDecl}
use Rattle.conf_syntax.specs.declared.tree.WhereDecl.{WhereDecl}
use Rattle.conf_syntax.specs.OnlyIf.{only_if}
use Rattle.conf_syntax.specs.Places.{first_at, at_index, Stands}
use Rattle.conf_syntax.specs.Trees.{statement_tokens, bound_tokens, shape_tokens, var_tokens, where_tokens, goal_tokens, enum_tokens, parent_tokens, member_tokens, class_tokens, item_tokens}

-- each of a row stands where those before it end
abbrev pub InRow : {X : Type 0} → (List Placed → X → Type 0) → (X → ℕ) → List Placed → List X
    → Type 0
InRow Stand size tokens [] = Unit {0}
InRow Stand size tokens (x ∷ xs) = Stand tokens x × InRow Stand size (drop (size x) tokens) xs

abbrev pub WordStands : List Placed → Ident → Type 0
WordStands tokens i = i.at ≡ first_at tokens

abbrev pub ExprStands : List Placed → Expr → Type 0
ExprStands tokens e = Stands tokens e.at e.node

-- the high end stands behind the low one and the points, a name behind `ref`
abbrev pub ShapeStands : List Placed → Shape → Type 0
ShapeStands tokens (shape.Range low high) =
    (low.at ≡ first_at tokens) × (high.at ≡ at_index (length (bound_tokens low) + 1) tokens)
ShapeStands tokens shape.Int = Unit {0}
ShapeStands tokens shape.Bool = Unit {0}
ShapeStands tokens (shape.Named i) = WordStands tokens i
ShapeStands tokens (shape.Many i n) = WordStands tokens i
ShapeStands tokens (shape.Ref i) = WordStands (drop 1 tokens) i
ShapeStands tokens (shape.RefSet i n) = WordStands (drop 1 tokens) i

-- `var`, the name, `as`, the shape
abbrev pub VarStands : List Placed → VarDecl → Type 0
VarStands tokens v = WordStands (drop 1 tokens) v.name × ShapeStands (drop 3 tokens) v.shape

-- the keyword, and the brace where there is one
abbrev pub WhereStands : List Placed → WhereDecl → Type 0
WhereStands tokens w =
    (w.at ≡ first_at tokens) × InRow ExprStands (λ e. length (statement_tokens e))
    (drop (cond w.braces 2 1) tokens) w.list

abbrev pub GoalStands : List Placed → GoalDecl → Type 0
GoalStands tokens g = (g.at ≡ first_at tokens) × ExprStands (drop 1 tokens) g.expr

-- `enum`, the name, a brace, the values, each with the comma or the brace behind it
abbrev pub EnumStands : List Placed → EnumDecl → Type 0
EnumStands tokens e =
    WordStands (drop 1 tokens) e.name × InRow WordStands (λ i. 2) (drop 3 tokens) e.values

abbrev pub MemberStands : List Placed → Member → Type 0
MemberStands tokens (member.Var v) = VarStands tokens v
MemberStands tokens (member.Where w) = WhereStands tokens w

-- `extends`, the name
abbrev pub ParentStands : List Placed → Option Ident → Type 0
ParentStands tokens parent = IfSome parent (WordStands (drop 1 tokens))

-- from behind the name: the parent, a brace, the members
abbrev pub ClassBodyStands : List Placed → ClassDecl → Type 0
ClassBodyStands tokens c =
    ParentStands tokens c.parent × InRow MemberStands (λ m. length (member_tokens m))
    (drop (length (parent_tokens c.parent) + 1) tokens) c.members

-- `abstract` where it is, `class`, the name, the body
abbrev pub ClassStands : List Placed → ClassDecl → Type 0
ClassStands tokens c =
    WordStands (drop (length (only_if c.is_abstract (Key key.Abstract)) + 1) tokens) c.name
    × ClassBodyStands (drop (length (only_if c.is_abstract (Key key.Abstract)) + 2) tokens) c

abbrev pub ItemStands : List Placed → Item → Type 0
ItemStands tokens (item.Enum e) = EnumStands tokens e
ItemStands tokens (item.Class c) = ClassStands tokens c
ItemStands tokens (item.Var v) = VarStands tokens v
ItemStands tokens (item.Where w) = WhereStands tokens w
ItemStands tokens (item.Goal g) = GoalStands tokens g

-- each place of a model is that of its token
abbrev pub ProgramStands : List Placed → Program → Type 0
ProgramStands tokens p = InRow ItemStands (λ i. length (item_tokens i)) tokens p.items

-- How many tokens each has, for the proofs

-- an expression with its semicolon
abbrev pub statement_size : Expr → ℕ
statement_size e = length (statement_tokens e)

abbrev pub bound_size : Bound → ℕ
bound_size b = length (bound_tokens b)

abbrev pub shape_size : Shape → ℕ
shape_size s = length (shape_tokens s)

abbrev pub var_size : VarDecl → ℕ
var_size v = length (var_tokens v)

abbrev pub where_size : WhereDecl → ℕ
where_size w = length (where_tokens w)

abbrev pub goal_size : GoalDecl → ℕ
goal_size g = length (goal_tokens g)

-- a value of an enumeration with the comma or the brace behind it
abbrev pub value_size : Ident → ℕ
value_size i = 2

abbrev pub enum_size : EnumDecl → ℕ
enum_size e = length (enum_tokens e)

abbrev pub abstract_size : Bool → ℕ
abstract_size a = length (only_if a (Key key.Abstract))

abbrev pub parent_size : Option Ident → ℕ
parent_size p = length (parent_tokens p)

abbrev pub member_size : Member → ℕ
member_size m = length (member_tokens m)

abbrev pub class_size : ClassDecl → ℕ
class_size c = length (class_tokens c)

abbrev pub item_size : Item → ℕ
item_size i = length (item_tokens i)
