-- Which tokens are those of which tree, which trees the grammar has, and how deep a tree is.
use Rattle.std.specs.Prelude.{ℕ, ◌+◌, max, nat_le, Bool, true, false, cond, ◌&&◌, ◌||◌, ◌==◌, List, [], ◌∷◌, ◌++◌, Option, length}
use Rattle.std.specs.List.{flat_map, list_all}
use Rattle.std.specs.Option.{option_map_or}
use Rattle.conf_syntax.specs.declared.token.Ident.{Ident}
use Rattle.conf_syntax.specs.declared.token.Key.TheVariants as key
use Rattle.conf_syntax.specs.declared.token.Mark.TheVariants as mark
use Rattle.conf_syntax.specs.declared.token.Token.{Token}
use Rattle.conf_syntax.specs.declared.token.Token.TheVariants.{Word, Number, Key, Mark}
use Rattle.conf_syntax.specs.declared.tree.Bound.{Bound}
use Rattle.conf_syntax.specs.declared.tree.ClassDecl.{ClassDecl}
use Rattle.conf_syntax.specs.declared.tree.EnumDecl.{EnumDecl}
use Rattle.conf_syntax.specs.declared.tree.Expr.{Expr}
use Rattle.conf_syntax.specs.declared.tree.GoalDecl.{GoalDecl}
use Rattle.conf_syntax.specs.declared.tree.Item.{Item}
use Rattle.conf_syntax.specs.declared.tree.Item.TheVariants as item
use Rattle.conf_syntax.specs.declared.tree.Member.{Member}
use Rattle.conf_syntax.specs.declared.tree.Member.TheVariants as member
use Rattle.conf_syntax.specs.declared.tree.Node as node
use Rattle.conf_syntax.specs.declared.tree.Op.{Op}
use Rattle.conf_syntax.specs.declared.tree.Op.TheVariants as op
use Rattle.conf_syntax.specs.declared.tree.Program.{Program}
use Rattle.conf_syntax.specs.declared.tree.Quant as quant
use Rattle.conf_syntax.specs.declared.tree.QuantKind.{QuantKind}
use Rattle.conf_syntax.specs.declared.tree.QuantKind.TheVariants as kind
use Rattle.conf_syntax.specs.declared.tree.Shape.{Shape}
use Rattle.conf_syntax.specs.declared.tree.Shape.TheVariants as shape
use Rattle.conf_syntax.specs.declared.tree.VarDecl.{VarDecl}
use Rattle.conf_syntax.specs.declared.tree.WhereDecl.{WhereDecl}
use Rattle.conf_syntax.specs.OnlyIf.{only_if}

-- Tokens

abbrev pub op_token : Op → Token
op_token op.Implies = Mark mark.Arrow
op_token op.Or = Key key.Or
op_token op.And = Key key.And
op_token op.Eq = Mark mark.Equal
op_token op.Ne = Mark mark.NotEqual
op_token op.Lt = Mark mark.Less
op_token op.Le = Mark mark.AtMost
op_token op.Gt = Mark mark.Greater
op_token op.Ge = Mark mark.AtLeast
op_token op.In = Key key.In
op_token op.Add = Mark mark.Plus
op_token op.Sub = Mark mark.Minus
op_token op.Mul = Mark mark.Star

abbrev pub kind_token : QuantKind → Token
kind_token kind.Forall = Key key.Forall
kind_token kind.Exists = Key key.Exists
kind_token kind.Sum = Key key.Sum
kind_token kind.Count = Key key.Count
kind_token kind.AllDifferent = Key key.AllDifferent
kind_token kind.Pack = Key key.Pack

-- what stands behind each body: a semicolon, or nothing where there is one body alone
abbrev pub body_end : QuantKind → List Token
body_end kind.Sum = []
body_end kind.Count = []
body_end kind.AllDifferent = []
body_end other = Mark mark.Semicolon ∷ []

abbrev pub truth_token : Bool → Token
truth_token b = Key (cond b key.True key.False)

abbrev mutual
  pub tokens_of : node.Node → List Token
  tokens_of (node.Number n) = Number n ∷ []
  tokens_of (node.Truth b) = truth_token b ∷ []
  tokens_of node.This = Key key.This ∷ []
  tokens_of (node.Named w) = Word w ∷ []
  tokens_of (node.Paren' p at e) = Mark mark.OpenParen ∷ (tokens_of e ++ Mark mark.CloseParen ∷ [])
  tokens_of (node.Dot' p at e i) = tokens_of e ++ Mark mark.Dot ∷ Word i.name ∷ []
  tokens_of (node.Minus' p at e) = Mark mark.Minus ∷ tokens_of e
  tokens_of (node.Not' p at e) = Key key.Not ∷ tokens_of e
  tokens_of (node.Pair' o p at l q at' r) = tokens_of l ++ op_token o ∷ tokens_of r
  tokens_of (node.Quant' p q) = quant_tokens q

  pub quant_tokens : quant.Quant → List Token
  quant_tokens (quant.Quant' k var at over filter shape body) =
      kind_token k ∷ Word var.name ∷ Key key.In ∷ (tokens_of over ++ filter_tokens filter
      ++ Mark mark.OpenBrace ∷ (body_tokens body k ++ Mark mark.CloseBrace ∷ []))

  pub filter_tokens : quant.Held-Quant-filter → List Token
  filter_tokens quant.None' = []
  filter_tokens (quant.Some' at e) = Key key.Where ∷ tokens_of e

  pub body_tokens : {m : _} → quant.Row_of-Expr m → QuantKind → List Token
  body_tokens quant.end_of-Expr k = []
  body_tokens (quant.more_of-Expr at e rest) k = tokens_of e ++ body_end k ++ body_tokens rest k

abbrev pub expr_tokens : Expr → List Token
expr_tokens e = tokens_of e.node

-- an expression with its semicolon
abbrev pub statement_tokens : Expr → List Token
statement_tokens e = expr_tokens e ++ Mark mark.Semicolon ∷ []

abbrev pub bound_tokens : Bound → List Token
bound_tokens b = only_if b.minus (Mark mark.Minus) ++ Number b.value ∷ []

abbrev pub count_tokens : ℕ → List Token
count_tokens n = Mark mark.OpenBracket ∷ Number n ∷ Mark mark.CloseBracket ∷ []

abbrev pub shape_tokens : Shape → List Token
shape_tokens (shape.Range low high) = bound_tokens low ++ Mark mark.DotDot ∷ bound_tokens high
shape_tokens shape.Int = Key key.Int ∷ []
shape_tokens shape.Bool = Key key.Bool ∷ []
shape_tokens (shape.Named i) = Word i.name ∷ []
shape_tokens (shape.Many i n) = Word i.name ∷ count_tokens n
shape_tokens (shape.Ref i) = Key key.Ref ∷ Word i.name ∷ []
shape_tokens (shape.RefSet i n) = Key key.Ref ∷ Word i.name ∷ count_tokens n

abbrev pub var_tokens : VarDecl → List Token
var_tokens v =
    Key key.Var ∷ Word v.name.name ∷ Key key.As ∷ (shape_tokens v.shape ++ Mark mark.Semicolon ∷ [])

abbrev pub where_body : Bool → List Expr → List Token
where_body true list =
    Mark mark.OpenBrace ∷ (flat_map statement_tokens list ++ Mark mark.CloseBrace ∷ [])
where_body false list = flat_map statement_tokens list

abbrev pub where_tokens : WhereDecl → List Token
where_tokens w = Key key.Where ∷ where_body w.braces w.list

abbrev pub goal_key : Bool → Token
goal_key max = Key (cond max key.Maximize key.Minimize)

abbrev pub goal_tokens : GoalDecl → List Token
goal_tokens g = goal_key g.max ∷ statement_tokens g.expr

abbrev pub further_tokens : Ident → List Token
further_tokens i = Mark mark.Comma ∷ Word i.name ∷ []

abbrev pub values_tokens : List Ident → List Token
values_tokens [] = []
values_tokens (i ∷ is) = Word i.name ∷ flat_map further_tokens is

abbrev pub enum_tokens : EnumDecl → List Token
enum_tokens e =
    Key key.Enum ∷ Word e.name.name ∷ Mark mark.OpenBrace ∷ (values_tokens e.values
    ++ Mark mark.CloseBrace ∷ [])

abbrev pub parent_tokens : Option Ident → List Token
parent_tokens parent = option_map_or (λ i. Key key.Extends ∷ Word i.name ∷ []) parent []

abbrev pub member_tokens : Member → List Token
member_tokens (member.Var v) = var_tokens v
member_tokens (member.Where w) = where_tokens w

abbrev pub class_tokens : ClassDecl → List Token
class_tokens c =
    only_if c.is_abstract (Key key.Abstract) ++ Key key.Class ∷ Word c.name.name
    ∷ (parent_tokens c.parent ++ Mark mark.OpenBrace ∷ (flat_map member_tokens c.members
    ++ Mark mark.CloseBrace ∷ []))

abbrev pub item_tokens : Item → List Token
item_tokens (item.Enum e) = enum_tokens e
item_tokens (item.Class c) = class_tokens c
item_tokens (item.Var v) = var_tokens v
item_tokens (item.Where w) = where_tokens w
item_tokens (item.Goal g) = goal_tokens g

-- the tokens of a whole model, without their places
abbrev pub program_tokens : Program → List Token
program_tokens p = flat_map item_tokens p.items

-- The grammar: how tightly each node binds, and how tightly its operands must

abbrev pub op_level : Op → ℕ
op_level op.Implies = 1
op_level op.Or = 2
op_level op.And = 3
op_level op.Add = 6
op_level op.Sub = 6
op_level op.Mul = 7
op_level other = 5

-- the least level of the left operand
abbrev pub left_level : Op → ℕ
left_level op.Implies = 2
left_level op.Or = 2
left_level op.And = 3
left_level op.Mul = 7
left_level other = 6

abbrev pub level : node.Node → ℕ
level (node.Dot' p at e i) = 9
level (node.Minus' p at e) = 8
level (node.Not' p at e) = 4
level (node.Pair' o p at l q at' r) = op_level o
level other = 10

-- `this` or a word, and then names behind points
abbrev pub is_path : node.Node → Bool
is_path node.This = true
is_path (node.Named w) = true
is_path (node.Dot' p at e i) = is_path e
is_path other = false

-- whether a right operand binds tightly enough; behind `in` a path stands
abbrev pub right_fits : Op → node.Node → Bool
right_fits op.Implies r = nat_le 1 (level r)
right_fits op.Or r = nat_le 3 (level r)
right_fits op.And r = nat_le 4 (level r)
right_fits op.In r = is_path r
right_fits op.Add r = nat_le 7 (level r)
right_fits op.Sub r = nat_le 7 (level r)
right_fits op.Mul r = nat_le 8 (level r)
right_fits other r = nat_le 6 (level r)

-- how many bodies a quantifier has
abbrev pub body_count_fits : QuantKind → ℕ → Bool
body_count_fits kind.Forall n = nat_le 1 n
body_count_fits kind.Exists n = nat_le 1 n
body_count_fits kind.Pack n = n == 3
body_count_fits other n = n == 1

-- which quantifiers may have a filter
abbrev pub may_filter : QuantKind → Bool
may_filter kind.Count = false
may_filter kind.AllDifferent = false
may_filter kind.Pack = false
may_filter other = true

abbrev pub row_length : {m : _} → quant.Row_of-Expr m → ℕ
row_length quant.end_of-Expr = 0
row_length (quant.more_of-Expr at e rest) = 1 + row_length rest

abbrev mutual
  pub well_formed : node.Node → Bool
  well_formed (node.Paren' p at e) = well_formed e
  well_formed (node.Dot' p at e i) = well_formed e && nat_le 9 (level e)
  well_formed (node.Minus' p at e) = well_formed e && nat_le 8 (level e)
  well_formed (node.Not' p at e) = well_formed e && nat_le 4 (level e)
  well_formed (node.Pair' o p at l q at' r) = well_formed l
      && (well_formed r && (nat_le (left_level o) (level l) && right_fits o r))
  well_formed (node.Quant' p q) = quant_fits q
  well_formed other = true

  pub quant_fits : quant.Quant → Bool
  quant_fits (quant.Quant' k var at over filter shape body) =
      well_formed over && (is_path over
      && (filter_fits filter k && (body_fits body && body_count_fits k (row_length body))))

  pub filter_fits : quant.Held-Quant-filter → QuantKind → Bool
  filter_fits quant.None' k = true
  filter_fits (quant.Some' at e) k = may_filter k && well_formed e

  pub body_fits : {m : _} → quant.Row_of-Expr m → Bool
  body_fits quant.end_of-Expr = true
  body_fits (quant.more_of-Expr at e rest) = well_formed e && body_fits rest

abbrev pub expr_fits : Expr → Bool
expr_fits e = well_formed e.node

-- a `where` without braces has one constraint
abbrev pub where_fits : WhereDecl → Bool
where_fits w = list_all expr_fits w.list && (w.braces || length w.list == 1)

abbrev pub member_fits : Member → Bool
member_fits (member.Var v) = true
member_fits (member.Where w) = where_fits w

-- an enumeration has at least one value
abbrev pub item_fits : Item → Bool
item_fits (item.Enum e) = nat_le 1 (length e.values)
item_fits (item.Class c) = list_all member_fits c.members
item_fits (item.Var v) = true
item_fits (item.Where w) = where_fits w
item_fits (item.Goal g) = expr_fits g.expr

-- the model is one that the grammar has
abbrev pub program_fits : Program → Bool
program_fits p = list_all item_fits p.items

-- Nesting: a leaf is 1, each node above it adds 1

abbrev mutual
  pub depth : node.Node → ℕ
  depth (node.Paren' p at e) = 1 + depth e
  depth (node.Dot' p at e i) = 1 + depth e
  depth (node.Minus' p at e) = 1 + depth e
  depth (node.Not' p at e) = 1 + depth e
  depth (node.Pair' o p at l q at' r) = 1 + max (depth l) (depth r)
  depth (node.Quant' p q) = 1 + quant_depth q
  depth other = 1

  pub quant_depth : quant.Quant → ℕ
  quant_depth (quant.Quant' k var at over filter shape body) = max (depth over)
      (max (filter_depth filter) (body_depth body))

  pub filter_depth : quant.Held-Quant-filter → ℕ
  filter_depth quant.None' = 0
  filter_depth (quant.Some' at e) = depth e

  pub body_depth : {m : _} → quant.Row_of-Expr m → ℕ
  body_depth quant.end_of-Expr = 0
  body_depth (quant.more_of-Expr at e rest) = max (depth e) (body_depth rest)

-- the depth of the deepest of what stands in a list
abbrev pub deepest : {X : Type 0} → (X → ℕ) → List X → ℕ
deepest depth_of [] = 0
deepest depth_of (x ∷ xs) = max (depth_of x) (deepest depth_of xs)

abbrev pub expr_depth : Expr → ℕ
expr_depth e = depth e.node

abbrev pub member_depth : Member → ℕ
member_depth (member.Var v) = 0
member_depth (member.Where w) = deepest expr_depth w.list

abbrev pub item_depth : Item → ℕ
item_depth (item.Enum e) = 0
item_depth (item.Class c) = deepest member_depth c.members
item_depth (item.Var v) = 0
item_depth (item.Where w) = deepest expr_depth w.list
item_depth (item.Goal g) = expr_depth g.expr

-- the depth of the deepest expression of a model
abbrev pub nesting : Program → ℕ
nesting p = deepest item_depth p.items
