-- All places of a model, as a list: of each node its own and then those of its parts, from left to
-- right.
use Rattle.std.specs.Prelude.{ℕ, List, [], ◌∷◌, ◌++◌, Option, None, Some}
use Rattle.std.specs.List.{flat_map}
use Rattle.conf_syntax.specs.declared.token.Ident.{Ident}
use Rattle.conf_syntax.specs.declared.tree.ClassDecl.{ClassDecl}
use Rattle.conf_syntax.specs.declared.tree.EnumDecl.{EnumDecl}
use Rattle.conf_syntax.specs.declared.tree.Expr.{Expr}
use Rattle.conf_syntax.specs.declared.tree.GoalDecl.{GoalDecl}
use Rattle.conf_syntax.specs.declared.tree.Item.{Item}
use Rattle.conf_syntax.specs.declared.tree.Item.TheVariants as item
use Rattle.conf_syntax.specs.declared.tree.Member.{Member}
use Rattle.conf_syntax.specs.declared.tree.Member.TheVariants as member
use Rattle.conf_syntax.specs.declared.tree.Node as node
use Rattle.conf_syntax.specs.declared.tree.Program.{Program}
use Rattle.conf_syntax.specs.declared.tree.Quant as quant
use Rattle.conf_syntax.specs.declared.tree.Shape.{Shape}
use Rattle.conf_syntax.specs.declared.tree.Shape.TheVariants as shape
use Rattle.conf_syntax.specs.declared.tree.VarDecl.{VarDecl}
use Rattle.conf_syntax.specs.declared.tree.WhereDecl.{WhereDecl}

abbrev mutual
  pub node_places : ℕ → node.Node → List ℕ
  node_places at (node.Number n) = at ∷ []
  node_places at (node.Truth b) = at ∷ []
  node_places at node.This = at ∷ []
  node_places at (node.Named w) = at ∷ []
  node_places at (node.Paren' p i e) = at ∷ node_places i e
  node_places at (node.Dot' p i e w) = at ∷ (node_places i e ++ (w.at ∷ []))
  node_places at (node.Minus' p i e) = at ∷ node_places i e
  node_places at (node.Not' p i e) = at ∷ node_places i e
  node_places at (node.Pair' o p i l q j r) = at ∷ (node_places i l ++ node_places j r)
  node_places at (node.Quant' p q) = at ∷ quant_places q

  pub quant_places : quant.Quant → List ℕ
  quant_places (quant.Quant' k var i over filter shape body) = var.at ∷ (node_places i over
      ++ (filter_places filter ++ row_places body))

  pub filter_places : quant.Held-Quant-filter → List ℕ
  filter_places quant.None' = []
  filter_places (quant.Some' i e) = node_places i e

  pub row_places : {m : _} → quant.Row_of-Expr m → List ℕ
  row_places quant.end_of-Expr = []
  row_places (quant.more_of-Expr i e rest) = node_places i e ++ row_places rest

abbrev pub word_places : Ident → List ℕ
word_places i = i.at ∷ []

abbrev pub expr_places : Expr → List ℕ
expr_places e = node_places e.at e.node

abbrev pub shape_places : Shape → List ℕ
shape_places (shape.Range low high) = low.at ∷ high.at ∷ []
shape_places shape.Int = []
shape_places shape.Bool = []
shape_places (shape.Named i) = i.at ∷ []
shape_places (shape.Many i n) = i.at ∷ []
shape_places (shape.Ref i) = i.at ∷ []
shape_places (shape.RefSet i n) = i.at ∷ []

abbrev pub var_places : VarDecl → List ℕ
var_places v = v.name.at ∷ shape_places v.shape

abbrev pub where_places : WhereDecl → List ℕ
where_places w = w.at ∷ flat_map expr_places w.list

abbrev pub goal_places : GoalDecl → List ℕ
goal_places g = g.at ∷ expr_places g.expr

abbrev pub enum_places : EnumDecl → List ℕ
enum_places e = e.name.at ∷ flat_map word_places e.values

abbrev pub member_places : Member → List ℕ
member_places (member.Var v) = var_places v
member_places (member.Where w) = where_places w

abbrev pub parent_places : Option Ident → List ℕ
parent_places None = []
parent_places (Some i) = i.at ∷ []

abbrev pub class_places : ClassDecl → List ℕ
class_places c = c.name.at ∷ (parent_places c.parent ++ flat_map member_places c.members)

abbrev pub item_places : Item → List ℕ
item_places (item.Enum e) = enum_places e
item_places (item.Class c) = class_places c
item_places (item.Var v) = var_places v
item_places (item.Where w) = where_places w
item_places (item.Goal g) = goal_places g

abbrev pub program_places : Program → List ℕ
program_places p = flat_map item_places p.items
