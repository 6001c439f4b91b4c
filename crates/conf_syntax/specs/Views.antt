-- Which plain tree a tree of the program is. What the grammar hasn't is a tree that isn't good.
use Rattle.std.specs.Prelude.{ℕ, Bool, true, false, List, [], ◌∷◌, Option, None, Some}
use Rattle.conf_syntax.specs.declared.token.Ident.{Ident}
use Rattle.conf_syntax.specs.declared.token.Key.TheVariants as key
use Rattle.conf_syntax.specs.declared.token.Token.TheVariants.{Word, Number, Key}
use Rattle.conf_syntax.specs.declared.tree.Bound.{Bound}
use Rattle.conf_syntax.specs.declared.tree.Expr.{Expr}
use Rattle.conf_syntax.specs.declared.tree.Item as items
use Rattle.conf_syntax.specs.declared.tree.Item.TheVariants as item
use Rattle.conf_syntax.specs.declared.tree.Member as members
use Rattle.conf_syntax.specs.declared.tree.Member.TheVariants as member
use Rattle.conf_syntax.specs.declared.tree.Node as node
use Rattle.conf_syntax.specs.declared.tree.Quant as quant
use Rattle.conf_syntax.specs.declared.tree.Shape as shapes
use Rattle.conf_syntax.specs.declared.tree.Shape.TheVariants as shape
use Rattle.conf_syntax.specs.Trees.{truth_token}
use Rattle.conf_syntax.specs.Plain.{Negative, Negation, Tree, Leaf, Round, Dot, Under, Two, Many, Single, Head, HeadIf, First, Then, semicolons, End, EndOf, Shape, Range, Int, Truth, Named, Counted, Values, OneValue, WithValue, Exprs, NoExpr, WithExpr, Member, Var, Where, Braces, Members, NoMember, WithMember, Item, Enum, Class, Alone, Goal, Program, Empty, With}

-- one more body
abbrev pub grown : Tree → Tree → Tree
grown (First h d) e = Then (First h d) e
grown (Then b d) e = Then (Then b d) e
grown h e = First h e

-- the end of a quantifier, by whether its bodies have semicolons
abbrev pub closed : Bool → Tree → Tree
closed true b = Many b
closed false (First h e) = Single h e
closed false b = Many b

abbrev mutual
  pub tree_of : node.Node → Tree
  tree_of (node.Number n) = Leaf (Number n)
  tree_of (node.Truth b) = Leaf (truth_token b)
  tree_of node.This = Leaf (Key key.This)
  tree_of (node.Named w) = Leaf (Word w)
  tree_of (node.Paren' p at e) = Round (tree_of e)
  tree_of (node.Dot' p at e i) = Dot (tree_of e) i.name
  tree_of (node.Minus' p at e) = Under Negative (tree_of e)
  tree_of (node.Not' p at e) = Under Negation (tree_of e)
  tree_of (node.Pair' o p at l q at' r) = Two o (tree_of l) (tree_of r)
  tree_of (node.Quant' p q) = quant_of q

  pub quant_of : quant.Quant → Tree
  quant_of (quant.Quant' k var at over filter shape body) = closed (semicolons k)
      (bodies_of body (filter_of filter (Head k var.name (tree_of over))))

  pub filter_of : quant.Held-Quant-filter → Tree → Tree
  filter_of quant.None' h = h
  filter_of (quant.Some' at e) h = HeadIf h (tree_of e)

  pub bodies_of : {m : _} → quant.Row_of-Expr m → Tree → Tree
  bodies_of quant.end_of-Expr h = h
  bodies_of (quant.more_of-Expr at e rest) h = bodies_of rest (grown h (tree_of e))

-- the filter, if there is one
abbrev pub filtered : Option Expr → Tree → Tree
filtered None h = h
filtered (Some f) h = HeadIf h (tree_of f.node)

-- bodies in order
abbrev pub chain : Tree → List Expr → Tree
chain h [] = h
chain h (x ∷ xs) = chain (grown h (tree_of x.node)) xs

-- not a good tree
abbrev pub no_tree : Tree
no_tree = Many (Leaf (Number 0))

abbrev pub end_of : Bound → End
end_of b = EndOf b.minus b.value

abbrev pub shape_of : shapes.Shape → Shape
shape_of (shape.Range low high) = Range (end_of low) (end_of high)
shape_of shape.Int = Int
shape_of shape.Bool = Truth
shape_of (shape.Named i) = Named false i.name
shape_of (shape.Many i n) = Counted false i.name n
shape_of (shape.Ref i) = Named true i.name
shape_of (shape.RefSet i n) = Counted true i.name n

abbrev pub exprs_from : Exprs → List Expr → Exprs
exprs_from es [] = es
exprs_from es (x ∷ xs) = exprs_from (WithExpr es (tree_of x.node)) xs

abbrev pub where_of : Bool → List Expr → Member
where_of true list = Braces (exprs_from NoExpr list)
where_of false (e ∷ []) = Where (tree_of e.node)
where_of false list = Where no_tree

abbrev pub member_of : members.Member → Member
member_of (member.Var v) = Var v.name.name (shape_of v.shape)
member_of (member.Where w) = where_of w.braces w.list

abbrev pub members_from : Members → List members.Member → Members
members_from ms [] = ms
members_from ms (x ∷ xs) = members_from (WithMember ms (member_of x)) xs

abbrev pub values_from : Values → List Ident → Values
values_from vs [] = vs
values_from vs (x ∷ xs) = values_from (WithValue vs x.name) xs

abbrev pub enum_of : List ℕ → List Ident → Item
enum_of w [] = Goal true no_tree
enum_of w (x ∷ xs) = Enum w (values_from (OneValue x.name) xs)

abbrev pub parent_of : Option Ident → Option (List ℕ)
parent_of None = None
parent_of (Some i) = Some i.name

abbrev pub item_of : items.Item → Item
item_of (item.Enum e) = enum_of e.name.name e.values
item_of (item.Class c) =
    Class c.is_abstract c.name.name (parent_of c.parent) (members_from NoMember c.members)
item_of (item.Var v) = Alone (Var v.name.name (shape_of v.shape))
item_of (item.Where w) = Alone (where_of w.braces w.list)
item_of (item.Goal g) = Goal g.max (tree_of g.expr.node)

abbrev pub program_from : Program → List items.Item → Program
program_from p [] = p
program_from p (x ∷ xs) = program_from (With p (item_of x)) xs

-- the plain tree of a model
abbrev pub program_of : List items.Item → Program
program_of list = program_from Empty list
