-- Which tree without pointers a resolved expression is.
use Rattle.std.specs.Prelude.{ℕ, List, ◌∷◌, Option, None, Some, []}
use Rattle.conf_types.specs.declared.tree.RExpr.{RExpr}
use Rattle.conf_types.specs.declared.tree.RNode as node
use Rattle.conf_types.specs.declared.tree.RQuant as quant
use Rattle.conf_types.specs.Trees.{Bodies, Filter, Tree, Number, Truth, This, Paren, Minus, Not, Pair, Local, Own, Root, Value, Class, Dot, Quant, NoFilter, Where, NoBody, Body}

abbrev mutual
  pub node_tree : node.RNode → ℕ → Tree
  node_tree (node.Number n) at = Number at n
  node_tree (node.Truth b) at = Truth at b
  node_tree node.This at = This at
  node_tree (node.Paren' p i e) at = Paren at (node_tree e i)
  node_tree (node.Minus' p i e) at = Minus at (node_tree e i)
  node_tree (node.Not' p i e) at = Not at (node_tree e i)
  node_tree (node.Pair' o p i l q j r) at = Pair at o (node_tree l i) (node_tree r j)
  node_tree (node.Local k) at = Local at k
  node_tree (node.Own k s) at = Own at k s
  node_tree (node.Root k s) at = Root at k s
  node_tree (node.Value e k) at = Value at e k
  node_tree (node.Class c) at = Class at c
  node_tree (node.Dot' p i e k s) at = Dot at (node_tree e i) k s
  node_tree (node.Quant' p q) at = quant_tree q at

  pub quant_tree : quant.RQuant → ℕ → Tree
  quant_tree (quant.RQuant' k i over filter shape body) at = Quant at k (node_tree over i)
      (filter_tree filter) (body_trees body)

  pub filter_tree : quant.Held-RQuant-filter → Filter
  filter_tree quant.None' = NoFilter
  filter_tree (quant.Some' i e) = Where (node_tree e i)

  pub body_trees : {m : _} → quant.Row_of-RExpr m → Bodies
  body_trees quant.end_of-RExpr = NoBody
  body_trees (quant.more_of-RExpr i e rest) = Body (node_tree e i) (body_trees rest)

abbrev pub tree_of : RExpr → Tree
tree_of e = node_tree e.node e.at

abbrev pub optional_tree : Option RExpr → Filter
optional_tree None = NoFilter
optional_tree (Some e) = Where (tree_of e)

abbrev pub trees_of : List RExpr → Bodies
trees_of [] = NoBody
trees_of (e ∷ es) = Body (tree_of e) (trees_of es)
