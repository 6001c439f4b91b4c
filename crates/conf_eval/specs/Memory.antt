-- Which expressions take memory when they are evaluated. What a reader believes after this file:
-- quantifiers, and lists whose own value is asked for. The members of the list behind `in` are
-- looked at where they are kept.
use Rattle.std.specs.Prelude.{Bool, true, false, ◌||◌, cond}
use Rattle.class_table.specs.declared.table.Resolved.{Resolved}
use Rattle.class_table.specs.declared.table.Resolved.TheVariants as shape
use Rattle.conf_syntax.specs.declared.tree.Op.{Op}
use Rattle.conf_syntax.specs.declared.tree.Op.TheVariants as op
use Rattle.conf_types.specs.Trees.{Tree}
use Rattle.conf_types.specs.Trees as tree

-- an attribute of this shape is a list of objects
abbrev pub is_list : Resolved → Bool
is_list (shape.RefSet c n) = true
is_list (shape.Many c n) = true
is_list _ = false

-- of the second operand the members are looked at, and its value isn't asked for
abbrev pub is_member_test : Op → Bool
is_member_test op.In = true
is_member_test _ = false

abbrev mutual
  -- the value of an expression takes memory
  pub takes_memory : Tree → Bool
  takes_memory (tree.Number at n) = false
  takes_memory (tree.Truth at b) = false
  takes_memory (tree.This at) = false
  takes_memory (tree.Local at k) = false
  takes_memory (tree.Value at e k) = false
  takes_memory (tree.Missing at) = false
  takes_memory (tree.Own at k s) = is_list s
  takes_memory (tree.Root at k s) = is_list s
  takes_memory (tree.Dot at e k s) = takes_memory e || is_list s
  takes_memory (tree.Class at c) = true
  takes_memory (tree.Paren at e) = takes_memory e
  takes_memory (tree.Minus at e) = takes_memory e
  takes_memory (tree.Not at e) = takes_memory e
  takes_memory (tree.Pair at o l r) =
      takes_memory l || cond (is_member_test o) (members_take r) (takes_memory r)
  takes_memory (tree.Quant at k over f bodies) = true

  -- looking at the members of the list that an expression is does
  pub members_take : Tree → Bool
  members_take (tree.Paren at e) = members_take e
  members_take (tree.Dot at e k s) = takes_memory e
  members_take _ = false
