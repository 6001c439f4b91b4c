use Rattle.std.proofs.Common.{◌≡◌, drop}
use Rattle.conf_types.specs.Checked.{trees_onto}
use Rattle.conf_types.specs.TreeOf.{trees_of}
use Rattle.conf_types.proofs.copies.+copy.Given as goal

-- with what is left it is all bodies
abbrev pub invariant-copy_bodies-loop-expr : goal.invariant-copy_bodies-loop-expr
invariant-copy_bodies-loop-expr l = trees_onto l.found.items (trees_of (drop l.expr-index l.body)) ≡ trees_of l.body
