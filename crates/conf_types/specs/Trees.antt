-- Resolved expressions without pointers.
use Rattle.std.specs.Prelude.{ℕ, Bool}
use Rattle.class_table.specs.declared.table.Resolved.{Resolved}
use Rattle.conf_syntax.specs.declared.tree.Op.{Op}
use Rattle.conf_syntax.specs.declared.tree.QuantKind.{QuantKind}

-- each with its place first; `Missing` is what a word that means nothing is resolved to
mutual
  pub data Tree : Type 0 where
    Number : ℕ → ℕ → Tree
    Truth : ℕ → Bool → Tree
    This : ℕ → Tree
    Paren : ℕ → Tree → Tree
    Minus : ℕ → Tree → Tree
    Not : ℕ → Tree → Tree
    Pair : ℕ → Op → Tree → Tree → Tree
    Local : ℕ → ℕ → Tree
    Own : ℕ → ℕ → Resolved → Tree
    Root : ℕ → ℕ → Resolved → Tree
    Value : ℕ → ℕ → ℕ → Tree
    Class : ℕ → ℕ → Tree
    Dot : ℕ → Tree → ℕ → Resolved → Tree
    Quant : ℕ → QuantKind → Tree → Filter → Bodies → Tree
    Missing : ℕ → Tree

  pub data Filter : Type 0 where
    NoFilter : Filter
    Where : Tree → Filter

  pub data Bodies : Type 0 where
    NoBody : Bodies
    Body : Tree → Bodies → Bodies

-- the trees of a filter and of bodies
