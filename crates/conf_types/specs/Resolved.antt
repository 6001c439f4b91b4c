-- Constraints and objectives with each name resolved. What a reader believes after this file: what
-- is seen of a constraint and of an objective of a typed model, which is all but their pointers.
use Rattle.std.specs.Prelude.{ℕ, Bool, Option}
use Rattle.conf_types.specs.Trees.{Tree}

-- the class for whose objects it is stated, or none at the top level; the place of its first token
pub record ResolvedConstraint : Type 0 where
  pub class : Option ℕ
  pub place : ℕ
  pub tree : Tree

pub record ResolvedGoal : Type 0 where
  pub max : Bool
  pub tree : Tree
