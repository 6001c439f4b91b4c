-- Which class derives from which, and which attributes a class has: its parent's and then its own.
-- A class is a number, `up` gives its parent, and `own` its own attributes. There are n classes, so
-- an ancestor is at most n steps away.
use Rattle.std.specs.Prelude.{ℕ, zero, suc, cond, List, [], ◌++◌, Option}
use Rattle.std.specs.Option.{option_map_or}
pub use Rattle.graph_walk.specs.Ancestors.{derives, derives_from_itself}

-- the attributes of c that come from at most k ancestors: the parent's and then its own, its own
-- alone where c derives from itself
abbrev pub attributes_within : {X : Type 0} → (ℕ → Option ℕ) → (ℕ → List X) → ℕ → ℕ → ℕ → List X
attributes_within up own n zero c = own c
attributes_within up own n (suc k) c =
    cond (derives_from_itself up n c) [] (option_map_or (attributes_within up own n k) (up c) [])
    ++ own c
