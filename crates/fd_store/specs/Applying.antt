-- What a clause does in a level.
use Rattle.std.specs.Prelude.{ℕ, cond, Option, Some, None}
use Rattle.signed_clause.specs.Ranges.{Ranges}
use Rattle.signed_clause.specs.Clauses.{Boxes, Literals, false_in, unit_of}
use Rattle.fd_store.specs.declared.store.Applied.{Applied}
use Rattle.fd_store.specs.declared.store.Applied.TheVariants.{Pruned, Conflict, Nothing}

-- it prunes where it is unit
abbrev pub applied_by : Option (ℕ × Ranges) → Applied
applied_by None = Nothing
applied_by (Some u) = Pruned u.0

-- it shows a conflict where it is false
abbrev pub applied : Boxes → Literals → Applied
applied boxes c = cond (false_in boxes c) Conflict (applied_by (unit_of boxes c))
