-- Which ranges a list of them holds, wherever it stands.
use Rattle.std.specs.Prelude.{[]}
use Rattle.std.specs.Rc.{rc_slice_items}
use Rattle.signed_clause.specs.Ranges.{Ranges}
use Rattle.signed_clause.specs.declared.stored.Place.{Place}
use Rattle.signed_clause.specs.declared.stored.Place.TheVariants.{Nowhere, Here, Shared}

-- the ranges in their order
abbrev pub stored : Place → Ranges
stored Nowhere = []
stored (Here range) = range
stored (Shared ranges) = rc_slice_items ranges
