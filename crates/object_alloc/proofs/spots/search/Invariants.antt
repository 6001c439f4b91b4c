use Rattle.std.proofs.Common.{◌<◌, ℕ}
use Rattle.std.specs.Prelude.{slice_index_or}
use Rattle.object_alloc.specs.declared.object.Object.{Object}
use Rattle.object_alloc.specs.Parts.{IsPart}
use Rattle.object_alloc.proofs.spots.search.Given as goal

-- none of those before is it
abbrev pub invariant-loop-n : goal.invariant-loop-n
invariant-loop-n l = (m : ℕ) → m < l.n → (d : Object) → IsPart l.spot.owner l.spot.attribute l.spot.element (slice_index_or l.objects m d) → ⊥
