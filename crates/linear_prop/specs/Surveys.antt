-- What a walk over a row's terms finds.
use Rattle.std.specs.Prelude.{◌≡◌, ℕ, ◌<◌, List, ℤ, pos, ◌<ℤ◌, slice_index_or, length}
use Rattle.signed_clause.specs.Clauses.{Boxes}
use Rattle.linear_prop.specs.Rows.{spread_of}

-- where some term rises, the one at the index rises so far
abbrev pub IsWidest : List (ℤ × ℕ) → Boxes → ℕ → ℤ → Type 0
IsWidest ts boxes index spread =
    pos 0 <ℤ spread → (index < length ts) × (spread_of (slice_index_or ts index (pos 0, 0)) boxes
    ≡ spread)
