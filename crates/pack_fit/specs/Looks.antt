-- What a look at items to be packed shows.
use Rattle.std.specs.Prelude.{ℕ, ◌≡◌, ◌≤ℤ◌, ◌<ℤ◌, true, false, List, ℤ, pos, ◌+ℤ◌}
use Rattle.signed_clause.specs.Clauses.{Boxes}
use Rattle.pack_fit.specs.declared.room.Look.{Look}
use Rattle.pack_fit.specs.declared.room.Look.TheVariants.{WithSlack, Unplaceable, Undecided}
use Rattle.pack_fit.specs.declared.room.Walk.{Walk}
use Rattle.pack_fit.specs.declared.room.Walk.TheVariants as walk
use Rattle.box_rules.specs.Named.{IsItemNamed}
use Rattle.box_rules.specs.Refuted.{fixed_load}
use Rattle.pack_fit.specs.Packing.{tight_room, fits, all_fit, seconds_from, AllFit, HasEnough}

-- the item doesn't fit at v
pub record IsUnplaceable (v : ℤ) (i : ℕ × ℕ × ℕ) (items : List (ℕ × ℕ × ℕ)) (boxes : Boxes) : Type 0 where
  pub named : IsItemNamed i boxes
  pub short : fits v (fixed_load v items boxes) (tight_room v items boxes) i boxes ≡ false

abbrev pub IsSeen : Look → List (ℕ × ℕ × ℕ) → Boxes → Type 0
IsSeen WithSlack items boxes = AllFit items boxes × HasEnough items boxes
IsSeen (Unplaceable at item) items boxes = IsUnplaceable at.value item items boxes
IsSeen Undecided items boxes = AllFit items boxes

-- all items fit at each of the n values from first on, and the second greatest rooms of these add
-- up to the sum at least
pub record AreRooms (sum : ℤ) (n : ℕ) (first : ℤ) (items : List (ℕ × ℕ × ℕ)) (boxes : Boxes) : Type 0 where
  pub fit : (v : ℤ) → first ≤ℤ v → v <ℤ (first +ℤ pos n) → all_fit v items items boxes ≡ true
  pub room : sum ≤ℤ seconds_from n first items boxes

-- what a walk over these values comes to
abbrev pub IsWalked : Walk → ℕ → ℤ → List (ℕ × ℕ × ℕ) → Boxes → Type 0
IsWalked (walk.Unplaceable at item) n first items boxes = IsUnplaceable at.value item items boxes
IsWalked (walk.Room sum) n first items boxes = AreRooms sum.value n first items boxes
