-- Packings with constant sizes and one room. What a reader believes after this file: where a
-- packing holds, no bin has more than the room.
use Rattle.std.specs.Prelude.{◌≡◌, ℕ, ◌^◌, ◌+◌, ◌<◌, ◌≤◌, true, Bool, cond, List, [], ◌∷◌, ℤ, length}
use Rattle.std.specs.List.{All}
use Rattle.std.specs.Ordering.{int_eq}
use Rattle.signed_clause.specs.Ranges.{Ranges, has}
use Rattle.signed_clause.specs.Clauses.{Boxes, box_of}
use Rattle.ground_form.specs.declared.ground.Ground.{Ground}
use Rattle.ground_form.specs.Meaning.{value_of}
use Rattle.form_build.specs.Worlds.{IsWorld, AllHold}
use Rattle.stated_facts.specs.Constants.{IsConstant}
use Rattle.packing_sums.specs.declared.packing.Packing.{Packing}
use Rattle.packing_sums.specs.Loads.{sizes_where, size_of}

-- the item has this bin, this constant size and this constant room
pub record IsItemOf (boxes : Boxes) (room : ℕ) (i : ℕ × ℕ × ℕ) (s : ℕ × ℕ) : Type 0 where
  pub bin : s.0 ≡ i.0
  pub exists : i.0 < length boxes
  pub size : IsConstant boxes i.1 s.1
  pub fits : IsConstant boxes i.2 room

-- the items have these bins and sizes, in order, and all have this room
abbrev pub AreItemsOf : Boxes → ℕ → List (ℕ × ℕ × ℕ) → List (ℕ × ℕ) → Type 0
AreItemsOf boxes room [] [] = Unit {0}
AreItemsOf boxes room [] (s ∷ ss) = ⊥
AreItemsOf boxes room (i ∷ is) [] = ⊥
AreItemsOf boxes room (i ∷ is) (s ∷ ss) = IsItemOf boxes room i s × AreItemsOf boxes room is ss

-- the values that the item's bin may have are among these
abbrev pub IsUsed : Boxes → Ranges → ℕ × ℕ → Type 0
IsUsed boxes used s = (v : ℤ) → has (box_of boxes s.0) v ≡ true → has used v ≡ true

-- where all constraints hold no bin has more than the room
abbrev pub AreFitting : Ground → ℕ → List (ℕ × ℕ) → Type 0
AreFitting g room ss =
    (a : List ℤ) → IsWorld g a → AllHold g a → (v : ℤ) → sizes_where (λ w. int_eq w v) ss a ≤ room

-- the packing's bins exist, its sizes are small, and where all constraints hold no bin has more
-- than its room
pub record IsPacking (g : Ground) (p : Packing) : Type 0 where
  pub exist : All (λ s. s.0 < length g.domains) p.items.items
  pub whole : p.whole ≡ size_of p.items.items
  pub light : p.whole ≤ 2 ^ 38
  pub used : All (IsUsed g.domains p.used) p.items.items
  pub fits : AreFitting g p.room p.items.items

-- some of the items: they exist where all do, and no test finds more of them
pub record AreSome (all some : List (ℕ × ℕ)) : Type 0 where
  pub exist : (n : ℕ) → All (λ s. s.0 < n) all → All (λ s. s.0 < n) some
  pub fewer : (test : ℤ → Bool) (a : List ℤ) → sizes_where test some a ≤ sizes_where test all a

-- the new items are the old ones, and maybe the item
pub record MayHave (old : List (ℕ × ℕ)) (s : ℕ × ℕ) (new : List (ℕ × ℕ)) : Type 0 where
  pub exist : (n : ℕ) → All (λ t. t.0 < n) old → s.0 < n → All (λ t. t.0 < n) new
  pub fewer : (test : ℤ → Bool) (a : List ℤ) →
      sizes_where test new a ≤ sizes_where test old a + cond (test (value_of a s.0)) s.1 0
