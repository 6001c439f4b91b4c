-- Lists by their slots. What a reader believes after this file: which objects may be members of a
-- list, and what is asked of a list so that each has a truth.
use Rattle.std.specs.Prelude.{◌≡◌, ℕ, ◌<◌, true, List, ℤ, length, map, nat_eq}
use Rattle.std.specs.List.{All}
use Rattle.std.specs.Map.{lookup}
use Rattle.std.specs.Option.{unwrap_or}
use Rattle.signed_clause.specs.Clauses.{Boxes}
use Rattle.form_build.specs.Forms.{HasVariable}
use Rattle.expr_forms.specs.declared.form.Member.{Member}
use Rattle.expr_forms.specs.declared.form.Slot.{Slot}
use Rattle.expr_forms.specs.declared.form.Listing.{Listing}
use Rattle.expr_forms.specs.declared.form.Listing.TheVariants as listing
use Rattle.expr_forms.specs.FormBounds.{has_cell, IsMap}

-- the objects that may be members, in order
abbrev pub slot_objects : Listing → List ℕ
slot_objects (listing.All xs) = xs.items
slot_objects (listing.Some ms) = map (λ (m : Member). m.object) ms.items
slot_objects (listing.Owned x pairs ss) = map (λ (s : Slot). s.object) ss.items

-- the owners' cells exist, and each owner that the map may give for the value of x has one
pub record IsOwnedSlot (boxes : Boxes) (x : ℕ) (pairs : List (ℤ × ℕ)) (s : Slot) : Type 0 where
  pub exist : All (λ p. p.1 < length boxes) s.cells.items
  pub owners : IsMap boxes (λ n. has_cell n s.cells.items ≡ true) x pairs

-- the list's variables exist, and its owners have their cells
abbrev pub HasMembers : Boxes → Listing → Type 0
HasMembers boxes (listing.All xs) = Unit {0}
HasMembers boxes (listing.Some ms) = All (λ (m : Member). HasVariable (length boxes) m.is) ms.items
HasMembers boxes (listing.Owned x pairs ss) =
    (x < length boxes) × All (IsOwnedSlot boxes x pairs.items) ss.items

-- each value of a map with the first cell of the owner that it gives, 0 where there is none
abbrev pub cell_items : List (ℕ × ℕ) → List (ℤ × ℕ) → List (ℤ × ℕ)
cell_items cells pairs = map (λ (p : ℤ × ℕ). (p.0, unwrap_or (lookup (nat_eq p.1) cells) 0)) pairs

-- there are items, and all have this variable
pub record AreAll (x : ℕ) (items : List (ℤ × ℕ)) : Type 0 where
  pub some : 0 < length items
  pub all : All (λ t. t.1 ≡ x) items
