-- Bins that are in use or not. What a reader believes after this file: how much is at a bin at
-- most, by a flag that tells whether some item is there that may be elsewhere.
use Rattle.std.specs.Prelude.{◌≡◌, ℕ, ◌^◌, ◌<◌, ◌≤◌, Bool, false, cond, List, ℤ, pos, ◌+ℤ◌, ◌-ℤ◌, ◌*ℤ◌, ◌≤ℤ◌, length}
use Rattle.std.specs.List.{All}
use Rattle.std.specs.Ordering.{int_eq}
use Rattle.signed_clause.specs.Ranges.{has}
use Rattle.signed_clause.specs.Clauses.{Boxes, box_of}
use Rattle.ground_form.specs.declared.ground.Ground.{Ground}
use Rattle.ground_form.specs.Meaning.{value_of, bit}
use Rattle.ground_form.specs.Bounds.{reach_of}
use Rattle.form_build.specs.Forms.{linear_at}
use Rattle.form_build.specs.Sums.{IsLinear}
use Rattle.form_build.specs.Worlds.{IsInBoxes, IsWorld, AllHold}
use Rattle.packing_sums.specs.declared.away.Away.{Away}
use Rattle.packing_sums.specs.declared.hosts.Host.{Host}
use Rattle.packing_sums.specs.declared.packing.Packing.{Packing}
use Rattle.packing_sums.specs.declared.used.Taken.{Taken}
use Rattle.packing_sums.specs.Loads.{sizes_where, size_of}

-- none of the variables has the bin as value
abbrev pub NoneAt : ℕ → List ℕ → List ℤ → Type 0
NoneAt bin xs a = All (λ x. int_eq (value_of a x) (pos bin) ≡ false) xs

-- where the flag has this truth, none of the variables is at the bin
pub record AreAway (g : Ground) (flag : ℕ) (truth : Bool) (w : Away) : Type 0 where
  pub small : w.bin ≤ 2 ^ 38
  pub none : (a : List ℤ) → IsWorld g a → AllHold g a → value_of a flag ≡ bit truth →
      NoneAt w.bin w.vars.items a

-- where none of the variables is at the bin, the item adds at most so much there
abbrev pub StaysAt : Boxes → List ℕ → ℕ → ℕ × ℕ → ℕ → Type 0
StaysAt boxes xs bin s n =
    (a : List ℤ) → IsInBoxes boxes a → NoneAt bin xs a →
    cond (int_eq (value_of a s.0) (pos bin)) s.1 0 ≤ n

-- where none of the variables is at the bin, the items add at most so much there
abbrev pub StayAt : Boxes → List ℕ → ℕ → List (ℕ × ℕ) → ℕ → Type 0
StayAt boxes xs bin ss n =
    (a : List ℤ) → IsInBoxes boxes a → NoneAt bin xs a →
    sizes_where (λ w. int_eq w (pos bin)) ss a ≤ n

-- the value of a flag, or of one that is turned
abbrev pub use_of : Bool → ℤ → ℤ
use_of turned v = cond turned (pos 1 -ℤ v) v

-- at a bin of the packing stands at most what stays there, and more where the bin is in use, up to
-- the room
pub record IsHost (g : Ground) (p : Packing) (h : Host) : Type 0 where
  pub exists : h.flag < length g.domains
  pub near : reach_of (box_of g.domains h.flag) ≤ 1
  pub bin : h.bin ≤ 2 ^ 38
  pub stays : h.stays ≤ 2 ^ 38
  pub more : h.more ≤ 2 ^ 38
  pub fits : (a : List ℤ) → IsWorld g a → AllHold g a →
      pos (sizes_where (λ w. int_eq w (pos h.bin)) p.items.items a)
      ≤ℤ (pos h.stays +ℤ (pos h.more *ℤ use_of h.turned (value_of a h.flag)))

-- all sizes are at most the sum and what is at the bins that are left
pub record IsTaken (g : Ground) (p : Packing) (t : Taken) : Type 0 where
  pub linear : IsLinear (2 ^ 39) g.domains t.sum
  pub bound : (a : List ℤ) → IsWorld g a → AllHold g a → pos (size_of p.items.items)
      ≤ℤ (linear_at t.sum a +ℤ pos (sizes_where (has t.rest) p.items.items a))
