-- What the quick test of a conditional finds. What a reader believes after this file: which of its
-- clauses a conditional has to state in the boxes, where its variables are different.
use Rattle.std.specs.Prelude.{◌≡◌, ℕ, true, false, [], ◌∷◌, pos, ◌⊎◌}
use Rattle.signed_clause.specs.Ranges.{Ranges, has}
use Rattle.signed_clause.specs.SetAlgebra.{is_disjoint, is_within, less}
use Rattle.signed_clause.specs.Clauses.{Boxes, Literals, box_of}
use Rattle.element_prop.specs.Within.{HasToLie}
use Rattle.element_prop.specs.declared.conditional.Finding.{Finding}
use Rattle.element_prop.specs.declared.conditional.Finding.TheVariants.{Quiet, OutWithin, ItemWithin, Zero, Either}

-- where the flag can be 1, a value is common; where it has to, the boxes are the same; where it can
-- be 0, out can; where it has to, out is; and else out's values are 0 or of the item
pub record IsCalm (out flags item : Ranges) : Type 0 where
  pub common : has flags (pos 1) ≡ true → is_disjoint out item ≡ false
  pub out_within : has flags (pos 0) ≡ false → is_within out item ≡ true
  pub item_within : has flags (pos 0) ≡ false → is_within item out ≡ true
  pub can_be_zero : has flags (pos 0) ≡ true → has out (pos 0) ≡ true
  pub is_zero : has flags (pos 1) ≡ false → is_within out ((pos 0, pos 0) ∷ []) ≡ true
  pub either : has flags (pos 1) ≡ true → is_within (less out ((pos 0, pos 0) ∷ [])) item ≡ true

-- the flag can be 0 though out can't, or has to be 0 though out can be something else
abbrev pub HasToBeZero : Ranges → Ranges → Type 0
HasToBeZero out flags =
    ((has flags (pos 0) ≡ true) × (has out (pos 0) ≡ false)) ⊎ ((has flags (pos 1) ≡ false)
    × (is_within out ((pos 0, pos 0) ∷ []) ≡ false))

-- what the clause leaves that says that out is 0 or has a value that the item's box has, or that
-- the item is outside its box
abbrev pub either_plan : Boxes → Boxes → ℕ → ℕ → Literals
either_plan domains boxes o i =
    (o, less (less (box_of domains o) ((pos 0, pos 0) ∷ [])) (box_of boxes i)) ∷ (i, box_of boxes i)
    ∷ []

-- what a finding says
abbrev pub Says : Ranges → Ranges → Ranges → Finding → Type 0
Says out flags item Quiet = IsCalm out flags item
Says out flags item OutWithin = HasToLie flags out item
Says out flags item ItemWithin = HasToLie flags item out
Says out flags item Zero = HasToBeZero out flags
Says out flags item Either = is_within (less out ((pos 0, pos 0) ∷ [])) item ≡ false
