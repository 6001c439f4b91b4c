-- What the quick test of an equality finds. What a reader believes after this file: which of its
-- clauses an equality has to state in the boxes, where its variables are different.
use Rattle.std.specs.Prelude.{◌≡◌, ℕ, true, false, [], ◌∷◌, ℤ, pos, ◌⊎◌}
use Rattle.signed_clause.specs.Ranges.{Ranges, has}
use Rattle.signed_clause.specs.SetAlgebra.{is_disjoint, is_within}
use Rattle.signed_clause.specs.Clauses.{Literals}
use Rattle.box_rules.specs.Refuted.{fixed_at, same_single}
use Rattle.element_prop.specs.Within.{HasToLie}
use Rattle.element_prop.specs.declared.equality.Finding.{Finding}
use Rattle.element_prop.specs.declared.equality.Finding.TheVariants.{Quiet, LeftWithin, RightWithin, Same}

-- where the flag can be 1, a value is common; where it has to, the boxes are the same; where it can
-- be 0, they aren't the same single value; and where it has to, neither is a single value that the
-- other has
pub record IsCalm (flags left right : Ranges) : Type 0 where
  pub common : has flags (pos 1) ≡ true → is_disjoint left right ≡ false
  pub left_within : has flags (pos 0) ≡ false → is_within left right ≡ true
  pub right_within : has flags (pos 0) ≡ false → is_within right left ≡ true
  pub differ : has flags (pos 0) ≡ true → same_single left right ≡ false
  pub left_value : has flags (pos 1) ≡ false → (v : ℤ) → fixed_at left v ≡ true → has right v
      ≡ false
  pub right_value : has flags (pos 1) ≡ false → (v : ℤ) → fixed_at right v ≡ true → has left v
      ≡ false

-- both are the value though the flag can be 0, or one is and the other has it though the flag has
-- to be 0
abbrev pub AreBothAt : Ranges → Ranges → Ranges → ℤ → Type 0
AreBothAt flags left right v =
    ((has flags (pos 0) ≡ true) × (fixed_at left v ≡ true) × (fixed_at right v ≡ true))
    ⊎ ((has flags (pos 1) ≡ false) × (((fixed_at left v ≡ true) × (has right v ≡ true))
    ⊎ ((fixed_at right v ≡ true) × (has left v ≡ true))))

-- what the clause leaves that says that the flag is 1 or one of both isn't the value
abbrev pub same_plan : ℕ → ℕ → ℕ → ℤ → Literals
same_plan f l r v = (f, (pos 0, pos 0) ∷ []) ∷ (l, (v, v) ∷ []) ∷ (r, (v, v) ∷ []) ∷ []

-- what a finding says
abbrev pub Says : Ranges → Ranges → Ranges → Finding → Type 0
Says flags left right Quiet = IsCalm flags left right
Says flags left right LeftWithin = HasToLie flags left right
Says flags left right RightWithin = HasToLie flags right left
Says flags left right (Same at) = AreBothAt flags left right at.value
