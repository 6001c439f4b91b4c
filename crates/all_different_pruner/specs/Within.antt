-- The boxes that a reason takes of an interval.
use Rattle.std.specs.Prelude.{ℕ, zero, suc, cond, List, [], ◌∷◌, ℤ}
use Rattle.signed_clause.specs.Clauses.{Boxes, Literals, box_of}
use Rattle.box_rules.specs.Refuted.{lies_in}
use Rattle.rule_law.specs.Reasons.{kept}

-- the first n variables of the list whose boxes lie within a..b
abbrev pub within : ℕ → ℤ → ℤ → List ℕ → Boxes → List ℕ
within n a b [] boxes = []
within zero a b (x ∷ xs) boxes = []
within (suc n) a b (x ∷ xs) boxes =
    cond (lies_in a b (box_of boxes x)) (x ∷ within n a b xs boxes) (within (suc n) a b xs boxes)

-- that each of the variables is outside a..b
abbrev pub outside : ℤ → ℤ → List ℕ → Boxes → Literals
outside a b xs domains = kept domains (λ x. (a, b) ∷ []) xs
