-- What the quick tests find. What a reader believes after this file: which of its clauses a
-- constraint has to state in the boxes, where its flag is another variable than the rest.
use Rattle.std.specs.Prelude.{◌≡◌, ℕ, ◌<◌, Bool, true, false, not, ◌&&◌, ◌||◌, cond, List, [], ◌∷◌, pos, Option, Some, None, length, slice_index_or, ◌==◌, ◌⊎◌}
use Rattle.std.specs.List.{All}
use Rattle.signed_clause.specs.Ranges.{Ranges, has, is_nil, IsValid}
use Rattle.signed_clause.specs.SetAlgebra.{is_disjoint, is_within}
use Rattle.signed_clause.specs.Clauses.{Boxes, Literals, box_of}
use Rattle.ground_form.specs.declared.con.Con.TheVariants.{AndDef}
use Rattle.ground_form.specs.Meaning.{bit, part_vars}
use Rattle.rule_law.specs.Plans.{IsFlag}
use Rattle.box_rules.specs.Refuted.{fixed_at, barred, all_fixed}
use Rattle.box_rules.specs.Quiet.{quiet}
use Rattle.bool_prop.specs.declared.conjunction.Finding.{Finding}
use Rattle.bool_prop.specs.declared.conjunction.Finding.TheVariants.{Quiet, Part, Whole, Unclear}

-- of a membership: that the flag is 0 or the value in the set (true), or that it is 1 or the value
-- outside (false); None where neither says anything in the boxes
abbrev pub member_finding : Ranges → Ranges → Ranges → Option Bool
member_finding flags box set =
    cond (has flags (pos 1) && (is_disjoint box set
    || (not (has flags (pos 0)) && not (is_within box set)))) (Some true)
    (cond (has flags (pos 0) && (is_within box set
    || (not (has flags (pos 1)) && not (is_disjoint box set)))) (Some false) None)

-- ---- conjunctions

-- the flag and the parts have boxes, and none is empty
pub record IsScene (flag : ℕ) (parts : List (ℕ × Bool)) (boxes : Boxes) : Type 0 where
  pub flag_named : flag < length boxes
  pub parts_named : All (λ p. p.0 < length boxes) parts
  pub named : All (λ x. x < length boxes) (flag ∷ part_vars parts)
  pub sets : All (λ s. IsValid s) boxes
  pub some : (x : ℕ) → x < length boxes → is_nil (box_of boxes x) ≡ false
  pub bits : IsFlag (box_of boxes flag)

-- the part is fixed at what it wants
abbrev pub part_fixed : Boxes → ℕ × Bool → Bool
part_fixed boxes p = fixed_at (box_of boxes p.0) (bit p.1)

-- the parts from the first on that isn't
abbrev pub open_rest : List (ℕ × Bool) → Boxes → List (ℕ × Bool)
open_rest [] boxes = []
open_rest (p ∷ ps) boxes = cond (part_fixed boxes p) (open_rest ps boxes) (p ∷ ps)

-- all parts but one are fixed, and that one isn't barred
abbrev pub one_open : List (ℕ × Bool) → Boxes → Bool
one_open [] boxes = false
one_open (p ∷ ps) boxes =
    cond (part_fixed boxes p) (one_open ps boxes) (not (barred boxes p.0 p.1) && all_fixed ps boxes)

-- of each part what it wants
abbrev pub whole_plan : List (ℕ × Bool) → Literals
whole_plan [] = []
whole_plan (p ∷ ps) = (p.0, (bit p.1, bit p.1) ∷ []) ∷ whole_plan ps

-- the flag is another variable, and can be 1 though the part is barred, or has to be 1 though the
-- part isn't fixed
pub record IsPartOpen (flag : ℕ) (p : ℕ × Bool) (boxes : Boxes) : Type 0 where
  pub differ : (p.0 == flag) ≡ false
  pub acts : ((barred boxes flag true ≡ false) × (barred boxes p.0 p.1 ≡ true))
      ⊎ ((barred boxes flag false ≡ true) × (part_fixed boxes p ≡ false))

-- the flag can be 0 though all parts are fixed, or has to be 0 though all parts but one are fixed,
-- or all
abbrev pub IsWholeOpen : ℕ → List (ℕ × Bool) → Boxes → Type 0
IsWholeOpen flag parts boxes =
    ((barred boxes flag false ≡ false) × (all_fixed parts boxes ≡ true))
    ⊎ ((barred boxes flag true ≡ true) × (one_open parts boxes ≡ true))

-- what a finding says
abbrev pub Says : ℕ → List (ℕ × Bool) → Boxes → Finding → Type 0
Says flag parts boxes Quiet = quiet (AndDef flag parts) boxes ≡ true
Says flag parts boxes (Part i) =
    (i < length parts) × ((d : ℕ × Bool) → IsPartOpen flag (slice_index_or parts i d) boxes)
Says flag parts boxes Whole = IsWholeOpen flag parts boxes
Says flag parts boxes Unclear = Unit {0}
