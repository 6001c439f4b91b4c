-- When a constraint has nothing to say in boxes. What a reader believes after this file: a quiet
-- constraint is not refuted, and would not be by a value that one of its boxes might be narrowed
-- to: every value of a small box, the ends of a large one.
use Rattle.std.specs.Prelude.{◌≡◌, ℕ, zero, suc, Bool, true, not, ◌&&◌, cond, List, [], ◌∷◌, ◌++◌, ℤ, pos, ◌+ℤ◌, nat_le}
use Rattle.signed_clause.specs.Ranges.{Ranges, has, count_of}
use Rattle.signed_clause.specs.Clauses.{Boxes, box_of}
use Rattle.ground_form.specs.declared.con.Con.{Con}
use Rattle.ground_form.specs.Meaning.{vars_of}
use Rattle.ground_form.specs.Bounds.{low_of, high_of}
use Rattle.box_view.specs.Views.{fixing}
use Rattle.box_rules.specs.Refuted.{width, refuted}

-- n values from v on
abbrev pub values_from : ℕ → ℤ → List ℤ
values_from zero v = []
values_from (suc n) v = v ∷ values_from n (v +ℤ pos 1)

-- the values of a set, ascending
abbrev pub values_of : Ranges → List ℤ
values_of [] = []
values_of (r ∷ rs) = values_from (width r.0 r.1) r.0 ++ values_of rs

-- the values that are probed: all where there are at most 64, else the least and the greatest
abbrev pub probed : Ranges → List ℤ
probed s = cond (nat_le (count_of s) 64) (values_of s) (low_of s ∷ high_of s ∷ [])

-- no value of the list, alone in the box of x, refutes the constraint
abbrev pub none_refutes : Con → Boxes → ℕ → List ℤ → Bool
none_refutes con boxes x [] = true
none_refutes con boxes x (v ∷ vs) =
    not (refuted con (fixing boxes x v)) && none_refutes con boxes x vs

-- no probed value of a variable of the list does
abbrev pub quiet_at : Con → Boxes → List ℕ → Bool
quiet_at con boxes [] = true
quiet_at con boxes (x ∷ xs) =
    none_refutes con boxes x (probed (box_of boxes x)) && quiet_at con boxes xs

-- the constraint has nothing to say
unfoldable pub quiet : Con → Boxes → Bool
quiet con boxes = not (refuted con boxes) && quiet_at con boxes (vars_of con)

-- the value of the box of x refutes the constraint when it stands alone there
pub record IsCulprit (con : Con) (boxes : Boxes) (x : ℕ) (v : ℤ) : Type 0 where
  pub member : has (box_of boxes x) v ≡ true
  pub refutes : refuted con (fixing boxes x v) ≡ true
