-- Solutions and goals. What a reader believes after this file: which values solve a ground problem,
-- which of two solutions is better, and how many points a search could have to look at.
use Rattle.std.specs.Prelude.{◌≡◌, ℕ, suc, zero, ◌<◌, ◌*◌, Bool, true, false, cond, List, [], ◌∷◌, ℤ, length, int_lt}
use Rattle.std.specs.List.{All}
use Rattle.std.specs.Ordering.{int_eq}
use Rattle.signed_clause.specs.Ranges.{has, count_of}
use Rattle.signed_clause.specs.Clauses.{Boxes, box_of}
use Rattle.ground_form.specs.declared.ground.Ground.{Ground}
use Rattle.ground_form.specs.declared.ground.GroundGoal.{GroundGoal}
use Rattle.ground_form.specs.Meaning.{value_of, con_true}

-- there is one value for each box, and it lies in it
pub record IsPoint (boxes : Boxes) (a : List ℤ) : Type 0 where
  pub size : length a ≡ length boxes
  pub within : (x : ℕ) → x < length boxes → has (box_of boxes x) (value_of a x) ≡ true

-- one value of each variable's domain, under which every constraint is true
pub record IsSolution (g : Ground) (a : List ℤ) : Type 0 where
  pub point : IsPoint g.domains a
  pub truths : All (λ con. con_true con a ≡ true) g.cons

-- a is better than b: at the first goal where they differ, its value is greater where that is the
-- direction, else smaller
abbrev pub better : List GroundGoal → List ℤ → List ℤ → Bool
better [] a b = false
better (goal ∷ goals) a b =
    cond (int_eq (value_of a goal.var) (value_of b goal.var)) (better goals a b)
    (cond goal.max (int_lt (value_of b goal.var) (value_of a goal.var))
    (int_lt (value_of a goal.var) (value_of b goal.var)))

-- how many points the boxes of the first n variables have
abbrev pub volume : ℕ → Boxes → ℕ
volume zero boxes = 1
volume (suc n) [] = 1
volume (suc n) (box ∷ boxes) = count_of box * volume n boxes

-- how many points the searched variables have
abbrev pub size_of : Ground → ℕ
size_of g = volume g.search g.domains
