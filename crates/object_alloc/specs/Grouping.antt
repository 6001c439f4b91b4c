-- Lists of numbers that are kept by place.
use Rattle.std.specs.Prelude.{ℕ, cond, List, [], ◌∷◌, Option}
use Rattle.std.specs.declared.vec.Vec.{Vec}
use Rattle.object_alloc.specs.declared.groups.Place.{Place}
use Rattle.object_alloc.specs.Groups.{is_at_place}

-- the list that stands at a place; none is empty
abbrev pub group : {A : Type 0} → List (Place × Vec ℕ A) → Option ℕ → ℕ → List ℕ
group [] owner k = []
group (e ∷ es) owner k =
    cond (is_at_place owner k e.0.owner e.0.attribute) e.1.items (group es owner k)
