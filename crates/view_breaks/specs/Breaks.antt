-- What a configuration breaks of a model. What a reader believes after this file: each constraint is
-- asked for each object for which it is stated, in order, and those that fail are listed.
use Rattle.std.specs.Prelude.{ℕ, ◌+◌, ◌<◌, Bool, not, List, [], ◌∷◌, ◌++◌, Option, Some, ℤ, All, IfSome, drop, filter, length, map}
use Rattle.class_table.specs.Outline.{Outline}
use Rattle.conf_eval.specs.Finding.{holds_for}
use Rattle.conf_eval.specs.Satisfying.{stated_for}
use Rattle.conf_types.specs.Programs.{ResolvedConstraint}
use Rattle.object_alloc.specs.Cells.{extent_from}
use Rattle.object_alloc.specs.Walk.{objects}
use Rattle.view_breaks.specs.declared.breaks.Break.{Break}

-- a constraint doesn't hold for an object
abbrev pub fails : Outline → List ℤ → ResolvedConstraint → Option ℕ → Bool
fails o values k object = not (holds_for o values k object)

-- that constraint n is broken for an object
abbrev pub break_of : ℕ → ResolvedConstraint → Option ℕ → Break
break_of n k object = record { constraint = n; place = k.place; object = object }

-- those of these objects for which constraint n fails
abbrev pub breaks_among : Outline → List ℤ → ℕ → ResolvedConstraint → List (Option ℕ) → List Break
breaks_among o values n k these = map (break_of n k) (filter (fails o values k) these)

-- those of each of these constraints, of which the first has number n
abbrev pub breaks_from : Outline → List ℤ → ℕ → List ResolvedConstraint → List Break
breaks_from o values n [] = []
breaks_from o values n (k ∷ ks) =
    breaks_among o values n k (stated_for o k.class) ++ breaks_from o values (n + 1) ks

-- all that a configuration breaks
abbrev pub breaks : Outline → List ℤ → List ResolvedConstraint → List Break
breaks o values ks = breaks_from o values 0 ks

-- the object of each break is one of the model's
abbrev pub IsThere : Outline → Option ℕ → Type 0
IsThere o object = IfSome object (λ n. n < length (objects o))

abbrev pub AreThere : Outline → List Break → Type 0
AreThere o bs = All (λ (b : Break). IsThere o b.object) bs

-- the objects of a class from a number on
abbrev pub members_from : Outline → ℕ → ℕ → List (Option ℕ)
members_from o c n = map Some (extent_from o.classes c n (drop n (objects o)))
