-- The objects that an object or the top level holds, by their numbers.
use Rattle.std.specs.Prelude.{ℕ, ◌<◌, List, [], ◌∷◌, Option, length}
use Rattle.class_table.specs.Outline.{Outline}
use Rattle.object_alloc.specs.Held.{IsBefore}
use Rattle.object_alloc.specs.Walk.{objects}

-- each is an object, with a number above its owner's
abbrev pub AreContained : Outline → Option ℕ → List ℕ → Type 0
AreContained o owner [] = Unit {0}
AreContained o owner (n ∷ ns) =
    (IsBefore owner n × (n < length (objects o))) × AreContained o owner ns
