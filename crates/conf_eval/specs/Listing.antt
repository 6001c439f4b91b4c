-- Members of a list that is looked at and not made: slots, each of which holds a member or none.
use Rattle.std.specs.Prelude.{ℕ, suc, ◌+◌, cond, List, [], ◌∷◌, Option, None, Some, ℤ, length, map}
use Rattle.std.specs.List.{cons_option}
use Rattle.class_table.specs.declared.table.Class.{Class}
use Rattle.class_table.specs.Outline.{Outline, is_a}
use Rattle.object_alloc.specs.declared.object.Object.{Object}
use Rattle.object_alloc.specs.Cells.{cells}
use Rattle.object_alloc.specs.Walk.{objects}
use Rattle.object_alloc.specs.Members.{member_at}
use Rattle.conf_eval.specs.declared.members.Members.{Members}
use Rattle.conf_eval.specs.declared.members.Members.TheVariants.{Extent, Parts, Chosen, Nobody}

-- one slot for each object: its number, where it is of the extent of class c; the first has number
-- n
abbrev pub extent_slots : List Class → ℕ → ℕ → List Object → List (Option ℕ)
extent_slots cs c n [] = []
extent_slots cs c n (x ∷ xs) = cond (is_a cs x.class c) (Some n) None ∷ extent_slots cs c (n + 1) xs

abbrev pub slots : Outline → List ℤ → Members → List (Option ℕ)
slots o values (Extent c) = extent_slots o.classes c 0 (objects o)
slots o values (Parts xs) = map Some xs.now
slots o values (Chosen is) = map (member_at (cells o) values) is.now
slots o values Nobody = []

-- what the slots hold
abbrev pub held : List (Option ℕ) → List ℕ
held [] = []
held (s ∷ rest) = cons_option s (held rest)

abbrev pub members : Outline → List ℤ → Members → List ℕ
members o values m = held (slots o values m)
