-- The objects that a variable may choose. What a reader believes after this file: which objects of
-- a list a set has, each with the value that chooses it.
use Rattle.std.specs.Prelude.{ℕ, cond, List, [], ◌∷◌, ℤ, pos, Some}
use Rattle.class_table.specs.declared.table.Resolved.{Resolved}
use Rattle.class_table.specs.Outline.{Outline}
use Rattle.signed_clause.specs.Ranges.{Ranges, has}
use Rattle.conf_eval.specs.Fitting.{HasShape}

-- those of these objects whose number is in the set, each with its number
abbrev pub held : Ranges → List ℕ → List (ℤ × ℕ)
held set [] = []
held set (n ∷ ns) = cond (has set (pos n)) ((pos n, n) ∷ held set ns) (held set ns)

-- attribute k of the object has this shape
abbrev pub HaveShape : Outline → ℕ → Resolved → ℕ → Type 0
HaveShape o k s n = HasShape o (Some n) k s
