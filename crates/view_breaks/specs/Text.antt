-- The text that tells what is broken. What a reader believes after this file: a line for each break,
-- as `verify` tells it, with the number of the model's line and what stands there; then how many
-- there are.
use Rattle.std.specs.Prelude.{ℕ, List, [], ◌∷◌, ◌++◌, Option, None, Some, codes, decimal, length}
use Rattle.std.specs.List.{flat_map}
use Rattle.class_table.specs.Outline.{Outline}
use Rattle.object_alloc.specs.Paths.{path}
use Rattle.run_status.specs.Status.{broken_text}
use Rattle.view_breaks.specs.Lines.{line_number, source_text}
use Rattle.view_breaks.specs.declared.breaks.Break.{Break}

-- the path of the object for which a constraint is stated; empty at the top level
abbrev pub stated_path : Outline → Option ℕ → List ℕ
stated_path o None = []
stated_path o (Some n) = path o n

-- where it stands in the model's text
abbrev pub where_text : List ℕ → ℕ → List ℕ
where_text text place =
    codes ", line " ++ (decimal (line_number text place) ++ (codes ": " ++ source_text text place))

-- `broken at PLACE for PATH`, which is the line of `verify`, and then the model's
abbrev pub break_line : List ℕ → Outline → Break → List ℕ
break_line text o b =
    broken_text (Some b.place) (stated_path o b.object) ++ (where_text text b.place ++ 10 ∷ [])

abbrev pub count_line : ℕ → List ℕ
count_line n = decimal n ++ codes " broken\n"

abbrev pub breaks_text : List ℕ → Outline → List Break → List ℕ
breaks_text text o bs = flat_map (break_line text o) bs ++ count_line (length bs)
