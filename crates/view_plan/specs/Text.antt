-- The text of a plan: a line for each leaf that differs, and a last one with the count of changes.
use Rattle.std.specs.Prelude.{ℕ, Bool, false, ◌||◌, List, [], ◌∷◌, ◌++◌, codes, decimal}
use Rattle.std.specs.List.{count_by, flat_map, list_any}
use Rattle.view_leaves.specs.Spelling.{path_text, value_text, word_text, is_fraction}
use Rattle.view_plan.specs.Changes.{PlanChange, Added, Removed, Changed, Members, is_counted}
use Rattle.view_plan.specs.Plan.{PlanLine}
use Rattle.view_plan.specs.Words.{Words}

abbrev pub added_text : List ℕ → List ℕ
added_text w = codes " +" ++ word_text w

abbrev pub taken_text : List ℕ → List ℕ
taken_text w = codes " -" ++ word_text w

-- what stands behind the path
abbrev pub change_text : PlanChange → List ℕ
change_text (Added e) = codes ": added " ++ value_text e
change_text (Removed d) = codes ": removed " ++ value_text d
change_text (Changed d e) = codes ": " ++ value_text d ++ codes " -> " ++ value_text e
change_text (Members added taken both) =
    codes ":" ++ flat_map added_text added ++ flat_map taken_text taken

abbrev pub line_text : PlanLine → List ℕ
line_text l = path_text l.0 ++ change_text l.1 ++ codes "\n"

abbrev pub counts : PlanLine → Bool
counts l = is_counted l.1

abbrev pub plan_text : List PlanLine → List ℕ
plan_text lines =
    flat_map line_text lines ++ decimal (count_by counts lines) ++ codes " changes\n"

-- whether a value is shown whose digits aren't said
abbrev pub has_fraction : PlanChange → Bool
has_fraction (Added e) = is_fraction e
has_fraction (Removed d) = is_fraction d
has_fraction (Changed d e) = is_fraction d || is_fraction e
has_fraction (Members added taken both) = false

abbrev pub shows_fraction : PlanLine → Bool
shows_fraction l = has_fraction l.1
