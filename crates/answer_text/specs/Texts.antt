-- The text of each answer. What a reader believes after this file: what is printed.
use Rattle.std.specs.Prelude.{◌++◌, ◌∷◌, [], List, Option, None, Some, codes, decimal, length, ℕ, ℤ}
use Rattle.std.specs.Fmt.{signed_decimal}
use Rattle.std.specs.List.{flat_map}
use Rattle.class_table.specs.Outline.{Outline}
use Rattle.command_limits.specs.Limits.{generated_budget}
use Rattle.conf_eval.specs.Satisfying.{objectives}
use Rattle.conf_types.specs.Programs.{ResolvedGoal}
use Rattle.config_json.specs.Tree.{config_bytes}
use Rattle.model_generator.specs.Generated.{generated}
use Rattle.model_search.specs.declared.finding.Finding.{Finding}
use Rattle.model_search.specs.declared.finding.Finding.TheVariants as findings
use Rattle.object_alloc.specs.Cells.{cells}
use Rattle.object_alloc.specs.Changes.{changes}
use Rattle.object_alloc.specs.Walk.{objects}
use Rattle.reconfigure.specs.declared.repair.Repair.{Repair}

-- one line for each objective
abbrev pub objective_line : ℤ → List ℕ
objective_line v = codes "objective " ++ (signed_decimal v ++ 10 ∷ [])

-- a number with its name
abbrev pub number_line : List ℕ → ℕ → List ℕ
number_line name n = name ++ (decimal n ++ 10 ∷ [])

-- of a repair, how many former values a configuration changes
abbrev pub change_lines : Outline → Option Repair → List ℤ → List ℕ
change_lines o None t = []
change_lines o (Some r) t = number_line (codes "changes ") (changes o r.former t)

-- the configuration's line, and then its changes and its objectives
abbrev pub best_text : Outline → List ResolvedGoal → Option Repair → List ℤ → List ℕ
best_text o gs r t =
    config_bytes o t ++ 10 ∷ (change_lines o r t ++ flat_map objective_line (objectives o gs t))

abbrev pub none_text : List ℕ
none_text = codes "none exists\n"

abbrev pub undecided_line : ℕ → List ℕ
undecided_line decisions = codes "undecided after " ++ (decimal decisions ++ codes " decisions\n")

-- `solve` and `reconfigure`: where it is undecided, the configuration found last comes first
abbrev pub solve_text : Outline → List ResolvedGoal → Option Repair → ℕ → Finding → List ℕ
solve_text o gs r budget (findings.Best t) = best_text o gs r t
solve_text o gs r budget findings.NoneExists = none_text
solve_text o gs r budget (findings.Open None) = undecided_line budget
solve_text o gs r budget (findings.Open (Some t)) = best_text o gs r t ++ undecided_line budget

-- `check`
abbrev pub check_text : Outline → List ResolvedGoal → Option Repair → Finding → List ℕ
check_text o gs r (findings.Best t) = best_text o gs r t
check_text o gs r findings.NoneExists = none_text
check_text o gs r (findings.Open last) = codes "open\n"

-- the length of a model's text, its objects and its cells
abbrev pub number_lines : Outline → ℕ → List ℕ
number_lines o bytes =
    number_line (codes "bytes ") bytes
    ++ (number_line (codes "objects ") (length (objects o))
    ++ number_line (codes "cells ") (length (cells o)))

-- `gen`: what stands behind the numbers
abbrev pub shown_text : Outline → List ResolvedGoal → Finding → List ℕ
shown_text o gs (findings.Best t) = flat_map objective_line (objectives o gs t)
shown_text o gs findings.NoneExists = none_text
shown_text o gs (findings.Open last) = undecided_line generated_budget

abbrev pub gen_text : Outline → List ResolvedGoal → ℕ → Finding → List ℕ
gen_text o gs n told = number_lines o (length (generated n)) ++ shown_text o gs told

-- `verify`
abbrev pub satisfied_text : Outline → List ResolvedGoal → List ℤ → List ℕ
satisfied_text o gs t = codes "satisfied\n" ++ flat_map objective_line (objectives o gs t)
