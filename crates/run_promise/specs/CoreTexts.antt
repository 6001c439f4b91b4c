-- The text that tells what to blame. What a reader believes after this file: what is printed, and
-- with which status.
use Rattle.std.specs.Prelude.{◌++◌, ◌∷◌, [], Bool, cond, List, codes, decimal, length, nat_eq, ℕ}
use Rattle.std.specs.List.{flat_map, list_any}
use Rattle.answer_text.specs.Texts.{number_line, undecided_line}
use Rattle.conf_core.specs.declared.answer.CoreAnswer.{CoreAnswer}
use Rattle.conf_core.specs.declared.answer.CoreAnswer.TheVariants as answers
use Rattle.conf_types.specs.Programs.{ResolvedConstraint, constraint_at}
use Rattle.run_status.specs.declared.status.Status.{Status}
use Rattle.run_status.specs.declared.status.Status.TheVariants as status

-- a constraint by its place, and that it wasn't decided whether it is needed
abbrev pub place_line : ℕ → Bool → List ℕ
place_line place unsure =
    codes "at " ++ (decimal place ++ (cond unsure (codes " undecided") [] ++ 10 ∷ []))

-- constraint number c, and whether it is among the unsure ones
abbrev pub blamed_line : List ResolvedConstraint → List ℕ → ℕ → List ℕ
blamed_line ks unsure c = place_line (constraint_at ks c).place (list_any (nat_eq c) unsure)

abbrev pub core_text : List ResolvedConstraint → ℕ → CoreAnswer → List ℕ
core_text ks budget answers.Solvable = codes "has a solution\n"
core_text ks budget answers.Undecided = undecided_line budget
core_text ks budget (answers.Core keep unsure) =
    number_line (codes "core ") (length keep) ++ flat_map (blamed_line ks unsure) keep

abbrev pub core_status : ℕ → CoreAnswer → Status
core_status budget answers.Solvable = status.Done
core_status budget answers.Undecided = status.Undecided budget
core_status budget (answers.Core keep unsure) = status.NoneExists
