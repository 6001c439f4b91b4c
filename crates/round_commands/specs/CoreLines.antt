-- What the steps of an answer hand on. What a reader believes after this file: nothing that the
-- answer says.
use Rattle.std.specs.Prelude.{◌<◌, List, All, AllPairs, length}
use Rattle.conf_core.specs.declared.answer.CoreAnswer.{CoreAnswer}
use Rattle.conf_core.specs.declared.answer.CoreAnswer.TheVariants as answers
use Rattle.conf_types.specs.Programs.{ResolvedConstraint}

-- the constraints of a core exist, and the unsure ones ascend
abbrev pub HasLines : List ResolvedConstraint → CoreAnswer → Type 0
HasLines ks answers.Solvable = Unit {0}
HasLines ks answers.Undecided = Unit {0}
HasLines ks (answers.Core keep unsure) = All (λ c. c < length ks) keep × AllPairs ◌<◌ unsure
