-- What lines of a plan weigh.
use Rattle.std.specs.Prelude.{ℕ, ℤ, pos, ◌+ℤ◌, if◌then◌else◌, List, [], ◌∷◌, ◌++◌, codes}
use Rattle.std.specs.Fmt.{signed_decimal}
use Rattle.serde_json.specs.Data.{Data}
use Rattle.view_leaves.specs.Spelling.{word_text}
use Rattle.view_picture.specs.Mentions.{owner}
use Rattle.view_picture.specs.Picture.{amount}
use Rattle.view_plan.specs.Plan.{PlanLine}
use Rattle.view_plan.specs.Text.{counts}

-- what the owner of a line's leaf has under a name, where the line counts
abbrev pub line_weight : Data → List ℕ → PlanLine → ℤ
line_weight d name l = if counts l then amount d name (owner l.0) else pos 0

abbrev pub weight : Data → List ℕ → List PlanLine → ℤ
weight d name [] = pos 0
weight d name (l ∷ ls) = line_weight d name l +ℤ weight d name ls

-- the sum and the name
abbrev pub weight_text : ℤ → List ℕ → List ℕ
weight_text sum name = signed_decimal sum ++ codes " " ++ word_text name ++ codes "\n"
