-- The text of a plan, from the lines that were chosen.
use Rattle.std.proofs.Common.{◌≡◌, ℕ, Bool, false, List, ap, ◌∙◌, subst}
use Rattle.std.specs.List.{list_any}
use Rattle.serde_json.specs.Data.{Data}
use Rattle.view_leaves.specs.Leaves.{leaves}
use Rattle.view_plan.specs.Plan.{PlanLine, IsPlan}
use Rattle.view_plan.specs.Text.{shows_fraction}
use Rattle.view_run.specs.Answers.{IsPlanText, has_some, listed_text}
use Rattle.view_run.specs.Options.{only_of}
use Rattle.view_tables.specs.Chosen.{chosen}

pub is_plan_text : (d e : Data) (options names : List (List ℕ)) (all kept : List PlanLine)
    (shown : List ℕ) (something : Bool) → IsPlan (leaves d) (leaves e) all
    → names ≡ only_of options → kept ≡ chosen names all → something ≡ has_some kept
    → (list_any shows_fraction kept ≡ false → shown ≡ listed_text e options kept)
    → IsPlanText d e options shown something
is_plan_text d e options names all kept shown something plan named chose some text =
    let is : kept ≡ chosen (only_of options) all = chose ∙ ap (λ ns. chosen ns all) named in
    record {
      lines = all;
      plan = plan;
      differs = some ∙ ap has_some is;
      text = subst (λ ls. list_any shows_fraction ls ≡ false → shown ≡ listed_text e options ls) is text;
    }
