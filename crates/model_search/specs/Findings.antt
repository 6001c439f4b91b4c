-- What a verdict tells of a model. What a reader believes after this file: which configurations a
-- verdict stands for, and that these are best, that none is wanted, or that one is.
use Rattle.std.specs.Prelude.{Bool, true, false, List, ℤ, Option, Some, None, take, IfSome}
use Rattle.std.specs.Option.{option_map}
use Rattle.class_table.specs.Outline.{Outline}
use Rattle.conf_types.specs.Programs.{ResolvedConstraint, ResolvedGoal}
use Rattle.ground_form.specs.declared.ground.Ground.{Ground}
use Rattle.log_check.specs.Verdicts.{Ending}
use Rattle.model_search.specs.declared.finding.Finding.{Finding}
use Rattle.model_search.specs.declared.finding.Finding.TheVariants as findings
use Rattle.model_search.specs.Wanted.{IsWanted, IsBestOf, HasNoneOf}
use Rattle.object_alloc.specs.Configurations.{IsConfiguration}
use Rattle.reconfigure.specs.declared.repair.Repair.{Repair}

-- the values of the searched variables are a configuration's
abbrev pub finding_by : Ground → Bool → Option (List ℤ) → Finding
finding_by g true (Some a) = findings.Best (take g.search a)
finding_by g true None = findings.NoneExists
finding_by g false found = findings.Open (option_map (λ a. take g.search a) found)

-- what a verdict over this problem tells
abbrev pub finding : Ground → Ending → Finding
finding g verdict = finding_by g verdict.closed verdict.found

-- it is so of the model, or of the repair of it
abbrev pub Tells : Outline → List ResolvedConstraint → List ResolvedGoal → Option Repair
    → Finding → Type 0
Tells o ks gs r (findings.Best t) =
    IsConfiguration o t × IsWanted o ks r t × IsBestOf o ks gs r t
Tells o ks gs r findings.NoneExists = HasNoneOf o ks r
Tells o ks gs r (findings.Open last) = IfSome last (λ t. IsConfiguration o t × IsWanted o ks r t)
