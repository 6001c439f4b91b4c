-- What is asked of a model's configurations. What a reader believes after this file: which are
-- wanted, and than which none is better. Of a repair these are the ones that satisfy the model and
-- name nothing that failed or is in what did; the best change the fewest former values, and
-- have the best objectives among those that change as few.
use Rattle.std.specs.Prelude.{◌≡◌, Bool, true, false, cond, List, ℤ, Option, None, Some, nat_eq, nat_lt}
use Rattle.class_table.specs.Outline.{Outline}
use Rattle.conf_eval.specs.Best.{IsBest, HasNone}
use Rattle.conf_eval.specs.Satisfying.{Satisfies, objectives, better}
use Rattle.conf_types.specs.Programs.{ResolvedConstraint, ResolvedGoal}
use Rattle.object_alloc.specs.Changes.{allowed, changes}
use Rattle.object_alloc.specs.Configurations.{IsConfiguration}
use Rattle.object_alloc.specs.Hints.{AreHints}
use Rattle.reconfigure.specs.Failing.{objects_named, unknown_word}
use Rattle.reconfigure.specs.declared.repair.Repair.{Repair}

-- the former values are hints for the model's cells, and each word names one of its objects
pub record IsUnderstood (o : Outline) (r : Repair) : Type 0 where
  pub former : AreHints o r.former
  pub failed : unknown_word o r.failed.items ≡ None

-- it satisfies the model, and where there is a repair it names nothing that failed
abbrev pub IsWanted : Outline → List ResolvedConstraint → Option Repair → List ℤ → Type 0
IsWanted o ks None t = Satisfies o ks t
IsWanted o ks (Some r) t =
    Satisfies o ks t × (allowed o (objects_named o r.failed.items) t ≡ true)

-- u changes fewer former values than t, or as many and has better objectives
abbrev pub improves : Outline → List ResolvedGoal → Repair → List ℤ → List ℤ → Bool
improves o gs r u t =
    cond (nat_eq (changes o r.former u) (changes o r.former t))
    (better gs (objectives o gs u) (objectives o gs t))
    (nat_lt (changes o r.former u) (changes o r.former t))

-- no wanted configuration is better
abbrev pub IsBestOf : Outline → List ResolvedConstraint → List ResolvedGoal → Option Repair
    → List ℤ → Type 0
IsBestOf o ks gs None t = IsBest o ks gs t
IsBestOf o ks gs (Some r) t =
    (u : List ℤ) → IsConfiguration o u → IsWanted o ks (Some r) u → improves o gs r u t ≡ false

-- no configuration is wanted
abbrev pub HasNoneOf : Outline → List ResolvedConstraint → Option Repair → Type 0
HasNoneOf o ks None = HasNone o ks
HasNoneOf o ks (Some r) = (u : List ℤ) → IsConfiguration o u → IsWanted o ks (Some r) u → ⊥
