-- Constraints of a model that stand whole. What a reader believes after this file: of each
-- constraint of the model that says of parts that they differ, or that they fit, the problem has one
-- that says so of them all, for each object for which it is stated.
use Rattle.std.specs.Prelude.{◌≡◌, ℕ, Bool, true, false, List, [], ℤ, Option}
use Rattle.std.specs.List.{All}
use Rattle.class_table.specs.Outline.{Outline}
use Rattle.conf_types.specs.Programs.{ResolvedConstraint}
use Rattle.conf_types.specs.Trees.{Tree}
use Rattle.conf_types.specs.Trees as tree
use Rattle.conf_eval.specs.Satisfying.{stated_for}
use Rattle.ground_form.specs.declared.ground.Ground.{Ground}
use Rattle.form_build.specs.Worlds.{AllHold}
use Rattle.form_truths.specs.Tests.{wanted}
use Rattle.quantifier_forms.specs.Quantified.{compares_members}
use Rattle.ground_expr.specs.StandsWhole.{StandsWhole}
use Rattle.ground_model.specs.Fixing.{fixes}

-- the constraint compares the members of a list
abbrev pub compares : Tree → Bool
compares (tree.Paren at e) = compares e
compares (tree.Quant at q over f bs) = compares_members q
compares t = false

-- for each object for which it is stated
abbrev pub HasWholes : Outline → Ground → (List ℤ → Type 0) → ResolvedConstraint → Type 0
HasWholes o g premise k =
    All (λ (this : Option ℕ). StandsWhole o g premise k.tree this []) (stated_for o k.class)

-- the same where it is required in the pass
abbrev pub HasWholesIn : Bool → Outline → Ground → (List ℤ → Type 0) → ResolvedConstraint → Type 0
HasWholesIn fixing o g premise k =
    wanted fixing (fixes k.tree) ≡ true → HasWholes o g premise k

-- in every solution of the problem the variables have the values of the model's members
abbrev pub WholesStand : Outline → Ground → List ResolvedConstraint → Type 0
WholesStand o g ks = All (HasWholes o g (AllHold g)) ks
