-- Quantifiers that stand as constraints of their own. What a reader believes after this file: of a
-- constraint that says of parts that they differ, or that they fit, the problem has one constraint
-- that says so of them all.
use Rattle.std.specs.Prelude.{◌≡◌, ℕ, ◌≤◌, true, List, ℤ, Option, length}
use Rattle.class_table.specs.Outline.{Outline}
use Rattle.conf_syntax.specs.declared.tree.QuantKind.{QuantKind}
use Rattle.conf_syntax.specs.declared.tree.QuantKind.TheVariants as kind
use Rattle.conf_types.specs.Trees.{Tree, NoFilter}
use Rattle.conf_types.specs.Trees as tree
use Rattle.conf_eval.specs.declared.value.Value.{Value}
use Rattle.conf_eval.specs.Meaning.{value, objects_of}
use Rattle.ground_form.specs.declared.ground.Ground.{Ground}
use Rattle.form_build.specs.Worlds.{IsWorld}
use Rattle.expr_forms.specs.Standing.{world_setting}
use Rattle.pairwise_forms.specs.Wholes.{HasDifferent, HasPacking}
use Rattle.ground_expr.specs.Bodies.{values_over}
use Rattle.ground_expr.specs.Fixed.{is_fixed_path}

-- one constraint compares n members that have these values, where they are two and not too many
abbrev pub HasWhole : QuantKind → Ground → ℕ → (List ℤ → Type 0) → (List ℤ → List (List Value))
    → Type 0
HasWhole kind.AllDifferent g n premise members =
    2 ≤ n → n ≤ 64 → HasDifferent g n premise members
HasWhole kind.Pack g n premise members = 2 ≤ n → n ≤ 1024 → HasPacking g n premise members
HasWhole kind.Forall g n premise members = Unit {0}
HasWhole kind.Exists g n premise members = Unit {0}
HasWhole kind.Sum g n premise members = Unit {0}
HasWhole kind.Count g n premise members = Unit {0}

-- a quantifier over a path of parts has one of all its members, as many as any world says
abbrev pub StandsWhole : Outline → Ground → (List ℤ → Type 0) → Tree → Option ℕ → List ℕ → Type 0
StandsWhole o g premise (tree.Paren at e) this vars = StandsWhole o g premise e this vars
StandsWhole o g premise (tree.Quant at q over f bs) this vars =
    is_fixed_path over ≡ true → (w : List ℤ) → IsWorld g w → premise w
    → HasWhole q g (length (objects_of (value over (world_setting o g w this vars)))) premise
    (λ a. values_over over NoFilter bs (world_setting o g a this vars))
StandsWhole o g premise t this vars = Unit {0}
