-- Forms of trees that are numbers or truths, whatever stands in them.
use Rattle.std.proofs.Common.{◌≡◌, ℕ, List, ℤ, pos, Option, Some, length, subst, arith}
use Rattle.std.proofs.lemmas.Int.{ints}
use Rattle.class_table.specs.Outline.{Outline}
use Rattle.conf_types.specs.declared.types.ExprType.{ExprType}
use Rattle.conf_types.specs.declared.types.ExprType.TheVariants as type
use Rattle.conf_types.specs.Trees.{Tree}
use Rattle.conf_types.specs.Typing.{Place, tree_type}
use Rattle.conf_eval.specs.declared.value.Value.TheVariants.{Int, Truth}
use Rattle.conf_eval.specs.Meaning.{value}
use Rattle.conf_limits.specs.Measures.{interval}
use Rattle.signed_clause.specs.Clauses.{Boxes}
use Rattle.ground_form.specs.declared.ground.Ground.{Ground}
use Rattle.form_build.specs.declared.form.Linear.{Linear}
use Rattle.form_build.specs.declared.form.Truth.{Truth as ATruth}
use Rattle.form_build.specs.Forms.{linear_at, truth_at, HasVariable}
use Rattle.form_build.specs.Sums.{IsSum}
use Rattle.form_build.specs.Worlds.{IsWorld, AreKnown}
use Rattle.expr_forms.specs.declared.form.Form.TheVariants as form
use Rattle.expr_forms.specs.FormBounds.{IsFormOf, IsGroundForm}
use Rattle.expr_forms.specs.FormValues.{nought}
use Rattle.expr_forms.specs.Standing.{world_setting}

-- the sum of no terms
pub no_number : (boxes : Boxes) (low high : ℤ) → low ≡ pos 0 → high ≡ pos 0 → IsSum boxes low high nought
no_number boxes low high e h = record {
  linear = record { terms = tt; bounded = omega arith };
  lies = record { low_is = omega (arith, ints, e); high_is = omega (arith, ints, h) };
}

module _ (o : Outline) (g : Ground) (known : List (ℕ × ℤ)) (t : Tree) (this : Option ℕ) (vars : List ℕ) where
  -- a tree that can only be a number
  pub number_tree : (f : Linear) → ((p : Place) (ty : ExprType) → tree_type o t p ≡ Some ty → type.Int ≡ ty) → IsSum g.domains (interval o t).low (interval o t).high f →
      ((a : List ℤ) → IsWorld g a → AreKnown known a → value t (world_setting o g a this vars) ≡ Int (linear_at f a)) → IsGroundForm o g known t this vars (form.Number f)
  number_tree f typed sum stands = record {
    stands = stands;
    form = record {
      number = sum;
      truth = tt;
      typed = λ p ty fits is. subst (λ (z : ExprType). IsFormOf o g.domains z (form.Number f)) (typed p ty is) tt;
      reached = omega arith;
    };
  }

  -- a tree that can only be a truth
  pub truth_tree : (u : ATruth) → ((p : Place) (ty : ExprType) → tree_type o t p ≡ Some ty → type.Truth ≡ ty) → (interval o t).low ≡ pos 0 → (interval o t).high ≡ pos 0 → HasVariable (length g.domains) u →
      ((a : List ℤ) → IsWorld g a → AreKnown known a → value t (world_setting o g a this vars) ≡ Truth (truth_at u a)) → IsGroundForm o g known t this vars (form.Truth u)
  truth_tree u typed low high variable stands = record {
    stands = stands;
    form = record {
      number = no_number g.domains _ _ low high;
      truth = variable;
      typed = λ p ty fits is. subst (λ (z : ExprType). IsFormOf o g.domains z (form.Truth u)) (typed p ty is) tt;
      reached = omega arith;
    };
  }
