-- What is stated by way of truths, and in several rows.
use Rattle.std.proofs.Common.{◌≡◌, Bool, true, ◌&&◌, List, [], ℤ, pos, ◌*ℤ◌, ◌-ℤ◌, negsuc, ◌∙◌, arith}
use Rattle.std.specs.Prelude.{int_le}
use Rattle.std.specs.Ordering.{int_eq}
use Rattle.std.proofs.lemmas.Int.{ints}
use Rattle.ground_form.specs.declared.ground.Ground.{Ground}
use Rattle.form_build.specs.declared.form.Linear.{Linear}
use Rattle.form_build.specs.Forms.{linear_at}
use Rattle.form_build.specs.Worlds.{IsWorld, Adds, Defines}
use Rattle.form_build.proofs.Growth.{world_before, adds_more, adds_same}
use Rattle.form_build.proofs.Linears.{minus_one}

-- a definition, and then a statement that uses it
pub defined_says : (f g h : Ground) (p q : List ℤ → Bool) → Defines f g → Adds [] g h p → ((a : List ℤ) → IsWorld g a → p a ≡ q a) → Adds [] f h q
defined_says f g h p q d s e =
    adds_same [] f h (λ a. true && p a) q (λ a w kn. e a (world_before g h a s.grows w)) (adds_more [] f g h (λ a. true) p d s)

both_rows : (x y : ℤ) → y ≡ (negsuc 0 *ℤ x) → (int_le x (pos 0) && int_le y (pos 0)) ≡ int_eq x (pos 0)
both_rows x y e = let one = minus_one x in turned x y (e ∙ one)
  where
    turned : (x y : ℤ) → y ≡ (pos 0 -ℤ x) → (int_le x (pos 0) && int_le y (pos 0)) ≡ int_eq x (pos 0)
    turned x y e = grind (arith, ints)

-- two rows
pub rows_say : (f g h : Ground) (l r : Linear) → Adds [] f g (λ a. int_le (linear_at l a) (pos 0)) → Adds [] g h (λ a. int_le (linear_at r a) (pos 0)) → ((a : List ℤ) → linear_at r a ≡ (negsuc 0 *ℤ linear_at l a)) → Adds [] f h (λ a. int_eq (linear_at l a) (pos 0))
rows_say f g h l r s t e =
    adds_same [] f h (λ a. int_le (linear_at l a) (pos 0) && int_le (linear_at r a) (pos 0)) (λ a. int_eq (linear_at l a) (pos 0)) (λ a w kn. both_rows (linear_at l a) (linear_at r a) (e a))
    (adds_more [] f g h (λ a. int_le (linear_at l a) (pos 0)) (λ a. int_le (linear_at r a) (pos 0)) s t)
