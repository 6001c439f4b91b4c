use Rattle.std.proofs.Common.{◌≡◌, ◌++◌, [], ℕ, List}
use Rattle.model_generator.specs.Generated.{generated}
use Rattle.model_generator.proofs.generator.generate.Goals as goal

-- ten pieces, each put behind what there was
ten_added : (a b c d e f g h i j : List ℕ) {t u v w x y z p q r s : List ℕ} →
    t ≡ [] → u ≡ t ++ a → v ≡ u ++ b → w ≡ v ++ c → x ≡ w ++ d → y ≡ x ++ e → z ≡ y ++ f
    → p ≡ z ++ g → q ≡ p ++ h → r ≡ q ++ i → s ≡ r ++ j
    → s ≡ a ++ b ++ c ++ d ++ e ++ f ++ g ++ h ++ i ++ j
ten_added a b c d e f g h i j none e₁ e₂ e₃ e₄ e₅ e₆ e₇ e₈ e₉ e₁₀ = cc

pub returns-clause-text : goal.returns-clause-text
unfolding generated
returns-clause-text c =
    ten_added _ _ _ _ _ _ _ _ _ _ c.new-text.ensures.items c.in_ok-add.ensures c.in_ok-add-2.ensures
    c.in_ok-add-3.ensures c.in_ok-add-4.ensures c.in_ok-add_sized.ensures c.in_ok-add-5.ensures
    c.in_ok-add-6.ensures c.in_ok-add_sized-2.ensures c.in_ok-add_sized-3.ensures
    c.in_ok-add-7.ensures
