-- Derivation where each node has a rank above its parent's.
use Rattle.std.proofs.Common.{◌≡◌, ℕ, zero, suc, ◌+◌, ◌≤◌, Bool, true, false, ◌||◌, Option, None, Some, nat_eq, refl, ap, sym, ◌∙◌, subst, arith, true≢false, eq-eqb}
use Rattle.std.specs.Option.{option_map_or}
use Rattle.std.proofs.lemmas.Bool.{eqb-true}
use Rattle.graph_walk.specs.Ancestors.{derives, derives_from_itself}
pub use Rattle.graph_walk.specs.Children.{Falls}
use Rattle.graph_walk.specs.Steps.{StepsBy}

abbrev pub IsUp : (ℕ → Option ℕ) → ℕ → ℕ → Type 0
IsUp up c d = up c ≡ Some d

module _ (up : ℕ → Option ℕ) where
  pub steps_from_derives : (n c d : ℕ) → derives up n c d ≡ true → (k : ℕ) × StepsBy (IsUp up) k c d
  steps_from_derives zero c d h = (0, eqb-true c d h)
  steps_from_derives (suc n) c d h = by (λ q g. steps_from_derives n q d g) (nat_eq c d) refl h
    where
      further : ((q : ℕ) → derives up n q d ≡ true → (k : ℕ) × StepsBy (IsUp up) k q d) → (o : Option ℕ) → up c ≡ o → option_map_or (λ parent. derives up n parent d) o false ≡ true → (k : ℕ) × StepsBy (IsUp up) k c d
      further more None e g = absurd (true≢false (sym g))
      further more (Some q) e g = let rest = more q g in (suc rest.0, (q, e, rest.1))

      by : ((q : ℕ) → derives up n q d ≡ true → (k : ℕ) × StepsBy (IsUp up) k q d) → (b : Bool) → nat_eq c d ≡ b → (b || option_map_or (λ parent. derives up n parent d) (up c) false) ≡ true → (k : ℕ) × StepsBy (IsUp up) k c d
      by more true e g = (0, eqb-true c d e)
      by more false e g = further more (up c) refl g

  module _ (r : ℕ → ℕ) (falls : Falls up r) where
    pub falls_steps : (k c d : ℕ) → StepsBy (IsUp up) k c d → r d + k ≤ r c
    falls_steps zero c d s = let e = ap r s in omega arith
    falls_steps (suc k) c d s = let a = falls c s.0 s.1 in let b = falls_steps k s.0 d s.2 in omega arith

    itself : (n c : ℕ) → derives up n c c ≡ true
    itself zero c = eq-eqb c c refl
    itself (suc n) c = ap (λ b. b || option_map_or (λ parent. derives up n parent c) (up c) false) (eq-eqb c c refl)

    pub derives_from_steps : (k n c d : ℕ) → StepsBy (IsUp up) k c d → r c ≤ n → derives up n c d ≡ true
    derives_from_steps zero n c d s h = subst (λ x. derives up n c x ≡ true) s (itself n c)
    derives_from_steps (suc k) zero c d s h = let a = falls c s.0 s.1 in absurd (omega arith)
    derives_from_steps (suc k) (suc n) c d s h =
        let a = falls c s.0 s.1 in
        let rest = derives_from_steps k n s.0 d s.2 (omega arith) in
        ap (λ o. nat_eq c d || option_map_or (λ parent. derives up n parent d) o false) s.1 ∙ ap (λ b. nat_eq c d || b) rest ∙ or_true (nat_eq c d)
      where
        or_true : (b : Bool) → (b || true) ≡ true
        or_true true = refl
        or_true false = refl

    pub not_itself : (n c : ℕ) → derives_from_itself up n c ≡ false
    not_itself n c = by (up c) refl
      where
        here : (q : ℕ) → up c ≡ Some q → (b : Bool) → derives up n q c ≡ b → b ≡ false
        here q e true h =
            let s = steps_from_derives n q c h in
            let a = falls c q e in
            let b = falls_steps s.0 q c s.1 in
            absurd (omega arith)
        here q e false h = refl

        by : (o : Option ℕ) → up c ≡ o → option_map_or (λ parent. derives up n parent c) o false ≡ false
        by None e = refl
        by (Some q) e = here q e (derives up n q c) refl

-- one parent further up
pub derives_step : (up : ℕ → Option ℕ) (n m c d q : ℕ) → m ≡ suc n → (c ≡ d → ⊥) → up c ≡ Some q → derives up n q d ≡ derives up m c d
derives_step up n m c d q m_is ne e =
    sym (ap (λ k. derives up k c d) m_is ∙ ap (λ o. nat_eq c d || option_map_or (λ parent. derives up n parent d) o false) e ∙ ap (λ b. b || derives up n q d) (by (nat_eq c d) refl))
  where
    by : (b : Bool) → nat_eq c d ≡ b → nat_eq c d ≡ false
    by true h = absurd (ne (eqb-true c d h))
    by false h = h
