-- Derivation and attributes where each class has a rank above its parent's.
use Rattle.std.proofs.Common.{◌≡◌, ℕ, zero, suc, ◌≤◌, cond, List, [], ◌++◌, Option, None, Some, refl, ap, sym, ◌∙◌, subst, arith, ◌⊎◌, inl, inr}
use Rattle.std.specs.Prelude.{Contains}
use Rattle.std.specs.Option.{option_map_or}
use Rattle.std.proofs.lemmas.List.Elements.{Contains-append_left, Contains-append_right, Contains-append_cases}
use Rattle.graph_walk.specs.Steps.{StepsBy}
pub use Rattle.graph_walk.proofs.AncestorLaws.{Falls, IsUp, steps_from_derives, falls_steps, derives_from_steps, not_itself, derives_step}
use Rattle.class_table.specs.Ancestry.{attributes_within}

module _ (up : ℕ → Option ℕ) where
  module _ (r : ℕ → ℕ) (falls : Falls up r) where
    module _ {X : Type 0} (own : ℕ → List X) (n : ℕ) where
      -- one parent further up
      pub one_more : (k c q : ℕ) → up c ≡ Some q → attributes_within up own n (suc k) c ≡ attributes_within up own n k q ++ own c
      one_more k c q e = ap (λ b. cond b [] (option_map_or (attributes_within up own n k) (up c) []) ++ own c) (not_itself up r falls n c) ∙ ap (λ o. option_map_or (attributes_within up own n k) o [] ++ own c) e

      pub at_top : (k c : ℕ) → up c ≡ None → attributes_within up own n k c ≡ own c
      at_top zero c e = refl
      at_top (suc k) c e = ap (λ b. cond b [] (option_map_or (attributes_within up own n k) (up c) []) ++ own c) (not_itself up r falls n c) ∙ ap (λ o. option_map_or (attributes_within up own n k) o [] ++ own c) e

      -- as many ancestors as the rank are enough
      pub enough : (k m c : ℕ) → r c ≤ k → r c ≤ m → attributes_within up own n k c ≡ attributes_within up own n m c
      enough zero m c hk hm = by m hm (up c) refl
        where
          by : (m : ℕ) → r c ≤ m → (o : Option ℕ) → up c ≡ o → attributes_within up own n zero c ≡ attributes_within up own n m c
          by m b None e = sym (at_top m c e)
          by m b (Some q) e = let l = falls c q e in absurd (omega arith)
      enough (suc k) m c hk hm = by m hm (λ m q a b. enough k m q a b) (up c) refl
        where
          by : (m : ℕ) → r c ≤ m → ((m q : ℕ) → r q ≤ k → r q ≤ m → attributes_within up own n k q ≡ attributes_within up own n m q) → (o : Option ℕ) → up c ≡ o → attributes_within up own n (suc k) c ≡ attributes_within up own n m c
          by m b more None e = at_top (suc k) c e ∙ sym (at_top m c e)
          by zero b more (Some q) e = let l = falls c q e in absurd (omega arith)
          by (suc m) b more (Some q) e = let l = falls c q e in one_more k c q e ∙ ap (λ xs. xs ++ own c) (more m q (omega arith) (omega arith)) ∙ sym (one_more m c q e)

      -- the attributes of a class are its parent's and then its own
      pub attributes_next : (k c q : ℕ) → r c ≤ k → up c ≡ Some q → attributes_within up own n k c ≡ attributes_within up own n k q ++ own c
      attributes_next zero c q h e = let l = falls c q e in absurd (omega arith)
      attributes_next (suc k) c q h e = let l = falls c q e in one_more k c q e ∙ ap (λ xs. xs ++ own c) (enough k (suc k) q (omega arith) (omega arith))

      -- an attribute is declared by an ancestor
      pub declared_by : (k c : ℕ) (v : X) → Contains (attributes_within up own n k c) v → (j b : ℕ) × StepsBy (IsUp up) j c b × Contains (own b) v
      declared_by zero c v h = (0, c, refl, h)
      declared_by (suc k) c v h = by (λ q a. declared_by k q v a) (up c) refl
        where
          cases : ((q : ℕ) → Contains (attributes_within up own n k q) v → (j b : ℕ) × StepsBy (IsUp up) j q b × Contains (own b) v) → (q : ℕ) → up c ≡ Some q → Contains (attributes_within up own n k q) v ⊎ Contains (own c) v → (j b : ℕ) × StepsBy (IsUp up) j c b × Contains (own b) v
          cases more q e (inl a) = let d = more q a in (suc d.0, d.1, (q, e, d.2), d.3)
          cases more q e (inr a) = (0, c, refl, a)

          by : ((q : ℕ) → Contains (attributes_within up own n k q) v → (j b : ℕ) × StepsBy (IsUp up) j q b × Contains (own b) v) → (o : Option ℕ) → up c ≡ o → (j b : ℕ) × StepsBy (IsUp up) j c b × Contains (own b) v
          by more None e = (0, c, refl, subst (λ xs. Contains xs v) (at_top (suc k) c e) h)
          by more (Some q) e = cases more q e (Contains-append_cases (attributes_within up own n k q) (own c) v (subst (λ xs. Contains xs v) (one_more k c q e) h))

      -- what an ancestor declares is an attribute
      pub is_attribute : (j k c b : ℕ) (v : X) → StepsBy (IsUp up) j c b → Contains (own b) v → r c ≤ k → Contains (attributes_within up own n k c) v
      is_attribute zero k c b v s h le = here k (up c) refl
        where
          mine : Contains (own c) v
          mine = subst (λ x. Contains (own x) v) (sym s) h

          here : (k : ℕ) → (o : Option ℕ) → up c ≡ o → Contains (attributes_within up own n k c) v
          here k None e = subst (λ xs. Contains xs v) (sym (at_top k c e)) mine
          here zero (Some q) e = mine
          here (suc k) (Some q) e = subst (λ xs. Contains xs v) (sym (one_more k c q e)) (Contains-append_right (attributes_within up own n k q) (own c) v mine)
      is_attribute (suc j) zero c b v s h le = let l = falls c s.0 s.1 in absurd (omega arith)
      is_attribute (suc j) (suc k) c b v s h le =
          let l = falls c s.0 s.1 in
          subst (λ xs. Contains xs v) (sym (one_more k c s.0 s.1)) (Contains-append_left (attributes_within up own n k s.0) (own c) v (is_attribute j k s.0 b v s.2 h (omega arith)))
