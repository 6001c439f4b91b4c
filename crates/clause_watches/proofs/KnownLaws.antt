-- What is known of clauses once a row was walked.
use Rattle.std.proofs.Common.{◌≡◌, ◌≢◌, ℕ, ◌==◌, Bool, true, false, not, cond, List, inl, inr, arith, refl, sym, ap, ◌∙◌, subst}
use Rattle.std.proofs.lemmas.Bool.{cases_eq}
use Rattle.signed_clause.specs.Clauses.{Boxes, Literals}
use Rattle.clause_watches.specs.declared.rest.Rest.{Rest}
use Rattle.clause_watches.specs.declared.rest.Rest.TheVariants.{Listed, Half, On, Held}
use Rattle.clause_watches.specs.Watching.{Meets, IsKnown}
use Rattle.clause_watches.specs.Marks.{is_marked}
use Rattle.clause_watches.specs.Rows.{names, differ, seen}
use Rattle.clause_watches.specs.Sound.{IsUnmarked}

unmarked_same : (x : ℕ) (before after : List Bool) → IsUnmarked x before after →
    is_marked after x ≡ false
unmarked_same x before after u = let e = u x in let yes : (x == x) ≡ true = grind arith in
    e ∙ ap (λ (b : Bool). cond b false (is_marked before x)) yes

unmarked_other : (x y : ℕ) (before after : List Bool) → IsUnmarked x before after → y ≢ x →
    is_marked after y ≡ is_marked before y
unmarked_other x y before after u n = let e = u y in let no : (x == y) ≡ false = grind arith in
    e ∙ ap (λ (b : Bool). cond b false (is_marked before y)) no

on_first : (boxes : Boxes) (c : Literals) (a b : ℕ) (m : Bool) → a ≢ b → Meets boxes c a →
    IsKnown boxes c (cond m Listed (Half b)) → IsKnown boxes c (cond m (Half a) (On a b))
on_first boxes c a b true n h k = h
on_first boxes c a b false n h k = record { differ = n; one = h; other = k }

on_second : (boxes : Boxes) (c : Literals) (a b : ℕ) (m : Bool) → a ≢ b → Meets boxes c b →
    IsKnown boxes c (cond m Listed (Half a)) → IsKnown boxes c (cond m (Half b) (On a b))
on_second boxes c a b true n h k = h
on_second boxes c a b false n h k = record { differ = n; one = k; other = h }

-- x is looked at again, and meets where the rest names it
pub known_again : (boxes : Boxes) (c : Literals) (x : ℕ) (r : Rest) (before after : List Bool) →
    is_marked before x ≡ true → IsUnmarked x before after → differ r ≡ true →
    (names r x ≡ true → Meets boxes c x) →
    IsKnown boxes c (seen before r) → IsKnown boxes c (seen after r)
known_again boxes c x Listed before after on u d meets k = tt
known_again boxes c x (Half a) before after on u d meets k = elim (cases_eq a x) [
  | inl same ↦ let off : is_marked after a ≡ false =
      subst (λ (y : ℕ). is_marked after y ≡ false) (sym same) (unmarked_same x before after u) in
      let met : Meets boxes c a =
      subst (λ (y : ℕ). Meets boxes c y) (sym same) (meets (grind arith)) in
      subst (λ (m : Bool). IsKnown boxes c (cond m Listed (Half a))) (sym off) met
  | inr other ↦ subst (λ (m : Bool). IsKnown boxes c (cond m Listed (Half a)))
      (sym (unmarked_other x a before after u other)) k
]
known_again boxes c x (Held a) before after on u d meets k = k
known_again boxes c x (On a b) before after on u d meets k =
    let apart : a ≢ b = λ e. let yes : (a == b) ≡ true = grind arith in
    let no : not (a == b) ≡ false = rw yes refl in absurd (cc) in
    elim (cases_eq a x) [
      | inl same ↦ let off : is_marked after a ≡ false =
          subst (λ (y : ℕ). is_marked after y ≡ false) (sym same) (unmarked_same x before after u)
          in
          let was : is_marked before a ≡ true =
          subst (λ (y : ℕ). is_marked before y ≡ true) (sym same) on in
          let met : Meets boxes c a =
          subst (λ (y : ℕ). Meets boxes c y) (sym same) (meets (grind arith)) in
          let rest : is_marked after b ≡ is_marked before b =
          unmarked_other x b before after u (λ e. apart (same ∙ sym e)) in
          let left : IsKnown boxes c (cond (is_marked before b) Listed (Half b)) =
          subst (λ (m : Bool). IsKnown boxes c
          (cond m (cond (is_marked before b) Listed (Half b))
          (cond (is_marked before b) (Half a) (On a b)))) was k in
          subst (λ (m : Bool). IsKnown boxes c
          (cond m (cond (is_marked after b) Listed (Half b))
          (cond (is_marked after b) (Half a) (On a b)))) (sym off)
          (subst (λ (m : Bool). IsKnown boxes c (cond m (Half a) (On a b))) (sym rest)
          (on_first boxes c a b (is_marked before b) apart met left))
      | inr other ↦ elim (cases_eq b x) [
        | inl same ↦ let off : is_marked after b ≡ false =
            subst (λ (y : ℕ). is_marked after y ≡ false) (sym same) (unmarked_same x before after u)
            in
            let was : is_marked before b ≡ true =
            subst (λ (y : ℕ). is_marked before y ≡ true) (sym same) on in
            let met : Meets boxes c b =
            subst (λ (y : ℕ). Meets boxes c y) (sym same) (meets (grind arith)) in
            let rest : is_marked after a ≡ is_marked before a =
            unmarked_other x a before after u other in
            let left : IsKnown boxes c (cond (is_marked before a) Listed (Half a)) =
            subst (λ (m : Bool). IsKnown boxes c
            (cond (is_marked before a) (cond m Listed (Half b)) (cond m (Half a) (On a b))))
            was k in
            subst (λ (m : Bool). IsKnown boxes c
            (cond (is_marked after a) (cond m Listed (Half b)) (cond m (Half a) (On a b))))
            (sym off)
            (subst (λ (m : Bool). IsKnown boxes c (cond m (Half b) (On a b))) (sym rest)
            (on_second boxes c a b (is_marked before a) apart met left))
        | inr third ↦
            subst (λ (m : Bool). IsKnown boxes c
            (cond m (cond (is_marked after b) Listed (Half b))
            (cond (is_marked after b) (Half a) (On a b))))
            (sym (unmarked_other x a before after u other))
            (subst (λ (m : Bool). IsKnown boxes c
            (cond (is_marked before a) (cond m Listed (Half b)) (cond m (Half a) (On a b))))
            (sym (unmarked_other x b before after u third)) k)
      ]
    ]
