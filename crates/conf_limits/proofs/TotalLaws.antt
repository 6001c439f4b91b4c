-- Constraints and objectives, one by one.
use Rattle.std.proofs.Common.{◌≡◌, ℕ, zero, suc, ◌+◌, ◌<◌, ◌≤◌, ◌-◌, Bool, true, false, List, [], ◌∷◌, length, get_or, drop, All, refl, ap, sym, ◌∙◌, subst, arith}
use Rattle.std.specs.Prelude.{◌&&◌}
use Rattle.std.specs.List.{list_all, sum_by}
use Rattle.std.proofs.lemmas.List.Elements.{All-head, All-tail}
use Rattle.std.proofs.lemmas.List.Sums.{sum_by-cons}
use Rattle.conf_limits.specs.declared.limit.Measured.{Measured}
use Rattle.conf_limits.specs.Counting.{IsTotalling}
use Rattle.conf_limits.specs.Limits.{capped, IsTotal}
use Rattle.conf_limits.proofs.BodyLaws.{next}

module _ {X : Type 0} (weigh : X → ℕ) (test : X → Bool) where
  assoc : (a b c : Bool) → (a && b) && c ≡ a && (b && c)
  assoc true b c = refl
  assoc false b c = refl

  and_true : (b : Bool) → b && true ≡ b
  and_true true = refl
  and_true false = refl

  -- what was counted, and what was counted with one more
  pub step : (es : List X) (k : ℕ) (e : X) (m n : Measured) → k < length es → e ≡ get_or es k e
      → IsTotalling m (sum_by weigh (drop k es)) (sum_by weigh es) (list_all test (drop k es)) (list_all test es)
      → ((w : ℕ) (b : Bool) → IsTotal m w b → IsTotal n (w + weigh e) (b && test e))
      → IsTotalling n (sum_by weigh (drop (k + 1) es)) (sum_by weigh es) (list_all test (drop (k + 1) es)) (list_all test es)
  step es k e m n h is t more =
      let left = drop k es in
      let rest = drop (k + 1) es in
      let all = sum_by weigh es in
      let cut : left ≡ e ∷ rest = next es k e h is in
      let weights : sum_by weigh left ≡ weigh e + sum_by weigh rest = ap (sum_by weigh) cut ∙ sum_by-cons weigh e rest in
      let light = t.light in
      let added : (all - sum_by weigh left) + weigh e ≡ all - sum_by weigh rest = omega (arith, weights, light) in
      let found = more (all - sum_by weigh left) m.narrow (record { weight_is = t.weight_is; narrow_is = refl }) in
      record {
        light = omega (arith, weights, light);
        weight_is = found.weight_is ∙ ap capped added;
        narrow_is = ap (λ b. b && list_all test rest) found.narrow_is ∙ assoc m.narrow (test e) (list_all test rest)
            ∙ sym (ap (λ ys. m.narrow && list_all test ys) cut) ∙ t.narrow_is;
      }

  at_end : (es : List X) (k : ℕ) → length es ≤ k → drop k es ≡ []
  at_end [] zero h = refl
  at_end [] (suc k) h = refl
  at_end (e ∷ es) zero h = absurd (omega (arith, h))
  at_end (e ∷ es) (suc k) h = at_end es k (omega (arith, h))

  pub done : (es : List X) (k : ℕ) (m : Measured) → length es ≤ k
      → IsTotalling m (sum_by weigh (drop k es)) (sum_by weigh es) (list_all test (drop k es)) (list_all test es)
      → IsTotal m (sum_by weigh es) (list_all test es)
  done es k m h t =
      let none = at_end es k h in
      let nothing : sum_by weigh (drop k es) ≡ 0 = ap (sum_by weigh) none in
      let whole : sum_by weigh es - sum_by weigh (drop k es) ≡ sum_by weigh es = omega (arith, nothing) in
      record {
        weight_is = t.weight_is ∙ ap capped whole;
        narrow_is = sym (ap (λ ys. m.narrow && list_all test ys) none ∙ and_true m.narrow) ∙ t.narrow_is;
      }

-- the first of what is left, and the rest
pub first_there : {X : Type 0} (P : X → Type 0) (es : List X) (k : ℕ) (e : X) → k < length es → e ≡ get_or es k e → All P (drop k es) → P e
first_there P es k e h is a = All-head P e (drop (k + 1) es) (subst (All P) (next es k e h is) a)

pub rest_there : {X : Type 0} (P : X → Type 0) (es : List X) (k : ℕ) (e : X) → k < length es → e ≡ get_or es k e → All P (drop k es) → All P (drop (k + 1) es)
rest_there P es k e h is a = All-tail P e (drop (k + 1) es) (subst (All P) (next es k e h is) a)
