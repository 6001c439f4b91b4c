-- Two truths as one.
use Rattle.std.proofs.Common.{◌≡◌, ℕ, ◌+◌, ◌<◌, Bool, true, false, not, ◌&&◌, ◌||◌, List, [], ◌∷◌, ℤ, length, take, get_or, refl, sym, ap, ◌∙◌}
use Rattle.std.specs.List.{All, list_any}
use Rattle.std.specs.Ordering.{int_eq}
use Rattle.std.proofs.lemmas.List.Elements.{All-nil, All-cons}
use Rattle.std.proofs.lemmas.List.Folds.{list_any_more}
use Rattle.ground_form.specs.Meaning.{value_of, bit, parts_true}

-- where it isn't so that not both hold
pub both_of : (s t u v : Bool) → v ≡ not (s && t) → u ≡ not v → u ≡ (s && t)
both_of s t u v vv uu = uu ∙ ap not vv ∙ by s t
  where
    by : (s t : Bool) → not (not (s && t)) ≡ (s && t)
    by true true = refl
    by true false = refl
    by false true = refl
    by false false = refl

-- ---- two flags

bit_test : (b : Bool) → int_eq (bit b) (bit true) ≡ b
bit_test true = refl
bit_test false = refl

pub two_flags : (f g : ℕ) (a : List ℤ) (s t : Bool) → value_of a f ≡ bit s → value_of a g ≡ bit t → parts_true ((f, true) ∷ (g, true) ∷ []) a ≡ (s && t)
two_flags f g a s t e h =
    ap (λ (v : ℤ). int_eq v (bit true) && (int_eq (value_of a g) (bit true) && true)) e ∙ ap (λ (v : ℤ). int_eq (bit s) (bit true) && (int_eq v (bit true) && true)) h
    ∙ ap (λ (b : Bool). b && (int_eq (bit t) (bit true) && true)) (bit_test s)
    ∙ ap (λ (b : Bool). s && (b && true)) (bit_test t)
    ∙ by s t
  where
    by : (s t : Bool) → (s && (t && true)) ≡ (s && t)
    by true true = refl
    by true false = refl
    by false true = refl
    by false false = refl

-- what holds of both flags
pub of_both : (P : ℕ × Bool → Type 0) (f g : ℕ) → P (f, true) → P (g, true) → All P ((f, true) ∷ (g, true) ∷ [])
of_both P f g h k = All-cons P (f, true) ((g, true) ∷ []) h (All-cons P (g, true) [] k (All-nil P))

-- ---- a disjunction over a list, one further

pub both_same : (s t u v : Bool) → s ≡ u → t ≡ v → (s && t) ≡ (u && v)
both_same s t u v e f = ap (λ (b : Bool). b && t) e ∙ ap (λ (b : Bool). u && b) f

turned : (p q : Bool) → (p || q) ≡ (q || p)
turned true true = refl
turned true false = refl
turned false true = refl
turned false false = refl

pub any_step : {X : Type 0} (p : X → Bool) (xs : List X) (k : ℕ) (d : X) (old new here : Bool) → k < length xs → old ≡ list_any p (take k xs) → new ≡ (here || old) → here ≡ p (get_or xs k d) → new ≡ list_any p (take (k + 1) xs)
any_step p xs k d old new here lt before after same =
    after ∙ ap (λ (b : Bool). b || old) same ∙ ap (λ (b : Bool). p (get_or xs k d) || b) before
    ∙ turned (p (get_or xs k d)) (list_any p (take k xs))
    ∙ sym (list_any_more p xs k d lt)
