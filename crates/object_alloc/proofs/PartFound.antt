-- A look at all objects finds the one that is wanted.
use Rattle.std.proofs.Common.{◌≡◌, ℕ, zero, suc, ◌<◌, ◌≤◌, List, [], ◌∷◌, Option, length, get_or, sym, ◌∙◌, subst, arith}
use Rattle.class_table.specs.declared.table.Resolved.{Resolved}
use Rattle.class_table.specs.declared.table.Resolved.TheVariants.{One, Many}
use Rattle.std.specs.Prelude.{Contains, slice_index_or}
use Rattle.object_alloc.specs.declared.object.Object.{Object}
use Rattle.object_alloc.specs.Parts.{IsElement, IsPart, HasPart}

found : (xs : List Object) (x : Object) (h : Contains xs x) → get_or xs h.0 x ≡ x
found [] x h = absurd (omega (arith, h.1))
found (y ∷ ys) x (zero, lt, e) = e
found (y ∷ ys) x (suc k, lt, e) = found ys x (k, omega (arith, lt), e)

pub none_left : (xs : List Object) (owner : Option ℕ) (k i n : ℕ) → ((m : ℕ) → m < n → (d : Object) → IsPart owner k i (slice_index_or xs m d) → ⊥) → length xs ≤ n → HasPart xs owner k i → ⊥
none_left xs owner k i n none le h = none h.has.0 (omega (arith, h.has.1, le)) h.part (subst (IsPart owner k i) (sym (found xs h.part h.has)) h.is)

pub of_array : (s t : Resolved) (c n i : ℕ) → s ≡ Many c n → s ≡ t → i < n → IsElement t i
of_array s t c n i e f h = subst (λ x. IsElement x i) (sym e ∙ f) h

pub of_one : (s t : Resolved) (c i : ℕ) → s ≡ One c → s ≡ t → i ≡ 0 → IsElement t i
of_one s t c i e f h = subst (λ x. IsElement x i) (sym e ∙ f) h
