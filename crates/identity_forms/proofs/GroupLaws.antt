-- The objects that have values, one further.
use Rattle.std.proofs.Common.{◌≡◌, ℕ, zero, suc, ◌+◌, ◌<◌, List, [], ◌∷◌, ◌++◌, Some, length, take, get_or, sym, ap, ◌∙◌, arith}
use Rattle.std.specs.Prelude.{slice_get}
use Rattle.std.proofs.lemmas.Option.{slice_get_within, get_or_from_slice_get}

-- one object further
pub taken_more : (ns : List ℕ) (i n : ℕ) → slice_get ns i ≡ Some n → (take i ns ++ n ∷ []) ≡ take (i + 1) ns
taken_more ns i n e =
    let lt = slice_get_within ns i n e in
    let is : n ≡ get_or ns i n = sym (get_or_from_slice_get ns i n n e) in
    let one : suc i ≡ i + 1 = omega arith in
    next ns i n lt is ∙ ap (λ (m : ℕ). take m ns) one
  where
    next : (ns : List ℕ) (i n : ℕ) → i < length ns → n ≡ get_or ns i n → (take i ns ++ n ∷ []) ≡ take (suc i) ns
    next [] i n lt is = absurd (omega (arith, lt))
    next (m ∷ ns) zero n lt is = ap (λ (k : ℕ). k ∷ []) is
    next (m ∷ ns) (suc i) n lt is = ap (λ (z : List ℕ). m ∷ z) (next ns i n (omega (arith, lt)) is)
