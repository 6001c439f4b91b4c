-- The ends of a box are probed, whether it is small or large: where a constraint is quiet, neither
-- end alone in the box refutes it.
use Rattle.std.proofs.Common.{◌≡◌, ℕ, zero, suc, ◌<◌, true, false, not, inl, inr, List, [], ◌∷◌, ℤ}
use Rattle.std.proofs.Common.{pos, ◌+ℤ◌, ◌-ℤ◌, unsigned_abs, sym, subst, ◌∙◌, arith}
use Rattle.std.proofs.lemmas.Int.{ints}
use Rattle.std.proofs.lemmas.Bool.{and_parts, not-true, cases_lt}
use Rattle.signed_clause.specs.Ranges.{Ranges, high_from, is_nil, count_of, IsValid, Ascends}
use Rattle.signed_clause.specs.Clauses.{Boxes, box_of}
use Rattle.ground_form.specs.declared.con.Con.{Con}
use Rattle.ground_form.specs.Meaning.{vars_of}
use Rattle.ground_form.specs.Bounds.{low_of, high_of}
use Rattle.box_view.specs.Views.{fixing}
use Rattle.box_rules.specs.Refuted.{width, refuted}
use Rattle.box_rules.specs.Quiet.{values_from, values_of, probed, none_refutes, quiet_at, quiet}
use Rattle.box_rules.proofs.QuietLaws.{none_append, few_probed, many_probed}

-- the value v, alone in the box of x, doesn't refute the constraint
abbrev pub IsKept : Con → Boxes → ℕ → ℤ → Type 0
IsKept con boxes x v = refuted con (fixing boxes x v) ≡ false

-- none of the values does
abbrev AreKept : Con → Boxes → ℕ → List ℤ → Type 0
AreKept con boxes x vs = none_refutes con boxes x vs ≡ true

kept_parts : (con : Con) (boxes : Boxes) (x : ℕ) (v : ℤ) (vs : List ℤ) →
    AreKept con boxes x (v ∷ vs) → IsKept con boxes x v × AreKept con boxes x vs
kept_parts con boxes x v vs h =
    let test = refuted con (fixing boxes x v) in
    let parts = and_parts (not test) (none_refutes con boxes x vs) h in
    (not-true test parts.0, parts.1)

-- ---- all values of a set are probed

-- the value that is k above the first of a row of values
row_kept : (con : Con) (boxes : Boxes) (x n k : ℕ) (v w : ℤ) →
    AreKept con boxes x (values_from n v) → k < n → w ≡ v +ℤ pos k → IsKept con boxes x w
row_kept con boxes x zero k v w h lt e = absurd (omega arith)
row_kept con boxes x (suc n) zero v w h lt e =
    let parts = kept_parts con boxes x v (values_from n (v +ℤ pos 1)) h in
    let same : v ≡ w = omega (arith, ints) in
    subst (λ (z : ℤ). IsKept con boxes x z) same parts.0
row_kept con boxes x (suc n) (suc k) v w h lt e =
    let parts = kept_parts con boxes x v (values_from n (v +ℤ pos 1)) h in
    row_kept con boxes x n k (v +ℤ pos 1) w parts.1 (omega arith) (omega (arith, ints))

-- the values of the first range, and those of the ranges behind it
range_parts : (con : Con) (boxes : Boxes) (x : ℕ) (r : ℤ × ℤ) (rs : Ranges) →
    AreKept con boxes x (values_of (r ∷ rs)) →
    AreKept con boxes x (values_from (width r.0 r.1) r.0) × AreKept con boxes x (values_of rs)
range_parts con boxes x r rs h =
    let first = values_from (width r.0 r.1) r.0 in
    let whole = none_append con boxes x first (values_of rs) in
    and_parts (none_refutes con boxes x first) (none_refutes con boxes x (values_of rs))
    (sym whole ∙ h)

low_kept : (con : Con) (boxes : Boxes) (x : ℕ) (s : Ranges) → is_nil s ≡ false →
    AreKept con boxes x (values_of s) → IsKept con boxes x (low_of s)
low_kept con boxes x [] n h = absurd cc
low_kept con boxes x (r ∷ rs) n h =
    let first = (range_parts con boxes x r rs h).0 in
    row_kept con boxes x (width r.0 r.1) 0 r.0 r.0 first (omega arith) (omega (arith, ints))

end_kept : (con : Con) (boxes : Boxes) (x : ℕ) (low top : ℤ) (r : ℤ × ℤ) (rs : Ranges) →
    Ascends low top (r ∷ rs) → AreKept con boxes x (values_of (r ∷ rs)) →
    IsKept con boxes x (high_from r.1 rs)
end_kept con boxes x low top r [] f h =
    let order = f.1 in
    let first = (range_parts con boxes x r [] h).0 in
    let steps = unsigned_abs (r.1 -ℤ r.0) in
    row_kept con boxes x (width r.0 r.1) steps r.0 r.1 first (omega arith) (omega (arith, ints))
end_kept con boxes x low top r (q ∷ rs) f h =
    let rest = (range_parts con boxes x r (q ∷ rs) h).1 in
    end_kept con boxes x (r.1 +ℤ pos 2) top q rs f.2 rest

high_kept : (con : Con) (boxes : Boxes) (x : ℕ) (s : Ranges) → IsValid s → is_nil s ≡ false →
    AreKept con boxes x (values_of s) → IsKept con boxes x (high_of s)
high_kept con boxes x [] f n h = absurd cc
high_kept con boxes x (r ∷ rs) f n h = end_kept con boxes x _ _ r rs f h

-- ---- all values or the ends

-- neither end of the set, alone in the box of x, refutes the constraint
pub record AreEndsKept (con : Con) (boxes : Boxes) (x : ℕ) (s : Ranges) : Type 0 where
  pub low : IsKept con boxes x (low_of s)
  pub high : IsKept con boxes x (high_of s)

few_ends : (con : Con) (boxes : Boxes) (x : ℕ) (s : Ranges) → IsValid s → is_nil s ≡ false →
    AreKept con boxes x (values_of s) → AreEndsKept con boxes x s
few_ends con boxes x s f n h =
    record { low = low_kept con boxes x s n h; high = high_kept con boxes x s f n h }

many_ends : (con : Con) (boxes : Boxes) (x : ℕ) (s : Ranges) →
    AreKept con boxes x (low_of s ∷ high_of s ∷ []) → AreEndsKept con boxes x s
many_ends con boxes x s h =
    let parts = kept_parts con boxes x (low_of s) (high_of s ∷ []) h in
    record { low = parts.0; high = (kept_parts con boxes x (high_of s) [] parts.1).0 }

probed_ends : (con : Con) (boxes : Boxes) (x : ℕ) (s : Ranges) → IsValid s → is_nil s ≡ false →
    AreKept con boxes x (probed s) → AreEndsKept con boxes x s
probed_ends con boxes x s f n h =
    elim (cases_lt 64 (count_of s)) [
      | inl more ↦
          let same = sym (many_probed s (λ k. omega arith)) in
          many_ends con boxes x s (subst (λ (vs : List ℤ). AreKept con boxes x vs) same h)
      | inr few ↦
          let same = sym (few_probed s few) in
          few_ends con boxes x s f n (subst (λ (vs : List ℤ). AreKept con boxes x vs) same h)
    ]

-- ---- what a quiet constraint says

record IsQuiet (con : Con) (boxes : Boxes) : Type 0 where
  kept : refuted con boxes ≡ false
  probes : quiet_at con boxes (vars_of con) ≡ true

quiet_parts : (con : Con) (boxes : Boxes) → quiet con boxes ≡ true → IsQuiet con boxes
unfolding quiet
quiet_parts con boxes h =
    let parts = and_parts (not (refuted con boxes)) (quiet_at con boxes (vars_of con)) h in
    record { kept = not-true (refuted con boxes) parts.0; probes = parts.1 }

pub quiet_not_refuted : (con : Con) (boxes : Boxes) → quiet con boxes ≡ true →
    refuted con boxes ≡ false
quiet_not_refuted con boxes h = (quiet_parts con boxes h).kept

-- of the variable that a quiet constraint names first
pub quiet_ends : (con : Con) (boxes : Boxes) (x : ℕ) (xs : List ℕ) → vars_of con ≡ x ∷ xs →
    IsValid (box_of boxes x) → is_nil (box_of boxes x) ≡ false → quiet con boxes ≡ true →
    AreEndsKept con boxes x (box_of boxes x)
quiet_ends con boxes x xs e f n h =
    let probes = (quiet_parts con boxes h).probes in
    let all = subst (λ (ys : List ℕ). quiet_at con boxes ys ≡ true) e probes in
    let first = none_refutes con boxes x (probed (box_of boxes x)) in
    let parts = and_parts first (quiet_at con boxes xs) all in
    probed_ends con boxes x (box_of boxes x) f n parts.0
