-- When a constraint is quiet: where none of its boxes is empty, and neither the boxes nor any value
-- alone in one of them excludes it.
use Rattle.std.proofs.Common.{◌≡◌, ℕ, zero, suc, ◌<◌, Bool, true, false, not, ◌&&◌, ◌||◌, List, [], ◌∷◌, ◌++◌, ℤ, pos, ◌+ℤ◌, ◌≤ℤ◌, ◌<ℤ◌, length, All, refl, arith, inl, inr, subst, sym}
use Rattle.std.proofs.lemmas.Int.{ints}
use Rattle.std.proofs.lemmas.Bool.{cases_eq, cases_lt, and_from}
use Rattle.signed_clause.specs.Ranges.{Ranges, has, is_nil, count_of, IsValid, Ascends}
use Rattle.signed_clause.specs.Clauses.{Boxes, box_of}
use Rattle.ground_form.specs.declared.con.Con.{Con}
use Rattle.ground_form.specs.Meaning.{vars_of}
use Rattle.ground_form.specs.Bounds.{low_of, high_of}
use Rattle.box_rules.specs.Refuted.{width, some_empty, excluded, refuted}
use Rattle.box_view.specs.Views.{fixing}
use Rattle.box_rules.specs.Quiet.{values_from, values_of, probed, none_refutes, quiet_at, quiet}
use Rattle.box_view.proofs.EndLaws.{AreSets, has_low, has_high}
use Rattle.box_view.proofs.SetLaws.{fixing_same, fixing_other}
use Rattle.box_rules.proofs.QuietLaws.{few_probed, many_probed}

-- ---- the probed values are values

abbrev pub Each : (ℤ → Type 0) → List ℤ → Type 0
Each P [] = Unit {0}
Each P (v ∷ vs) = P v × Each P vs

each_append : (P : ℤ → Type 0) (vs ws : List ℤ) → Each P vs → Each P ws → Each P (vs ++ ws)
each_append P [] ws h k = k
each_append P (v ∷ vs) ws h k = (h.0, each_append P vs ws h.1 k)

each_from : (P : ℤ → Type 0) (n : ℕ) (v : ℤ) → ((w : ℤ) → v ≤ℤ w → w <ℤ (v +ℤ pos n) → P w) → Each P (values_from n v)
each_from P zero v h = tt
each_from P (suc n) v h =
    (h v (omega (arith, ints)) (omega (arith, ints)), each_from P n (v +ℤ pos 1) (λ w a b. h w (omega (arith, ints)) (omega (arith, ints))))

in_first : (r : ℤ × ℤ) (rs : Ranges) (w : ℤ) → r.0 ≤ℤ r.1 → r.0 ≤ℤ w → w <ℤ (r.0 +ℤ pos (width r.0 r.1)) → has (r ∷ rs) w ≡ true
in_first r rs w o h k = let le : w ≤ℤ r.1 = omega (arith, ints) in grind (arith, ints)

in_later : (r : ℤ × ℤ) (rs : Ranges) (w : ℤ) → has rs w ≡ true → has (r ∷ rs) w ≡ true
in_later r rs w h = grind arith

each_value : (P : ℤ → Type 0) (low top : ℤ) (rs : Ranges) → Ascends low top rs → ((v : ℤ) → has rs v ≡ true → P v) → Each P (values_of rs)
each_value P low top [] s h = tt
each_value P low top (r ∷ rs) s h =
    each_append P (values_from (width r.0 r.1) r.0) (values_of rs)
    (each_from P (width r.0 r.1) r.0 (λ w a b. h w (in_first r rs w s.1 a b)))
    (each_value P (r.1 +ℤ pos 2) top rs s.2 (λ v k. h v (in_later r rs v k)))

pub each_probed : (P : ℤ → Type 0) (s : Ranges) → IsValid s → is_nil s ≡ false → ((v : ℤ) → has s v ≡ true → P v) → Each P (probed s)
each_probed P s f n h =
    elim (cases_lt 64 (count_of s)) [
      | inl more ↦ subst (λ (vs : List ℤ). Each P vs) (many_probed s (λ k. omega arith)) (h (low_of s) (has_low s f n), (h (high_of s) (has_high s f n), tt))
      | inr few ↦ subst (λ (vs : List ℤ). Each P vs) (few_probed s few) (each_value P _ _ s f h)
    ]

-- ---- boxes of which none is empty

abbrev pub AreSome : ℕ → Boxes → Type 0
AreSome n boxes = (x : ℕ) → x < n → is_nil (box_of boxes x) ≡ false

none_empty : (xs : List ℕ) (n : ℕ) (boxes : Boxes) → All (λ x. x < n) xs → AreSome n boxes → some_empty xs boxes ≡ false
none_empty [] n boxes h s = refl
none_empty (x ∷ xs) n boxes h s =
    let this = s x (h 0 0 (omega arith)) in let more = none_empty xs n boxes (λ k d lt. h (suc k) d (omega arith)) s in rw (this, more) refl

some_fixing : (n : ℕ) (boxes : Boxes) (x : ℕ) (v : ℤ) → x < length boxes → AreSome n boxes → AreSome n (fixing boxes x v)
some_fixing n boxes x v lt s y h =
    elim (cases_eq y x) [
      | inl e ↦ subst (λ (z : ℕ). is_nil (box_of (fixing boxes x v) z) ≡ false) (sym e) (subst (λ (b : Ranges). is_nil b ≡ false) (sym (fixing_same boxes x v lt)) refl)
      | inr e ↦ subst (λ (b : Ranges). is_nil b ≡ false) (sym (fixing_other boxes x y v e)) (s y h)
    ]

neither : (e x : Bool) → e ≡ false → x ≡ false → (e || x) ≡ false
neither e x h k = rw (h, k) refl

not_then : (r m : Bool) → r ≡ false → m ≡ true → (not r && m) ≡ true
not_then r m h k = rw (h, k) refl

-- ---- quietness

none_from : (con : Con) (boxes : Boxes) (x : ℕ) (vs : List ℤ) → Each (λ v. refuted con (fixing boxes x v) ≡ false) vs → none_refutes con boxes x vs ≡ true
none_from con boxes x [] h = refl
none_from con boxes x (v ∷ vs) h = not_then (refuted con (fixing boxes x v)) (none_refutes con boxes x vs) h.0 (none_from con boxes x vs h.1)

quiet_at_from : (con : Con) (boxes : Boxes) (xs : List ℕ) → All (λ x. x < length boxes) xs →
    ((x : ℕ) → x < length boxes → Each (λ v. refuted con (fixing boxes x v) ≡ false) (probed (box_of boxes x))) → quiet_at con boxes xs ≡ true
quiet_at_from con boxes [] n h = refl
quiet_at_from con boxes (x ∷ xs) n h =
    and_from (none_refutes con boxes x (probed (box_of boxes x))) (quiet_at con boxes xs) (none_from con boxes x (probed (box_of boxes x)) (h x (n 0 0 (omega arith))))
    (quiet_at_from con boxes xs (λ k d lt. n (suc k) d (omega arith)) h)

quiet_is : (con : Con) (boxes : Boxes) → refuted con boxes ≡ false → quiet_at con boxes (vars_of con) ≡ true → quiet con boxes ≡ true
unfolding quiet
quiet_is con boxes h k = not_then (refuted con boxes) (quiet_at con boxes (vars_of con)) h k

pub each_then : (P Q : ℤ → Type 0) (vs : List ℤ) → ((v : ℤ) → P v → Q v) → Each P vs → Each Q vs
each_then P Q [] f h = tt
each_then P Q (v ∷ vs) f h = (f v h.0, each_then P Q vs f h.1)

pub quiet_probed : (con : Con) (boxes : Boxes) → All (λ x. x < length boxes) (vars_of con) → AreSome (length boxes) boxes → excluded con boxes ≡ false →
    ((x : ℕ) → x < length boxes → Each (λ v. excluded con (fixing boxes x v) ≡ false) (probed (box_of boxes x))) → quiet con boxes ≡ true
quiet_probed con boxes n f e h =
    quiet_is con boxes (neither (some_empty (vars_of con) boxes) (excluded con boxes) (none_empty (vars_of con) (length boxes) boxes n f) e)
    (quiet_at_from con boxes (vars_of con) n (λ x lt. each_then (λ v. excluded con (fixing boxes x v) ≡ false) (λ v. refuted con (fixing boxes x v) ≡ false) (probed (box_of boxes x))
    (λ v k. neither (some_empty (vars_of con) (fixing boxes x v)) (excluded con (fixing boxes x v)) (none_empty (vars_of con) (length boxes) (fixing boxes x v) n (some_fixing (length boxes) boxes x v lt f)) k) (h x lt)))

pub quiet_from : (con : Con) (boxes : Boxes) → AreSets boxes → All (λ x. x < length boxes) (vars_of con) → AreSome (length boxes) boxes →
    excluded con boxes ≡ false → ((x : ℕ) (v : ℤ) → x < length boxes → has (box_of boxes x) v ≡ true → excluded con (fixing boxes x v) ≡ false) → quiet con boxes ≡ true
quiet_from con boxes s n f e h =
    quiet_is con boxes (neither (some_empty (vars_of con) boxes) (excluded con boxes) (none_empty (vars_of con) (length boxes) boxes n f) e)
    (quiet_at_from con boxes (vars_of con) n (λ x lt. each_probed (λ v. refuted con (fixing boxes x v) ≡ false) (box_of boxes x) (s x) (f x lt)
    (λ v k. neither (some_empty (vars_of con) (fixing boxes x v)) (excluded con (fixing boxes x v))
    (none_empty (vars_of con) (length boxes) (fixing boxes x v) n (some_fixing (length boxes) boxes x v lt f)) (h x v lt k))))
