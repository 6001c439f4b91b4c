-- What merged and scaled lists add up to, at values and over boxes.
use Rattle.std.proofs.Common.{◌≡◌, ◌≢◌, ℕ, zero, suc, ◌<◌, ◌≤◌, Bool, true, false, cond, All, List, [], ◌∷◌, ℤ, pos, ◌+ℤ◌, ◌*ℤ◌, length, refl, sym, ap, ◌∙◌, subst, arith}
use Rattle.std.specs.Prelude.{nat_lt}
use Rattle.std.specs.Ordering.{int_eq}
use Rattle.std.proofs.lemmas.Int.{ints}
use Rattle.std.proofs.lemmas.Bool.Decides.{nat_tests}
use Rattle.std.proofs.Math.IntN.{zero-*ℤ, *ℤ-zero}
use Rattle.signed_clause.specs.Clauses.{Boxes, box_of}
use Rattle.ground_form.specs.Meaning.{value_of, sum_at}
use Rattle.form_build.specs.Merged.{scaled, with_term, merge_from, merged}
use Rattle.form_build.specs.Sums.{IsOpen, AreTerms}
use Rattle.form_build.proofs.Distributing.{distribute, spread, product_assoc}

-- ---- at values

zero_term : (c v : ℤ) → c ≡ pos 0 → (c *ℤ v) ≡ pos 0
zero_term c v e = ap (λ (z : ℤ). z *ℤ v) e ∙ zero-*ℤ v

with_term_sum : (c : ℤ) (x : ℕ) (ts : List (ℤ × ℕ)) (a : List ℤ) → sum_at (with_term c x ts) a ≡ ((c *ℤ value_of a x) +ℤ sum_at ts a)
with_term_sum c x ts a = by (int_eq c (pos 0)) refl
  where
    by : (b : Bool) → int_eq c (pos 0) ≡ b → sum_at (cond b ts ((c, x) ∷ ts)) a ≡ ((c *ℤ value_of a x) +ℤ sum_at ts a)
    by true e = let is : c ≡ pos 0 = grind (arith, ints) in let nil = zero_term c (value_of a x) is in omega (arith, ints)
    by false e = refl

-- the law of `merged` along its first list
abbrev AddsUp : (List (ℤ × ℕ) → List (ℤ × ℕ)) → List (ℤ × ℕ) → List ℤ → Type 0
AddsUp rest ts a = (b : List (ℤ × ℕ)) → sum_at (rest b) a ≡ (sum_at ts a +ℤ sum_at b a)

merge_from_sum : (rest : List (ℤ × ℕ) → List (ℤ × ℕ)) (t : ℤ × ℕ) (ts b : List (ℤ × ℕ)) (a : List ℤ) → AddsUp rest ts a → sum_at (merge_from rest t b) a ≡ (sum_at (t ∷ ts) a +ℤ sum_at b a)
merge_from_sum rest t ts [] a h = let k = h [] in omega (arith, ints, k)
merge_from_sum rest t ts (u ∷ b) a h = by (nat_lt t.1 u.1) (nat_lt u.1 t.1) refl refl (merge_from_sum rest t ts b a h)
  where
    by : (p q : Bool) → nat_lt t.1 u.1 ≡ p → nat_lt u.1 t.1 ≡ q → sum_at (merge_from rest t b) a ≡ (sum_at (t ∷ ts) a +ℤ sum_at b a) → sum_at (cond p (t ∷ rest (u ∷ b)) (cond q (u ∷ merge_from rest t b) (with_term (t.0 +ℤ u.0) t.1 (rest b)))) a ≡ (sum_at (t ∷ ts) a +ℤ sum_at (u ∷ b) a)
    by true q e f g = let k = h (u ∷ b) in omega (arith, ints, k)
    by false true e f g = omega (arith, ints, g)
    by false false e f g =
        let same : u.1 ≡ t.1 = grind (arith, nat_tests) in
        let k = h b in
        let one = with_term_sum (t.0 +ℤ u.0) t.1 (rest b) a in
        let two = distribute t.0 u.0 (value_of a t.1) in
        let three = ap (λ (x : ℕ). u.0 *ℤ value_of a x) same in
        omega (arith, ints, k, one, two, three)

pub merged_sum : (ts us : List (ℤ × ℕ)) (a : List ℤ) → sum_at (merged ts us) a ≡ (sum_at ts a +ℤ sum_at us a)
merged_sum [] us a = omega (arith, ints)
merged_sum (t ∷ ts) us a = merge_from_sum (merged ts) t ts us a (λ b. merged_sum ts b a)

pub scaled_sum : (c : ℤ) (ts : List (ℤ × ℕ)) (a : List ℤ) → sum_at (scaled c ts) a ≡ (c *ℤ sum_at ts a)
scaled_sum c [] a = sym (*ℤ-zero c)
scaled_sum c (t ∷ ts) a =
    let rest = scaled_sum c ts a in
    let first = product_assoc c t.0 (value_of a t.1) in
    let whole = spread c (t.0 *ℤ value_of a t.1) (sum_at ts a) in
    omega (arith, ints, rest, first, whole)

-- ---- in order

terms_from : (boxes : Boxes) (m n : ℕ) (ts : List (ℤ × ℕ)) → m ≤ n → AreTerms boxes n ts → AreTerms boxes m ts
terms_from boxes m n [] h k = tt
terms_from boxes m n (t ∷ ts) h k = (omega (arith, h, k.0), k.1, k.2, k.3, k.4)

with_term_terms : (boxes : Boxes) (n : ℕ) (c : ℤ) (x : ℕ) (ts : List (ℤ × ℕ)) → n ≤ x → x < length boxes → IsOpen (box_of boxes x) → AreTerms boxes (suc x) ts → AreTerms boxes n (with_term c x ts)
with_term_terms boxes n c x ts h there open_box rest = by (int_eq c (pos 0)) refl
  where
    by : (b : Bool) → int_eq c (pos 0) ≡ b → AreTerms boxes n (cond b ts ((c, x) ∷ ts))
    by true e = terms_from boxes n (suc x) ts (omega (arith, h)) rest
    by false e = (h, there, (λ z. absurd (grind (arith, ints))), open_box, rest)

abbrev KeepsTerms : Boxes → (List (ℤ × ℕ) → List (ℤ × ℕ)) → ℕ → Type 0
KeepsTerms boxes rest n = (m : ℕ) → m ≤ n → (b : List (ℤ × ℕ)) → AreTerms boxes m b → AreTerms boxes m (rest b)

merge_from_terms : (boxes : Boxes) (rest : List (ℤ × ℕ) → List (ℤ × ℕ)) (m : ℕ) (t : ℤ × ℕ) (b : List (ℤ × ℕ)) → m ≤ t.1 → t.1 < length boxes → t.0 ≢ pos 0 → IsOpen (box_of boxes t.1) → KeepsTerms boxes rest (suc t.1) → AreTerms boxes m b → AreTerms boxes m (merge_from rest t b)
merge_from_terms boxes rest m t [] h there some open_box keeps k = (h, there, some, open_box, keeps (suc t.1) (omega arith) [] tt)
merge_from_terms boxes rest m t (u ∷ b) h there some open_box keeps k =
    by (nat_lt t.1 u.1) (nat_lt u.1 t.1) refl refl (λ less. merge_from_terms boxes rest (suc u.1) t b less there some open_box keeps k.4)
  where
    by : (p q : Bool) → nat_lt t.1 u.1 ≡ p → nat_lt u.1 t.1 ≡ q → (suc u.1 ≤ t.1 → AreTerms boxes (suc u.1) (merge_from rest t b)) → AreTerms boxes m (cond p (t ∷ rest (u ∷ b)) (cond q (u ∷ merge_from rest t b) (with_term (t.0 +ℤ u.0) t.1 (rest b))))
    by true q e f g = (h, there, some, open_box, keeps (suc t.1) (omega arith) (u ∷ b) (grind (arith, nat_tests), k.1, k.2, k.3, k.4))
    by false true e f g = (k.0, k.1, k.2, k.3, g (grind (arith, nat_tests)))
    by false false e f g =
        let same : u.1 ≡ t.1 = grind (arith, nat_tests) in
        let tail = subst (λ (x : ℕ). AreTerms boxes (suc x) b) same k.4 in
        with_term_terms boxes m (t.0 +ℤ u.0) t.1 (rest b) h there open_box (keeps (suc t.1) (omega arith) b tail)

merged_keeps : (boxes : Boxes) (n : ℕ) (ts : List (ℤ × ℕ)) → AreTerms boxes n ts → KeepsTerms boxes (merged ts) n
merged_keeps boxes n [] h m le b k = k
merged_keeps boxes n (t ∷ ts) h m le b k =
    merge_from_terms boxes (merged ts) m t b (omega (arith, le, h.0)) h.1 h.2 h.3 (merged_keeps boxes (suc t.1) ts h.4) k

pub merged_terms : (boxes : Boxes) (n : ℕ) (ts us : List (ℤ × ℕ)) → AreTerms boxes n ts → AreTerms boxes n us → AreTerms boxes n (merged ts us)
merged_terms boxes n ts us h k = merged_keeps boxes n ts h n (omega arith) us k

-- the variables exist
pub terms_there : (boxes : Boxes) (n : ℕ) (ts : List (ℤ × ℕ)) → AreTerms boxes n ts → All (λ t. t.1 < length boxes) ts
terms_there boxes n [] h k d lt = absurd (omega (arith, lt))
terms_there boxes n (t ∷ ts) h zero d lt = h.1
terms_there boxes n (t ∷ ts) h (suc k) d lt = terms_there boxes (suc t.1) ts h.4 k d (omega (arith, lt))

pub same_there : (boxes : Boxes) (ts us : List (ℤ × ℕ)) → us ≡ ts → AreTerms boxes 0 ts → All (λ t. t.1 < length boxes) us
same_there boxes ts us e h = subst (λ (z : List (ℤ × ℕ)). All (λ t. t.1 < length boxes) z) (sym e) (terms_there boxes 0 ts h)
