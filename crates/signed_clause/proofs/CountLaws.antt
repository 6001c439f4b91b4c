-- How many values sets have.
use Rattle.std.proofs.Common.{◌≡◌, ℕ, suc, ◌+◌, ◌≤◌, true, false, cond, [], ◌∷◌, ℤ, pos, ◌+ℤ◌, ◌-ℤ◌, ◌≤ℤ◌, ◌<ℤ◌, refl, sym, ap, arith, ◌⊎◌, inl, inr, subst, int_le, int_lt, unsigned_abs}
use Rattle.std.specs.Int.{int_max, int_min}
use Rattle.std.proofs.lemmas.Int.{ints, clamps}
use Rattle.signed_clause.specs.Ranges.{Ranges, has, Ascends, IsValid, count_of, is_nil}
use Rattle.signed_clause.specs.SetAlgebra.{piece, meet_from, meet, less_from, less, is_disjoint, is_within}
use Rattle.signed_clause.proofs.RangeLaws.{same_ranges}
use Rattle.signed_clause.proofs.RangeSteps.{IsValid-less, IsValid-meet, has-less_valid, has-meet_valid}
use Rattle.signed_clause.proofs.ClauseLaws.{has_from_within, has_from_disjoint}

-- how many values a range has
abbrev pub width : ℤ → ℤ → ℕ
width low high = cond (int_le low high) (suc (unsigned_abs (high -ℤ low))) 0

count-piece : (low high : ℤ) (rest : Ranges) → count_of (piece low high rest) ≡ width low high + count_of rest
count-piece low high rest = grind (arith, ints)

-- a width as an integer
width_is : (low high : ℤ) → low ≤ℤ (high +ℤ pos 1) → pos (width low high) ≡ (high -ℤ low) +ℤ pos 1
width_is low high h = grind (arith, ints)

width_none : (low high : ℤ) → high <ℤ low → width low high ≡ 0
width_none low high h = grind (arith, ints)

-- the parts of low..high in s and outside it, where s is not past high, with what is left behind s
split_width : (low high x y m : ℤ) → low ≤ℤ high → x ≤ℤ y → m ≡ int_max low x → y <ℤ high →
    width m (int_min high y) + (width low (int_min high (x -ℤ pos 1)) + width (int_max low (y +ℤ pos 1)) high) ≡ width low high
split_width low high x y m h k e l = grind (arith, ints, clamps)

split_last : (low high x y m : ℤ) → low ≤ℤ high → x ≤ℤ y → m ≡ int_max low x → high ≤ℤ y →
    width m (int_min high y) + width low (int_min high (x -ℤ pos 1)) ≡ width low high
split_last low high x y m h k e l = grind (arith, ints, clamps)

-- what a range and the ranges behind it have in the set and outside it
count_from : (meets lesses : Ranges → Ranges) (n : ℕ) (r : ℤ × ℤ) (low low' top' : ℤ) (b : Ranges) →
    ((b : Ranges) (low' : ℤ) → Ascends low' top' b → count_of (meets b) + count_of (lesses b) ≡ n) → count_of (meets []) ≡ 0 →
    low ≤ℤ r.1 → r.0 ≤ℤ low → (low ≡ r.0) ⊎ (low ≤ℤ low') → Ascends low' top' b →
    count_of (meet_from meets r b) + count_of (less_from lesses low r.1 b) ≡ width low r.1 + n
count_from meets lesses n r low low' top' [] rests none h k at sb =
    let both = rests [] low' sb in let p = count-piece low r.1 (lesses []) in omega (arith, p, both)
count_from meets lesses n r low low' top' (s ∷ b) rests none h k at sb =
    let m : int_max r.0 s.0 ≡ int_max low s.0 = elim at [ inl e ↦ ap (λ z. int_max z s.0) (sym e) | inr e ↦ omega (arith, ints, clamps) ] in
    elim (int_lt s.1 r.1) as (λ x. int_lt s.1 r.1 ≡ x → count_of (piece (int_max r.0 s.0) (int_min r.1 s.1) (cond x (meet_from meets r b) (meets (s ∷ b)))) + count_of (piece low (int_min r.1 (s.0 -ℤ pos 1)) (cond x (less_from lesses (int_max low (s.1 +ℤ pos 1)) r.1 b) (lesses (s ∷ b)))) ≡ width low r.1 + n) [
      | true ↦ λ e.
          let lt : s.1 <ℤ r.1 = grind (arith, ints) in
          let w = split_width low r.1 s.0 s.1 (int_max r.0 s.0) h sb.1 m lt in
          let p = count-piece (int_max r.0 s.0) (int_min r.1 s.1) (meet_from meets r b) in
          let q = count-piece low (int_min r.1 (s.0 -ℤ pos 1)) (less_from lesses (int_max low (s.1 +ℤ pos 1)) r.1 b) in
          let next : (int_max low (s.1 +ℤ pos 1) ≡ r.0) ⊎ (int_max low (s.1 +ℤ pos 1) ≤ℤ (s.1 +ℤ pos 2)) =
          elim at [ inl e ↦ grind (arith, ints, clamps) | inr e ↦ inr (omega (arith, ints, clamps)) ] in
          let more = count_from meets lesses n r (int_max low (s.1 +ℤ pos 1)) (s.1 +ℤ pos 2) top' b rests none (omega (arith, ints, clamps)) (omega (arith, ints, clamps)) next sb.2 in
          omega (arith, p, q, w, more)
      | false ↦ λ e.
          let le : r.1 ≤ℤ s.1 = grind (arith, ints) in
          let w = split_last low r.1 s.0 s.1 (int_max r.0 s.0) h sb.1 m le in
          let p = count-piece (int_max r.0 s.0) (int_min r.1 s.1) (meets (s ∷ b)) in
          let q = count-piece low (int_min r.1 (s.0 -ℤ pos 1)) (lesses (s ∷ b)) in
          let both = rests (s ∷ b) low' sb in
          omega (arith, p, q, w, both)
    ] refl

-- a set is what it has in another, and what it has outside
pub count-split : (a b : Ranges) (low top low' top' : ℤ) → Ascends low top a → Ascends low' top' b → count_of (meet a b) + count_of (less a b) ≡ count_of a
count-split [] b low top low' top' sa sb = omega arith
count-split (r ∷ a) b low top low' top' sa sb =
    let none : count_of (meet a []) ≡ 0 = elim a as (λ a. count_of (meet a []) ≡ 0) [ [] ↦ refl | x ∷ xs ↦ refl ] in
    let first = count_from (meet a) (less a) (count_of a) r r.0 low' top' b (λ b low' sb. count-split a b (r.1 +ℤ pos 2) top low' top' sa.2 sb) none sa.1 (omega (arith, ints)) (inl refl) sb in
    let w : width r.0 r.1 ≡ suc (unsigned_abs (r.1 -ℤ r.0)) = grind (arith, ints) in
    omega (arith, first, w)

-- ---- subsets

pub within_from_has : (a b : Ranges) → IsValid a → IsValid b → ((v : ℤ) → has a v ≡ true → has b v ≡ true) → is_within a b ≡ true
within_from_has a b s t h =
    let e : less a b ≡ [] = same_ranges (less a b) [] _ _ (pos 0) (pos 0) (IsValid-less a b s t) (omega (arith, ints)) (λ v. let law = has-less_valid a b s t v in let k = h v in grind arith) in
    rw e refl

-- a part of a set, and the rest
pub count-part : (a b : Ranges) → IsValid a → IsValid b → is_within a b ≡ true → count_of a + count_of (less b a) ≡ count_of b
count-part a b s t h =
    let same : meet b a ≡ a = same_ranges (meet b a) a _ _ _ _ (IsValid-meet b a t s) s (λ v. let law = has-meet_valid b a t s v in let k = has_from_within a b v s t h in grind arith) in
    let split = count-split b a _ _ _ _ t s in
    subst (λ (z : Ranges). count_of z + count_of (less b a) ≡ count_of b) same split

-- what a set that misses one half has of the box fits beside that half
pub count-beside : (s half box : Ranges) → IsValid s → IsValid half → IsValid box → is_within half box ≡ true → is_disjoint s half ≡ true → count_of (meet s box) + count_of half ≤ count_of box
count-beside s half box p q r h k =
    let within = within_from_has (meet s box) (less box half) (IsValid-meet s box p r) (IsValid-less box half r q) (λ v e.
    let law = has-meet_valid s box p r v in let law' = has-less_valid box half r q v in
    let no : has half v ≡ true → has s v ≡ false = has_from_disjoint s half v p q k in grind arith) in
    let part = count-part (meet s box) (less box half) (IsValid-meet s box p r) (IsValid-less box half r q) within in
    let whole = count-part half box q r h in
    omega arith

pub count-meet-le : (s box : Ranges) → IsValid s → IsValid box → count_of (meet s box) ≤ count_of box
count-meet-le s box p r =
    let within = within_from_has (meet s box) box (IsValid-meet s box p r) r (λ v e. let law = has-meet_valid s box p r v in grind arith) in
    let part = count-part (meet s box) box (IsValid-meet s box p r) r within in
    omega arith

pub count-some : (a : Ranges) → is_nil a ≡ false → 1 ≤ count_of a
count-some [] h = absurd (cc)
count-some (r ∷ a) h = omega arith
