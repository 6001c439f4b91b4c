-- How many points boxes have, and what prunings and cuts leave of them.
use Rattle.std.proofs.Common.{◌≡◌, ℕ, zero, suc, ◌+◌, ◌*◌, ◌<◌, ◌≤◌, true, false, not, [], ◌∷◌, length, refl, sym, ap, ◌∙◌, arith, inl, inr, slice_set, mul-zero}
use Rattle.std.proofs.Math.Nat.{mul_assoc, mul_comm, mul-le-mul_right, one-le-mul, suc-mul, add-mul}
use Rattle.std.proofs.lemmas.Bool.{and_parts, cases_lt, not-true}
use Rattle.signed_clause.specs.Ranges.{Ranges, IsValid, is_nil, count_of}
use Rattle.signed_clause.specs.SetAlgebra.{is_disjoint, is_within, meet, less}
use Rattle.signed_clause.specs.Clauses.{Boxes, box_of, AreValid}
use Rattle.signed_clause.proofs.CountLaws.{count-part, count-beside, count-meet-le, count-some}
use Rattle.ground_form.specs.Solutions.{volume}
use Rattle.run_law.specs.Replay.{none_empty}

swapped : (a b c : ℕ) → a * (b * c) ≡ b * (a * c)
swapped a b c = sym (mul_assoc a b c) ∙ ap (λ z. z * c) (mul_comm a b) ∙ mul_assoc b a c

-- the points of the first n boxes but that of x
unfoldable others : ℕ → Boxes → ℕ → ℕ
others zero boxes x = 1
others (suc n) [] x = 1
others (suc n) (b ∷ bs) zero = volume n bs
others (suc n) (b ∷ bs) (suc x) = count_of b * others n bs x

volume-split : (n : ℕ) (boxes : Boxes) (x : ℕ) → x < n → x < length boxes →
    volume n boxes ≡ count_of (box_of boxes x) * others n boxes x
unfolding others
volume-split zero boxes x h k = absurd (omega arith)
volume-split (suc n) [] x h k = absurd (omega arith)
volume-split (suc n) (b ∷ bs) zero h k = refl
volume-split (suc n) (b ∷ bs) (suc x) h k =
    let e = volume-split n bs x (omega arith) (omega arith) in
    rw e (swapped (count_of b) (count_of (box_of bs x)) (others n bs x))

volume-set : (n : ℕ) (boxes : Boxes) (x : ℕ) (s : Ranges) → x < n → x < length boxes →
    volume n (slice_set boxes x s) ≡ count_of s * others n boxes x
unfolding others
volume-set zero boxes x s h k = absurd (omega arith)
volume-set (suc n) [] x s h k = absurd (omega arith)
volume-set (suc n) (b ∷ bs) zero s h k = refl
volume-set (suc n) (b ∷ bs) (suc x) s h k =
    let e = volume-set n bs x s (omega arith) (omega arith) in
    rw e (swapped (count_of b) (count_of s) (others n bs x))

-- a box that isn't among the first n doesn't count
volume-beyond : (n : ℕ) (boxes : Boxes) (x : ℕ) (s : Ranges) → n ≤ x →
    volume n (slice_set boxes x s) ≡ volume n boxes
volume-beyond zero boxes x s h = refl
volume-beyond (suc n) [] x s h = refl
volume-beyond (suc n) (b ∷ bs) zero s h = absurd (omega arith)
volume-beyond (suc n) (b ∷ bs) (suc x) s h =
    ap (λ z. count_of b * z) (volume-beyond n bs x s (omega arith))

-- boxes with values have a point
pub volume-some : (n : ℕ) (boxes : Boxes) → none_empty boxes ≡ true → 1 ≤ volume n boxes
volume-some zero boxes h = omega arith
volume-some (suc n) [] h = omega arith
volume-some (suc n) (b ∷ bs) h =
    let p = and_parts (not (is_nil b)) (none_empty bs) h in
    one-le-mul (count-some b (not-true (is_nil b) p.0)) (volume-some n bs p.1)

positive_right : (a b : ℕ) → 1 ≤ a * b → 1 ≤ b
positive_right a zero h = let e = mul-zero a in absurd (omega (arith, e))
positive_right a (suc b) h = omega arith

-- ---- prunings

-- a pruning adds no point
pub prune_adds_none : (n : ℕ) (boxes : Boxes) (x : ℕ) (s : Ranges) → AreValid boxes → IsValid s →
    x < length boxes →
    volume n (slice_set boxes x (meet s (box_of boxes x))) ≤ volume n boxes
prune_adds_none n boxes x s a v lt =
    elim (cases_lt x n) [
      | inl below ↦
          let cut = volume-set n boxes x (meet s (box_of boxes x)) below lt in
          let whole = volume-split n boxes x below lt in
          let le = mul-le-mul_right (others n boxes x) (count-meet-le s (box_of boxes x) v (a x)) in
          omega arith
      | inr beyond ↦
          let same = volume-beyond n boxes x (meet s (box_of boxes x)) beyond in omega arith
    ]

-- and where it leaves values, it leaves a point
pub prune_leaves_some : (n : ℕ) (boxes : Boxes) (x : ℕ) (s : Ranges) → x < length boxes →
    is_disjoint s (box_of boxes x) ≡ false → 1 ≤ volume n boxes →
    1 ≤ volume n (slice_set boxes x (meet s (box_of boxes x)))
prune_leaves_some n boxes x s lt h k =
    elim (cases_lt x n) [
      | inl below ↦
          let cut = volume-set n boxes x (meet s (box_of boxes x)) below lt in
          let whole = volume-split n boxes x below lt in
          let rest : 1 ≤ others n boxes x =
          positive_right (count_of (box_of boxes x)) (others n boxes x) (omega arith) in
          let one = one-le-mul (count-some (meet s (box_of boxes x)) h) rest in
          omega arith
      | inr beyond ↦
          let same = volume-beyond n boxes x (meet s (box_of boxes x)) beyond in omega arith
    ]

-- ---- cuts

-- the boxes are those below, where one of the first n is cut to a proper part of it
pub record IsCut (n : ℕ) (below first : Boxes) : Type 0 where
  pub var : ℕ
  pub half : Ranges
  pub searched : var < n
  pub exists : var < length below
  pub valid : IsValid half
  pub some : is_nil half ≡ false
  pub part : is_within half (box_of below var) ≡ true
  pub proper : is_within (box_of below var) half ≡ false
  pub is : first ≡ slice_set below var half

-- a cut leaves some points and takes some away
pub cut_volume : (n : ℕ) (below first : Boxes) → AreValid below → 1 ≤ volume n below →
    IsCut n below first → (1 ≤ volume n first) × (volume n first < volume n below)
cut_volume n below first a k c =
    let box = box_of below c.var in
    let rest = others n below c.var in
    let whole = volume-split n below c.var c.searched c.exists in
    let cut = volume-set n below c.var c.half c.searched c.exists in
    let part = count-part c.half box c.valid (a c.var) c.part in
    let some = count-some c.half c.some in
    let lacks = count-some (less box c.half) c.proper in
    let some_rest : 1 ≤ rest = positive_right (count_of box) rest (omega arith) in
    let one = one-le-mul some some_rest in
    let fewer : suc (count_of c.half) ≤ count_of box = omega arith in
    let le = mul-le-mul_right rest fewer in
    let e : suc (count_of c.half) * rest ≡ count_of c.half * rest + rest =
    suc-mul (count_of c.half) rest in
    let is : volume n first ≡ volume n (slice_set below c.var c.half) = ap (volume n) c.is in
    (omega arith, omega arith)

-- a pruning of the cut box by a set without a value of the half fits beside the cut
pub beside_volume : (n : ℕ) (below first : Boxes) (s : Ranges) → AreValid below →
    (c : IsCut n below first) → IsValid s → is_disjoint s c.half ≡ true →
    volume n (slice_set below c.var (meet s (box_of below c.var))) + volume n first
    ≤ volume n below
beside_volume n below first s a c v h =
    let box = box_of below c.var in
    let rest = others n below c.var in
    let whole = volume-split n below c.var c.searched c.exists in
    let cut = volume-set n below c.var c.half c.searched c.exists in
    let prune = volume-set n below c.var (meet s box) c.searched c.exists in
    let fits = count-beside s c.half box v c.valid (a c.var) c.part h in
    let le = mul-le-mul_right rest fits in
    let e : (count_of (meet s box) + count_of c.half) * rest
    ≡ count_of (meet s box) * rest + count_of c.half * rest =
    add-mul (count_of (meet s box)) (count_of c.half) rest in
    let is : volume n first ≡ volume n (slice_set below c.var c.half) = ap (volume n) c.is in
    omega arith
