-- Sums that are added up by halves.
use Rattle.std.proofs.Common.{◌≡◌, ℕ, zero, suc, ◌+◌, ◌-◌, ◌^◌, ◌<◌, ◌≤◌, List, [], ◌∷◌, map, take, drop, length, get_or, ℤ, pos, neg_ℤ, ◌+ℤ◌, ◌*ℤ◌, ◌≤ℤ◌, refl, sym, ap, ◌∙◌, subst, arith}
use Rattle.std.specs.List.{All}
use Rattle.std.proofs.lemmas.Int.{ints}
use Rattle.std.proofs.lemmas.List.Elements.{All-weaker, All-take, All-drop, All-same, All-head}
use Rattle.std.proofs.Math.IntN.{suc_ℤ-*ℤ, zero-*ℤ}
use Rattle.signed_clause.specs.Clauses.{Boxes}
use Rattle.ground_form.specs.declared.ground.Ground.{Ground}
use Rattle.form_build.specs.declared.form.Linear.{Linear}
use Rattle.form_build.specs.Forms.{linear_at}
use Rattle.form_build.specs.Sums.{least_linear, greatest_linear, IsLinear, LiesFrom, IsSum}
use Rattle.form_build.specs.Worlds.{Grows}
use Rattle.form_build.proofs.Distributing.{distribute}
use Rattle.form_build.proofs.Keeping.{sum_kept}
use Rattle.form_build.proofs.Linears.{sum_wider}
use Rattle.conf_eval.specs.Meaning.{total}
use Rattle.quantifier_forms.specs.Totals.{AreSummands}

-- ---- n times a number

pub multiple_below : (n : ℕ) (v : ℤ) → v ≤ℤ pos 0 → (pos n *ℤ v) ≤ℤ pos 0
multiple_below zero v h = let nil = zero-*ℤ v in omega (arith, ints, nil)
multiple_below (suc n) v h =
    let step : (pos (suc n) *ℤ v) ≡ ((pos n *ℤ v) +ℤ v) = suc_ℤ-*ℤ (pos n) v in
    let rest = multiple_below n v h in
    omega (arith, ints, step, rest, h)

pub multiple_above : (n : ℕ) (v : ℤ) → pos 0 ≤ℤ v → pos 0 ≤ℤ (pos n *ℤ v)
multiple_above zero v h = let nil = zero-*ℤ v in omega (arith, ints, nil)
multiple_above (suc n) v h =
    let step : (pos (suc n) *ℤ v) ≡ ((pos n *ℤ v) +ℤ v) = suc_ℤ-*ℤ (pos n) v in
    let rest = multiple_above n v h in
    omega (arith, ints, step, rest, h)

pub once : (v : ℤ) → (pos 1 *ℤ v) ≡ v
once v =
    let step : (pos 1 *ℤ v) ≡ ((pos 0 *ℤ v) +ℤ v) = suc_ℤ-*ℤ (pos 0) v in
    let nil = zero-*ℤ v in
    omega (arith, ints, step, nil)

-- so many times and so many times more
pub times_more : (m n k : ℕ) (v : ℤ) → m + n ≡ k → ((pos m *ℤ v) +ℤ (pos n *ℤ v)) ≡ (pos k *ℤ v)
times_more m n k v e =
    let sum : pos m +ℤ pos n ≡ pos k = omega (arith, ints, e) in
    sym (distribute (pos m) (pos n) v) ∙ ap (λ (z : ℤ). z *ℤ v) sum

-- fewer times a number that isn't above 0 is no less
pub fewer_below : (m n : ℕ) (v : ℤ) → m ≤ n → v ≤ℤ pos 0 → (pos n *ℤ v) ≤ℤ (pos m *ℤ v)
fewer_below m n v le h =
    let sum = times_more m (n - m) n v (omega (arith, le)) in
    let rest = multiple_below (n - m) v h in
    omega (arith, ints, sum, rest)

pub fewer_above : (m n : ℕ) (v : ℤ) → m ≤ n → pos 0 ≤ℤ v → (pos m *ℤ v) ≤ℤ (pos n *ℤ v)
fewer_above m n v le h =
    let sum = times_more m (n - m) n v (omega (arith, le)) in
    let rest = multiple_above (n - m) v h in
    omega (arith, ints, sum, rest)

-- ---- values

halves : (f : Linear → ℤ) (k : ℕ) (fs : List Linear) → (total (map f (take k fs)) +ℤ total (map f (drop k fs))) ≡ total (map f fs)
halves f zero fs = omega (arith, ints)
halves f (suc k) [] = refl
halves f (suc k) (g ∷ fs) = let rest = halves f k fs in omega (arith, ints, rest)

-- the value of the sum of both halves
pub halves_value : (a : List ℤ) (k : ℕ) (fs front back : List Linear) (f g r : Linear) → front ≡ take k fs → back ≡ drop k fs → linear_at f a ≡ total (map (λ h. linear_at h a) front) → linear_at g a ≡ total (map (λ h. linear_at h a) back) → linear_at r a ≡ (linear_at f a +ℤ linear_at g a) → linear_at r a ≡ total (map (λ h. linear_at h a) fs)
halves_value a k fs front back f g r e h left right both =
    let one = ap (λ (gs : List Linear). total (map (λ o. linear_at o a) gs)) e in
    let two = ap (λ (gs : List Linear). total (map (λ o. linear_at o a) gs)) h in
    let all = halves (λ o. linear_at o a) k fs in
    omega (arith, ints, one, two, all, left, right, both)

-- ---- bounds

pub sums_kept : (low high : ℤ) (old new : Ground) (fs : List Linear) → Grows old new → All (IsSum old.domains low high) fs → All (IsSum new.domains low high) fs
sums_kept low high old new fs g h = All-weaker (IsSum old.domains low high) (IsSum new.domains low high) (λ f s. sum_kept low high old new f g s) fs h

pub front_sums : (boxes : Boxes) (low high : ℤ) (k : ℕ) (fs gs : List Linear) → gs ≡ take k fs → All (IsSum boxes low high) fs → All (IsSum boxes low high) gs
front_sums boxes low high k fs gs e h = All-same (IsSum boxes low high) gs (take k fs) e (All-take (IsSum boxes low high) k fs h)

pub back_sums : (boxes : Boxes) (low high : ℤ) (k : ℕ) (fs gs : List Linear) → gs ≡ drop k fs → All (IsSum boxes low high) fs → All (IsSum boxes low high) gs
back_sums boxes low high k fs gs e h = All-same (IsSum boxes low high) gs (drop k fs) e (All-drop (IsSum boxes low high) k fs h)

fewer : (boxes : Boxes) (fs gs : List Linear) (h : AreSummands boxes fs) → length gs ≤ length fs → All (IsSum boxes h.low h.high) gs → AreSummands boxes gs
fewer boxes fs gs h le all =
    let low = fewer_below (length gs) (length fs) h.low le h.below in
    let high = fewer_above (length gs) (length fs) h.high le h.above in
    record {
      low = h.low;
      high = h.high;
      below = h.below;
      above = h.above;
      sums = all;
      narrow_low = omega (arith, ints, low, h.narrow_low);
      narrow_high = omega (arith, ints, high, h.narrow_high);
    }

pub front_summands : (boxes : Boxes) (k : ℕ) (fs gs : List Linear) → gs ≡ take k fs → length gs ≤ length fs → AreSummands boxes fs → AreSummands boxes gs
front_summands boxes k fs gs e le h = fewer boxes fs gs h le (front_sums boxes h.low h.high k fs gs e h.sums)

pub back_summands : (boxes : Boxes) (k : ℕ) (fs gs : List Linear) → gs ≡ drop k fs → length gs ≤ length fs → AreSummands boxes fs → AreSummands boxes gs
back_summands boxes k fs gs e le h = fewer boxes fs gs h le (back_sums boxes h.low h.high k fs gs e h.sums)

pub summands_kept : (old new : Ground) (fs : List Linear) → Grows old new → AreSummands old.domains fs → AreSummands new.domains fs
summands_kept old new fs g h = record {
  low = h.low;
  high = h.high;
  below = h.below;
  above = h.above;
  sums = sums_kept h.low h.high old new fs g h.sums;
  narrow_low = h.narrow_low;
  narrow_high = h.narrow_high;
}

-- the two halves of a list of sums, each added up
pub record AreHalves (old new : Boxes) (fs front back : List Linear) (f g : Linear) : Type 0 where
  pub left : (low high : ℤ) → All (IsSum old low high) fs → IsSum new (pos (length front) *ℤ low) (pos (length front) *ℤ high) f
  pub right : (low high : ℤ) → All (IsSum old low high) fs → IsSum new (pos (length back) *ℤ low) (pos (length back) *ℤ high) g
  pub all : length front + length back ≡ length fs

pub made_halves : (first then' last : Ground) (k : ℕ) (fs front back : List Linear) (f g : Linear) → front ≡ take k fs → back ≡ drop k fs → length front + length back ≡ length fs → Grows first then' → Grows then' last →
    ((low high : ℤ) → All (IsSum first.domains low high) front → IsSum then'.domains (pos (length front) *ℤ low) (pos (length front) *ℤ high) f) →
    ((low high : ℤ) → All (IsSum then'.domains low high) back → IsSum last.domains (pos (length back) *ℤ low) (pos (length back) *ℤ high) g) →
    AreHalves first.domains last.domains fs front back f g
made_halves first then' last k fs front back f g e h size one two left right = record {
  left = λ low high s.
      sum_kept (pos (length front) *ℤ low) (pos (length front) *ℤ high) then' last f two (left low high (front_sums first.domains low high k fs front e s));
  right = λ low high s. right low high (sums_kept low high first then' back one (back_sums first.domains low high k fs back h s));
  all = size;
}

module _ (old new : Boxes) (fs front back : List Linear) (f g : Linear) (h : AreHalves old new fs front back f g) where
  pub left_linear : AreSummands old fs → IsLinear (2 ^ 58) new f
  left_linear s = (h.left s.low s.high s.sums).linear

  pub right_linear : AreSummands old fs → IsLinear (2 ^ 58) new g
  right_linear s = (h.right s.low s.high s.sums).linear

  pub halves_low : AreSummands old fs → neg_ℤ (pos (2 ^ 50)) ≤ℤ (least_linear f new +ℤ least_linear g new)
  halves_low s =
      let left = h.left s.low s.high s.sums in
      let right = h.right s.low s.high s.sums in
      let sum = times_more (length front) (length back) (length fs) s.low h.all in
      omega (arith, ints, left.lies.low_is, right.lies.low_is, sum, s.narrow_low)

  pub halves_high : AreSummands old fs → (greatest_linear f new +ℤ greatest_linear g new) ≤ℤ pos (2 ^ 50)
  halves_high s =
      let left = h.left s.low s.high s.sums in
      let right = h.right s.low s.high s.sums in
      let sum = times_more (length front) (length back) (length fs) s.high h.all in
      omega (arith, ints, left.lies.high_is, right.lies.high_is, sum, s.narrow_high)

  pub halves_sum : (last : Boxes) (r : Linear) → IsSum last (least_linear f new +ℤ least_linear g new) (greatest_linear f new +ℤ greatest_linear g new) r → (low high : ℤ) → All (IsSum old low high) fs → IsSum last (pos (length fs) *ℤ low) (pos (length fs) *ℤ high) r
  halves_sum last r both low high s =
      let left = h.left low high s in
      let right = h.right low high s in
      let below = times_more (length front) (length back) (length fs) low h.all in
      let above = times_more (length front) (length back) (length fs) high h.all in
      sum_wider last _ _ (pos (length fs) *ℤ low) (pos (length fs) *ℤ high) r
      (omega (arith, ints, left.lies.low_is, right.lies.low_is, below))
      (omega (arith, ints, left.lies.high_is, right.lies.high_is, above))
      both

-- ---- no sum, and one

pub none_sum : (boxes : Boxes) (fs : List Linear) (r : Linear) → length fs < 1 → IsLinear 0 boxes r → LiesFrom (pos 0) (pos 0) boxes r → (low high : ℤ) → All (IsSum boxes low high) fs → IsSum boxes (pos (length fs) *ℤ low) (pos (length fs) *ℤ high) r
none_sum boxes [] r lt linear lies low high s =
    let below = zero-*ℤ low in
    let above = zero-*ℤ high in
    record {
      linear = record { terms = linear.terms; bounded = omega (arith, linear.bounded) };
      lies = record { low_is = omega (arith, ints, below, lies.low_is); high_is = omega (arith, ints, above, lies.high_is) };
    }
none_sum boxes (f ∷ fs) r lt linear lies low high s = absurd (omega (arith, lt))

pub one_value : (fs : List Linear) (f r : Linear) (a : List ℤ) → 1 ≤ length fs → length fs < 2 → f ≡ get_or fs 0 f → r ≡ f → linear_at r a ≡ total (map (λ g. linear_at g a) fs)
one_value [] f r a some lt e h = absurd (omega (arith, some))
one_value (g ∷ []) f r a some lt e h =
    let is = ap (λ (o : Linear). linear_at o a) (h ∙ e) in
    omega (arith, ints, is)
one_value (g ∷ o ∷ fs) f r a some lt e h = absurd (omega (arith, lt))

pub one_sum : (boxes : Boxes) (fs : List Linear) (f r : Linear) → 1 ≤ length fs → length fs < 2 → f ≡ get_or fs 0 f → r ≡ f → (low high : ℤ) → All (IsSum boxes low high) fs → IsSum boxes (pos (length fs) *ℤ low) (pos (length fs) *ℤ high) r
one_sum boxes [] f r some lt e h low high s = absurd (omega (arith, some))
one_sum boxes (g ∷ []) f r some lt e h low high s =
    let is = subst (IsSum boxes low high) (sym (h ∙ e)) (All-head (IsSum boxes low high) g [] s) in
    let below = once low in
    let above = once high in
    sum_wider boxes low high (pos 1 *ℤ low) (pos 1 *ℤ high) r (omega (arith, ints, below)) (omega (arith, ints, above)) is
one_sum boxes (g ∷ o ∷ fs) f r some lt e h low high s = absurd (omega (arith, lt))
