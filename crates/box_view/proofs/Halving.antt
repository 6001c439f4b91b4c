-- A search by halving in the ranges of a set.
use Rattle.std.proofs.Common.{◌≡◌, ℕ, zero, suc, ◌+◌, ◌-◌, ◌<◌, ◌≤◌, Bool, true, false, not, ◌||◌, [], ◌∷◌, ℤ, pos, negsuc, ◌+ℤ◌, ◌-ℤ◌, ◌≤ℤ◌, ◌<ℤ◌, length, get_or, drop, take, arith, refl, ap, sym, subst, ◌∙◌, add-one}
use Rattle.std.specs.Prelude.{int_lt, int_le}
use Rattle.std.proofs.lemmas.Int.{ints}
use Rattle.signed_clause.specs.Ranges.{Ranges, has, in_range, IsValid, Ascends}
use Rattle.std.specs.Int.{int_min, int_max}
use Rattle.signed_clause.proofs.RangeLaws.{has-below}
use Rattle.signed_clause.proofs.RangeSteps.{left_at, Ascends-drop}
use Rattle.box_view.specs.Firsts.{IsFirst, HasNoneFrom, IsLast, HasNoneTo, IsReaching, IsBegun}

end-in : (low top : ℤ) (rs : Ranges) (m : ℕ) → Ascends low top rs → m < length rs → low ≤ℤ (get_or rs m (pos 0, pos 0)).1
end-in low top [] m s h = absurd (omega arith)
end-in low top (r ∷ rs) zero s h = omega (arith, ints)
end-in low top (r ∷ rs) (suc m) s h = let rest = end-in (r.1 +ℤ pos 2) top rs m s.2 (omega arith) in omega (arith, ints)

-- what reaches u isn't in the ranges that end before
ended_drop : (low top : ℤ) (rs : Ranges) (m : ℕ) (v u : ℤ) → Ascends low top rs → m < length rs → (get_or rs m (pos 0, pos 0)).1 <ℤ v → v ≤ℤ u → has (drop (suc m) rs) u ≡ has rs u
ended_drop low top [] m v u s h k l = absurd (omega arith)
ended_drop low top (r ∷ rs) zero v u s h k l = grind (arith, ints)
ended_drop low top (r ∷ rs) (suc m) v u s h k l =
    let more = ended_drop (r.1 +ℤ pos 2) top rs m v u s.2 (omega arith) k l in
    let above = end-in (r.1 +ℤ pos 2) top rs m s.2 (omega arith) in
    grind (arith, ints)

pub ended_step : (rs : Ranges) (m : ℕ) (v u : ℤ) → IsValid rs → m < length rs → int_lt (get_or rs m (pos 0, pos 0)).1 v ≡ true → v ≤ℤ u → has (drop (m + 1) rs) u ≡ has rs u
ended_step rs m v u s h k l =
    let e : (get_or rs m (pos 0, pos 0)).1 <ℤ v = grind (arith, ints) in
    rw add-one (ended_drop _ _ rs m v u s h e l)

-- each range begins within the span
start-in : (low top : ℤ) (rs : Ranges) (m : ℕ) → Ascends low top rs → m < length rs → low ≤ℤ (get_or rs m (pos 0, pos 0)).0
start-in low top [] m s h = absurd (omega arith)
start-in low top (r ∷ rs) zero s h = s.0
start-in low top (r ∷ rs) (suc m) s h =
    let more = start-in (r.1 +ℤ pos 2) top rs m s.2 (omega arith) in omega (arith, ints)

-- what is below u isn't in the ranges that begin later
begun_take : (low top : ℤ) (rs : Ranges) (m : ℕ) (v u : ℤ) → Ascends low top rs → m < length rs → v <ℤ (get_or rs m (pos 0, pos 0)).0 → u ≤ℤ v → has (take m rs) u ≡ has rs u
begun_take low top [] m v u s h k l = absurd (omega arith)
begun_take low top (r ∷ rs) zero v u s h k l =
    let below = has-below (r.1 +ℤ pos 2) top rs u s.2 in grind (arith, ints)
begun_take low top (r ∷ rs) (suc m) v u s h k l =
    let more = begun_take (r.1 +ℤ pos 2) top rs m v u s.2 (omega arith) k l in grind arith

pub begun_step : (rs : Ranges) (m : ℕ) (v u : ℤ) → IsValid rs → m < length rs → int_le (get_or rs m (pos 0, pos 0)).0 v ≡ false → u ≤ℤ v → has (take m rs) u ≡ has rs u
begun_step rs m v u s h k l =
    let e : v <ℤ (get_or rs m (pos 0, pos 0)).0 = grind (arith, ints) in
    begun_take _ _ rs m v u s h e l

-- ---- what the search finds

behind_all : (low top : ℤ) (r : ℤ × ℤ) (tail : Ranges) (v u : ℤ) → Ascends low top (r ∷ tail) → u ≤ℤ (r.1 +ℤ pos 1) → has (r ∷ tail) u ≡ in_range r u
behind_all low top r tail v u s h = let below = has-below (r.1 +ℤ pos 2) top tail u s.2 in grind (arith, ints)

reaching_at : (rs : Ranges) (low top v : ℤ) (r : ℤ × ℤ) (tail left : Ranges) → left ≡ r ∷ tail → Ascends low top left → ((u : ℤ) → v ≤ℤ u → has left u ≡ has rs u) → v ≤ℤ r.1 → IsReaching rs v r
reaching_at rs low top v r tail left e s same h =
    let sr : Ascends low top (r ∷ tail) = subst (λ (z : Ranges). Ascends low top z) e s in
    let is : (u : ℤ) → v ≤ℤ u → has rs u ≡ has (r ∷ tail) u = λ u k. sym (same u k) ∙ ap (λ (z : Ranges). has z u) e in
    record {
      order = sr.1;
      reaches = h;
      values = λ u k i. let a = is u k in grind arith;
      none_before = λ u k l. let a = is u k in let order = sr.1 in let b = behind_all low top r tail v u sr (omega (arith, ints)) in grind (arith, ints);
      none_behind = let a = is (r.1 +ℤ pos 1) (omega (arith, ints)) in let b = behind_all low top r tail v (r.1 +ℤ pos 1) sr (omega (arith, ints)) in grind (arith, ints);
    }

pub reaching_law : (rs : Ranges) (k : ℕ) (v : ℤ) → IsValid rs → k < length rs → ((u : ℤ) → v ≤ℤ u → has (drop k rs) u ≡ has rs u) → v ≤ℤ (get_or rs k (pos 0, pos 0)).1 →
    IsReaching rs v (get_or rs k (pos 0, pos 0))
reaching_law rs k v s h same r =
    reaching_at rs _ _ v (get_or rs k (pos 0, pos 0)) (drop (k + 1) rs) (drop k rs) (left_at rs k (get_or rs k (pos 0, pos 0)) (pos 0, pos 0) h refl) (Ascends-drop _ _ rs k s) same r

-- the ranges before one end two below where it begins
take_below : (low top : ℤ) (rs : Ranges) (m : ℕ) (u : ℤ) → Ascends low top rs → m < length rs → (get_or rs m (pos 0, pos 0)).0 ≤ℤ (u +ℤ pos 1) → has (take m rs) u ≡ false
take_below low top [] m u s h k = absurd (omega arith)
take_below low top (r ∷ rs) zero u s h k = refl
take_below low top (r ∷ rs) (suc m) u s h k =
    let more = take_below (r.1 +ℤ pos 2) top rs m u s.2 (omega arith) k in
    let start = start-in (r.1 +ℤ pos 2) top rs m s.2 (omega arith) in
    grind (arith, ints)

take_last : (rs : Ranges) (m : ℕ) (u : ℤ) → m < length rs → has (take (suc m) rs) u ≡ (has (take m rs) u || in_range (get_or rs m (pos 0, pos 0)) u)
take_last [] m u h = absurd (omega arith)
take_last (r ∷ rs) zero u h = grind arith
take_last (r ∷ rs) (suc m) u h = let more = take_last rs m u (omega arith) in grind arith

range_in : (low top : ℤ) (rs : Ranges) (i : ℕ) → Ascends low top rs → i < length rs → (get_or rs i (pos 0, pos 0)).0 ≤ℤ (get_or rs i (pos 0, pos 0)).1
range_in low top [] i s h = absurd (omega arith)
range_in low top (r ∷ rs) zero s h = s.1
range_in low top (r ∷ rs) (suc i) s h = range_in (r.1 +ℤ pos 2) top rs i s.2 (omega arith)

neither : (x a b : Bool) → x ≡ (a || b) → a ≡ false → b ≡ false → x ≡ false
neither x a b e h k = grind arith

out_behind : (r : ℤ × ℤ) (u : ℤ) → r.1 <ℤ u → in_range r u ≡ false
out_behind r u h = grind (arith, ints)

out_ahead : (r : ℤ × ℤ) → in_range r (r.0 -ℤ pos 1) ≡ false
out_ahead r = grind (arith, ints)

right_true : (x a b : Bool) → x ≡ (a || b) → b ≡ true → x ≡ true
right_true x a b e h = grind arith

last_at : (rs : Ranges) (m : ℕ) (v : ℤ) → IsValid rs → m < length rs → ((u : ℤ) → u ≤ℤ v → has (take (suc m) rs) u ≡ has rs u) → (get_or rs m (pos 0, pos 0)).0 ≤ℤ v → IsBegun rs v (get_or rs m (pos 0, pos 0))
last_at rs m v s h same b =
    let r = get_or rs m (pos 0, pos 0) in
    let order = range_in _ _ rs m s h in
    let is : (u : ℤ) → u ≤ℤ v → has rs u ≡ (has (take m rs) u || in_range r u) = λ u k. sym (same u k) ∙ take_last rs m u h in
    let low : (u : ℤ) → r.0 ≤ℤ (u +ℤ pos 1) → has (take m rs) u ≡ false = λ u k. take_below _ _ rs m u s h k in
    record {
      order = order;
      begins = b;
      values = λ u k i. right_true _ _ _ (is u k) i;
      none_after = λ u k l. neither _ _ _ (is u l) (low u (omega (arith, ints))) (out_behind r u k);
      none_ahead = neither _ _ _ (is (r.0 -ℤ pos 1) (omega (arith, ints))) (low (r.0 -ℤ pos 1) (omega (arith, ints))) (out_ahead r);
    }

pub begun_law : (rs : Ranges) (k : ℕ) (v : ℤ) → IsValid rs → k ≤ length rs → 0 < k → ((u : ℤ) → u ≤ℤ v → has (take k rs) u ≡ has rs u) → (get_or rs (k - 1) (pos 0, pos 0)).0 ≤ℤ v →
    IsBegun rs v (get_or rs (k - 1) (pos 0, pos 0))
begun_law rs zero v s h p same b = absurd (omega arith)
begun_law rs (suc m) v s h p same b =
    let e : suc m - 1 ≡ m = omega arith in
    subst (λ (i : ℕ). IsBegun rs v (get_or rs i (pos 0, pos 0))) (sym e)
    (last_at rs m v s (omega arith) same (subst (λ (i : ℕ). (get_or rs i (pos 0, pos 0)).0 ≤ℤ v) e b))

-- ---- the first and the last value, and number that is none

pub first_value : (rs : Ranges) (v w : ℤ) (r : ℤ × ℤ) → IsReaching rs v r → w ≡ int_max v r.0 → IsFirst (λ u. has rs u) v w
first_value rs v w r i e =
    let order = i.order in let reaches = i.reaches in
    let here : in_range r w ≡ true = grind (arith, ints) in
    let from : v ≤ℤ w = grind (arith, ints) in
    let start : (u : ℤ) → v ≤ℤ u → u <ℤ w → u <ℤ r.0 = λ u k l. grind (arith, ints) in
    record { passes = i.values w from here; from = from; none_before = λ u k l. i.none_before u k (start u k l) }

pub last_value : (rs : Ranges) (v w : ℤ) (r : ℤ × ℤ) → IsBegun rs v r → w ≡ int_min v r.1 → IsLast (λ u. has rs u) v w
last_value rs v w r i e =
    let order = i.order in let begins = i.begins in
    let here : in_range r w ≡ true = grind (arith, ints) in
    let upto : w ≤ℤ v = grind (arith, ints) in
    let end : (u : ℤ) → w <ℤ u → u ≤ℤ v → r.1 <ℤ u = λ u k l. grind (arith, ints) in
    record { passes = i.values w upto here; upto = upto; none_after = λ u k l. i.none_after u (end u k l) l }

pub first_lack_at : (rs : Ranges) (v : ℤ) → has rs v ≡ false → IsFirst (λ u. not (has rs u)) v v
first_lack_at rs v h = record { passes = rw h refl; from = omega (arith, ints); none_before = λ u k l. absurd (omega (arith, ints)) }

pub last_lack_at : (rs : Ranges) (v : ℤ) → has rs v ≡ false → IsLast (λ u. not (has rs u)) v v
last_lack_at rs v h = record { passes = rw h refl; upto = omega (arith, ints); none_after = λ u k l. absurd (omega (arith, ints)) }

pub first_lack : (rs : Ranges) (v w : ℤ) (r : ℤ × ℤ) → IsReaching rs v r → r.0 ≤ℤ v → w ≡ r.1 +ℤ pos 1 → IsFirst (λ u. not (has rs u)) v w
first_lack rs v w r i b e =
    let reaches = i.reaches in
    let none : has rs w ≡ false = subst (λ (z : ℤ). has rs z ≡ false) (sym e) i.none_behind in
    let within : (u : ℤ) → v ≤ℤ u → u <ℤ w → in_range r u ≡ true = λ u k l. grind (arith, ints) in
    record { passes = rw none refl; from = omega (arith, ints); none_before = λ u k l. let y = i.values u k (within u k l) in rw y refl }

pub last_lack : (rs : Ranges) (v w : ℤ) (r : ℤ × ℤ) → IsBegun rs v r → v ≤ℤ r.1 → w ≡ r.0 -ℤ pos 1 → IsLast (λ u. not (has rs u)) v w
last_lack rs v w r i b e =
    let begins = i.begins in
    let none : has rs w ≡ false = subst (λ (z : ℤ). has rs z ≡ false) (sym e) i.none_ahead in
    let within : (u : ℤ) → w <ℤ u → u ≤ℤ v → in_range r u ≡ true = λ u k l. grind (arith, ints) in
    record { passes = rw none refl; upto = omega (arith, ints); none_after = λ u k l. let y = i.values u l (within u k l) in rw y refl }

pub no_lack_from : (rs : Ranges) (v : ℤ) (r : ℤ × ℤ) → IsReaching rs v r → r.0 ≤ℤ v → r.1 ≡ pos 9223372036854775807 → HasNoneFrom (λ u. not (has rs u)) v
no_lack_from rs v r i b e u k l =
    let here : in_range r u ≡ true = grind (arith, ints) in let y = i.values u k here in rw y refl

pub no_lack_to : (rs : Ranges) (v : ℤ) (r : ℤ × ℤ) → IsBegun rs v r → v ≤ℤ r.1 → r.0 ≡ negsuc 9223372036854775807 → HasNoneTo (λ u. not (has rs u)) v
no_lack_to rs v r i b e u l k =
    let here : in_range r u ≡ true = grind (arith, ints) in let y = i.values u k here in rw y refl

-- a number before the range that reaches it, or behind the one that begins by it, is no value
pub lack_before : (rs : Ranges) (v : ℤ) (r : ℤ × ℤ) → IsReaching rs v r → v <ℤ r.0 → has rs v ≡ false
lack_before rs v r i h = i.none_before v (omega (arith, ints)) h

pub lack_after : (rs : Ranges) (v : ℤ) (r : ℤ × ℤ) → IsBegun rs v r → r.1 <ℤ v → has rs v ≡ false
lack_after rs v r i h = i.none_after v h (omega (arith, ints))
