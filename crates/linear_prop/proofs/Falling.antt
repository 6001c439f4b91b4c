-- How far a term falls, and the set of its literal.
use Rattle.std.proofs.Common.{◌≡◌, ℕ, suc, zero, ◌⊎◌, inl, inr, ◌*◌, ◌/◌, ◌-◌, ◌<◌, ◌≤◌, ◌^◌, true, false, ◌&&◌, [], ◌∷◌, ℤ, pos, ◌+ℤ◌, ◌-ℤ◌, ◌*ℤ◌, ◌≤ℤ◌, ◌<ℤ◌, unsigned_abs, arith, refl, ap, sym, subst, ◌∙◌}
use Rattle.std.specs.Prelude.{int_lt}
use Rattle.std.specs.Int.{int_min}
use Rattle.std.proofs.lemmas.Bool.{cases_lt}
use Rattle.std.proofs.lemmas.Int.{ints, by_lt_z, unsigned_abs-mul}
use Rattle.std.proofs.Math.Nat.{mul-le-mul_left, div-add-mod}
use Rattle.signed_clause.specs.Ranges.{Ranges, has, in_range, is_nil, IsValid}
use Rattle.ground_form.specs.Bounds.{low_of, high_of, reach_of}
use Rattle.box_view.proofs.EndLaws.{above_low, below_high, ends_in_order, has_low, has_high}
use Rattle.linear_prop.specs.Explaining.{span_of}
use Rattle.linear_prop.specs.Falls.{least_at, IsBelow}
use Rattle.linear_prop.proofs.Products.{below_same, above_same, above_low_end, below_high_end, some_factor, falls_down, falls_up}

pub part_below : (set s part : Ranges) (low high to v : ℤ) → IsValid set → low ≡ low_of set → high ≡ to -ℤ pos 1 → has s v ≡ (has set v && has part v) →
    has part v ≡ in_range (low, high) v → has s v ≡ (has set v && int_lt v to)
part_below set s part low high to v f e k h m =
    let l : has set v ≡ true → low_of set ≤ℤ v = above_low set v f in grind (arith, ints)

pub part_above : (set s part : Ranges) (low high to v : ℤ) → IsValid set → high ≡ high_of set → low ≡ to +ℤ pos 1 → has s v ≡ (has set v && has part v) →
    has part v ≡ in_range (low, high) v → has s v ≡ (has set v && int_lt to v)
part_above set s part low high to v f e k h m =
    let l : has set v ≡ true → v ≤ℤ high_of set = below_high set v f in grind (arith, ints)

some_value : (rs : Ranges) (v : ℤ) → has rs v ≡ true → is_nil rs ≡ false
some_value [] v h = absurd (grind arith)
some_value (r ∷ rs) v h = refl

pub same_span : (a b x y v : ℤ) → a ≡ x → b ≡ y → in_range (a, b) v ≡ in_range (x, y) v
same_span a b x y v e f = rw (e, f) refl

test_from : (a b : ℤ) → a <ℤ b → int_lt a b ≡ true
test_from a b h = grind (arith, ints)

pub under_positive : (c to : ℤ) (set s : Ranges) → IsValid set → is_nil set ≡ false → pos 0 ≤ℤ c → least_at c set <ℤ (c *ℤ to) → IsValid s →
    ((v : ℤ) → has s v ≡ (has set v && int_lt v to)) → IsBelow c (c *ℤ to) set s
under_positive c to set s f some h k g values =
    let some_c = some_factor c (low_of set) (high_of set) to k in
    let up : pos 0 <ℤ c = omega (arith, ints) in
    let low = above_low_end c (low_of set) (high_of set) to (ends_in_order set f) h k in
    let here : has s (low_of set) ≡ true = values (low_of set) ∙ rw (has_low set f some, test_from (low_of set) to low) refl in
    record {
      values = λ v. values v ∙ ap (λ b. has set v && b) (below_same c v to up);
      some = some_value s (low_of set) here;
      valid = g;
    }

pub under_negative : (c to : ℤ) (set s : Ranges) → IsValid set → is_nil set ≡ false → c <ℤ pos 0 → least_at c set <ℤ (c *ℤ to) → IsValid s →
    ((v : ℤ) → has s v ≡ (has set v && int_lt to v)) → IsBelow c (c *ℤ to) set s
under_negative c to set s f some h k g values =
    let high = below_high_end c (low_of set) (high_of set) to (ends_in_order set f) h k in
    let here : has s (high_of set) ≡ true = values (high_of set) ∙ rw (has_high set f some, test_from to (high_of set) high) refl in
    record {
      values = λ v. values v ∙ ap (λ b. has set v && b) (above_same c v to h);
      some = some_value s (high_of set) here;
      valid = g;
    }

-- ---- sizes

between_fits : (low high v : ℤ) (n : ℕ) → low ≤ℤ v → v ≤ℤ high → unsigned_abs low ≤ n → unsigned_abs high ≤ n → unsigned_abs v ≤ n
between_fits low high v n h k a b = omega (arith, ints)

pub product_fits : (c v : ℤ) (s : Ranges) (n : ℕ) → low_of s ≤ℤ v → v ≤ℤ high_of s → unsigned_abs c * reach_of s ≤ n → unsigned_abs (c *ℤ v) ≤ n
product_fits c v s n h k w =
    let b : unsigned_abs v ≤ reach_of s = between_fits (low_of s) (high_of s) v (reach_of s) h k (omega arith) (omega arith) in
    let m : unsigned_abs c * unsigned_abs v ≤ unsigned_abs c * reach_of s = mul-le-mul_left (unsigned_abs c) b in
    rw unsigned_abs-mul (omega (arith, m, w))

one_of_two : (x y : ℤ) (n : ℕ) → unsigned_abs x ≤ n → unsigned_abs y ≤ n → unsigned_abs (int_min x y) ≤ n
one_of_two x y n h k = grind arith

pub least_fits : (c : ℤ) (s : Ranges) (n : ℕ) → low_of s ≤ℤ high_of s → unsigned_abs c * reach_of s ≤ n → unsigned_abs (least_at c s) ≤ n
least_fits c s n o w =
    one_of_two (c *ℤ low_of s) (c *ℤ high_of s) n (product_fits c (low_of s) s n (omega (arith, ints)) o w) (product_fits c (high_of s) s n o (omega (arith, ints)) w)

-- what lies between the ends of a set lies no further apart than they
pub apart_fits : (c at end : ℤ) (s : Ranges) → low_of s ≤ℤ at → at ≤ℤ high_of s → low_of s ≤ℤ end → end ≤ℤ high_of s → unsigned_abs c * span_of s < 2 ^ 64 →
    unsigned_abs c * unsigned_abs (at -ℤ end) < 2 ^ 64
apart_fits c at end s a b d e w =
    let le : unsigned_abs (at -ℤ end) ≤ span_of s = omega (arith, ints) in
    let m : unsigned_abs c * unsigned_abs (at -ℤ end) ≤ unsigned_abs c * span_of s = mul-le-mul_left (unsigned_abs c) le in omega arith

-- by how much a term falls from one value to another
pub fall_is : (c at end : ℤ) → (pos 0 ≤ℤ c → end ≤ℤ at) → (c <ℤ pos 0 → at ≤ℤ end) → pos (unsigned_abs c * unsigned_abs (at -ℤ end)) ≡ (c *ℤ at) -ℤ (c *ℤ end)
fall_is c at end h k =
    let d = unsigned_abs (at -ℤ end) in
    by_lt_z {P = pos (unsigned_abs c * d) ≡ (c *ℤ at) -ℤ (c *ℤ end)} c (pos 0)
    (λ n. let o = k n in let is : end ≡ at +ℤ pos d = omega (arith, ints) in let e = ap (λ (z : ℤ). c *ℤ z) is ∙ falls_up c at d n in omega (arith, ints))
    (λ n. let o = h n in let is : end ≡ at -ℤ pos d = omega (arith, ints) in let e = ap (λ (z : ℤ). c *ℤ z) is ∙ falls_down c at d n in omega (arith, ints))

pub gap_is : (c at end : ℤ) (s : Ranges) (apart gap : ℕ) → gap ≡ unsigned_abs c * apart → apart ≡ unsigned_abs (at -ℤ end) → low_of s ≤ℤ at → at ≤ℤ high_of s →
    (pos 0 ≤ℤ c → end ≡ low_of s) → (c <ℤ pos 0 → end ≡ high_of s) → c *ℤ end ≡ least_at c s → pos gap ≡ (c *ℤ at) -ℤ least_at c s
gap_is c at end s apart gap g a low high up down least =
    let f = fall_is c at end (λ n. let e = up n in omega (arith, ints)) (λ n. let e = down n in omega (arith, ints)) in
    ap (λ (n : ℕ). pos n) (g ∙ ap (λ (n : ℕ). unsigned_abs c * n) a) ∙ f ∙ ap (λ (z : ℤ). (c *ℤ at) -ℤ z) least

-- slack that doesn't pay the whole way
steps_from : (size d slack : ℕ) → (d < slack / size) ⊎ (slack / size ≤ d) → slack < size * d → slack / size ≤ d
steps_from size d slack (inl l) h =
    let m : size * suc d ≤ size * (slack / size) = mul-le-mul_left size (omega (arith, l)) in
    let e = div-add-mod slack size in absurd (omega (arith, m, e, h))
steps_from size d slack (inr l) h = l

pub steps_fit : (size d slack : ℕ) → slack < size * d → slack / size ≤ d
steps_fit size d slack h = steps_from size d slack (cases_lt d (slack / size)) h

pub some_size : (size d slack : ℕ) → slack < size * d → 0 < size
some_size zero d slack h = absurd (omega arith)
some_size (suc n) d slack h = omega arith

-- ---- the two ways that it ends

pub kept_high : (c from least : ℤ) (set : Ranges) (gap slack left : ℕ) → least ≡ least_at c set → pos gap ≡ from -ℤ least → gap ≤ slack → left ≡ slack - gap →
    (left ≤ slack) × (((from -ℤ pos slack) +ℤ pos left) ≤ℤ least_at c set)
kept_high c from least set gap slack left e g h l = (omega arith, rw (sym e) (omega (arith, ints)))

pub cut_off : (c from paid floor : ℤ) (set s : Ranges) (slack left : ℕ) → paid ≡ (from -ℤ pos slack) +ℤ pos left → left ≤ slack → IsBelow c paid set s →
    (left ≤ slack) × IsBelow c ((from -ℤ pos slack) +ℤ pos left) set s
cut_off c from paid floor set s slack left e h b = (h, subst (λ (z : ℤ). IsBelow c z set s) e b)
