-- Masks and single values that show a common value of two sets.
use Rattle.std.proofs.Common.{◌≡◌, ◌≢◌, ℕ, ◌<◌, ◌&&◌, Bool, true, false, ℤ, pos, ◌+ℤ◌, ◌≤ℤ◌, ◌<ℤ◌, ◌-ℤ◌, unsigned_abs, int_le, arith, sym, ap, ◌∙◌, bit_and, min, ◌+◌, ◌⊎◌, inl, inr, zero, suc, refl, ◌≤◌, ◌-◌, ◌*◌, ◌/◌, ◌%◌, ◌^◌, bit_or, max, [], ◌∷◌, length, drop, slice_index_or, subst, add-one}
use Rattle.std.proofs.lemmas.Bool.{false_from_ne_true}
use Rattle.std.proofs.lemmas.Int.{ints}
use Rattle.std.proofs.lemmas.Nat.Bits.{bit_at_and, bit_at_or, bit_at-lt, bit_at-zero, same_from_bits, ones_shl, ones_shr, bit_at_mask_below, bit_at_mask_inside, bit_at_ones, bit_at_ones_above}
use Rattle.std.specs.Int.{bit_at}
use Rattle.std.specs.Int.Signed.{≤ℤ_refl}
use Rattle.signed_clause.specs.Ranges.{Ranges, has, in_range, Ascends, IsValid, IsLeast, IsGreatest}
use Rattle.signed_clause.specs.SetAlgebra.{is_disjoint}
use Rattle.signed_clause.proofs.ClauseLaws.{has_from_disjoint}
use Rattle.signed_clause.proofs.RangeLaws.{has-below}
use Rattle.signed_clause.proofs.SetFacts.{disjoint_law}
use Rattle.clause_watches.specs.Rows.{IsMaskOf, IsWholeMaskOf, HasAllBits}
use Rattle.clause_watches.proofs.TestLaws.{or_right, or_other}

-- a common value
pub common_meets : (a b : Ranges) (v : ℤ) → IsValid a → IsValid b →
    has a v ≡ true → has b v ≡ true → is_disjoint a b ≡ false
common_meets a b v f g h i =
    false_from_ne_true _ (λ all. let no = has_from_disjoint a b v f g all i in cc)

pub value_meets : (a b : Ranges) (v : ℤ) (r : Bool) → r ≡ has b v → r ≡ true →
    IsValid a → IsValid b → has a v ≡ true → is_disjoint a b ≡ false
value_meets a b v r e t f g h = common_meets a b v f g h (sym e ∙ t)

zero_or_one : (n : ℕ) → n < 2 → (n ≡ 0) ⊎ (n ≡ 1)
zero_or_one zero h = inl refl
zero_or_one (suc zero) h = inr refl
zero_or_one (suc (suc n)) h = absurd (omega arith)

both_set : (m n j : ℕ) → bit_at (bit_and m n) j ≡ 1 → (bit_at m j ≡ 1) × (bit_at n j ≡ 1)
both_set m n j h =
    let e : min (bit_at m j) (bit_at n j) ≡ 1 = sym (bit_at_and m n j) ∙ h in
    (omega (arith, bit_at-lt m j, bit_at-lt n j), omega (arith, bit_at-lt m j, bit_at-lt n j))

no_bit : (least : ℤ) (a b : Ranges) (m n j : ℕ) → IsMaskOf least a m → IsMaskOf least b n →
    IsValid a → IsValid b → is_disjoint a b ≡ true → bit_at (bit_and m n) j ≡ bit_at 0 j
no_bit least a b m n j f g va vb all =
    elim (zero_or_one (bit_at (bit_and m n) j) (bit_at-lt (bit_and m n) j)) [
      | inl off ↦ off ∙ sym (bit_at-zero j)
      | inr on ↦ let both = both_set m n j on in
          let meets = common_meets a b (least +ℤ pos j) va vb (f j both.0) (g j both.1) in
          absurd (cc)
    ]

-- a common bit
pub masks_meet : (least : ℤ) (a b : Ranges) (m n : ℕ) → bit_and m n ≢ 0 →
    IsMaskOf least a m → IsMaskOf least b n → IsValid a → IsValid b → is_disjoint a b ≡ false
masks_meet least a b m n some f g va vb =
    false_from_ne_true _
    (λ all. some (same_from_bits (bit_and m n) 0 (λ j. no_bit least a b m n j f g va vb all)))

-- ---- masks of ranges

not_below : (n i b : ℕ) → b ≡ 1 → (i < n → b ≡ 0) → n ≤ i
not_below n i b e h = grind arith

-- the bits from the first to the last alone are set
pub bits_from : (first last j : ℕ) → first ≤ last → last < 64 →
    bit_at (bit_and (18446744073709551615 * 2 ^ first % 18446744073709551616)
    (18446744073709551615 / 2 ^ (63 - last))) j ≡ 1 →
    (first ≤ j) × (j ≤ last)
bits_from first last j h k e =
    let low : 18446744073709551615 * 2 ^ first % 18446744073709551616 ≡ 2 ^ 64 - 2 ^ first =
    ones_shl 64 first (omega arith) in
    let high : 18446744073709551615 / 2 ^ (63 - last) ≡ 2 ^ (64 - (63 - last)) - 1 =
    ones_shr 64 (63 - last) (omega arith) in
    let both = both_set _ _ j e in
    let one = ap (λ (n : ℕ). bit_at n j) (sym low) ∙ both.0 in
    let two = ap (λ (n : ℕ). bit_at n j) (sym high) ∙ both.1 in (
      not_below first j _ one (λ l. bit_at_mask_below first 64 j l),
      let above = not_below (j + 1) (64 - (63 - last)) _ two
          (λ l. bit_at_ones_above (64 - (63 - last)) j (omega arith)) in omega arith,
    )

has_at : (set : Ranges) (i : ℕ) (r d : ℤ × ℤ) (v : ℤ) → i < length set →
    r ≡ slice_index_or set i d → in_range r v ≡ true → has set v ≡ true
has_at [] i r d v h e t = absurd (omega arith)
has_at (s ∷ rs) zero r d v h e t = let same : in_range s v ≡ true =
    subst (λ (q : ℤ × ℤ). in_range q v ≡ true) e t in rw same refl
has_at (s ∷ rs) (suc i) r d v h e t =
    or_right (in_range s v) (has rs v) (has_at rs i r d v (omega arith) e t)

either : (a b : ℕ) → a < 2 → max a b ≡ 1 → (a ≡ 1) ⊎ (b ≡ 1)
either zero b h e = inr (omega arith)
either (suc zero) b h e = inl refl
either (suc (suc a)) b h e = absurd (omega arith)

-- one range more
pub mask_more : (least : ℤ) (set xs : Ranges) (i : ℕ) (r d : ℤ × ℤ) (m n : ℕ) → xs ≡ set →
    i < length xs →
    r ≡ slice_index_or xs i d → IsMaskOf least set m →
    ((j : ℕ) → bit_at n j ≡ 1 → in_range r (least +ℤ pos j) ≡ true) →
    IsMaskOf least set (bit_or m n)
mask_more least set xs i r d m n is h e old more j t =
    elim (either (bit_at m j) (bit_at n j) (bit_at-lt m j) (sym (bit_at_or m n j) ∙ t)) [
      | inl was ↦ old j was
      | inr new ↦ subst (λ (s : Ranges). has s (least +ℤ pos j) ≡ true) is
          (has_at xs i r d (least +ℤ pos j) h e (more j new))
    ]

-- a bit from the first to the last stands for a value of the range
in_between : (low high v : ℤ) → low ≤ℤ v → v ≤ℤ high → (int_le low v && int_le v high) ≡ true
in_between low high v f l = grind (arith, ints)

pub bit_in_range : (r : ℤ × ℤ) (least lo hi l : ℤ) (first far last j : ℕ) → l ≡ least → lo ≡ r.0 →
    hi ≡ r.1 → lo ≤ℤ (l +ℤ pos first) → (l ≤ℤ hi → l +ℤ pos far ≡ hi) → least ≤ℤ r.1 →
    last ≡ min far 63 → first ≤ j → j ≤ last → in_range r (least +ℤ pos j) ≡ true
bit_in_range r least lo hi l first far last j el e0 e1 low high h cut f le =
    let start : r.0 ≤ℤ (least +ℤ pos first) =
    subst (λ (a : ℤ). a ≤ℤ (least +ℤ pos first)) e0
    (subst (λ (b : ℤ). lo ≤ℤ (b +ℤ pos first)) el low) in
    let there : l ≤ℤ hi =
    subst (λ (a : ℤ). a ≤ℤ hi) (sym el) (subst (λ (b : ℤ). least ≤ℤ b) (sym e1) h) in
    let end : least +ℤ pos far ≡ r.1 = subst (λ (a : ℤ). a +ℤ pos far ≡ r.1) el (high there ∙ e1) in
    let near : j ≤ far = omega arith in
    in_between r.0 r.1 (least +ℤ pos j)
    (omega (arith, ints, start))
    (omega (arith, ints, end))

-- ---- whole masks

not_le : (a b : ℤ) → (a ≤ℤ b → ⊥) → b <ℤ a
not_le a b h = grind (arith, ints)

-- all bits from the first to the last are set
pub bits_between : (first last j : ℕ) → first ≤ j → j ≤ last → last < 64 →
    bit_at (bit_and (18446744073709551615 * 2 ^ first % 18446744073709551616)
    (18446744073709551615 / 2 ^ (63 - last))) j ≡ 1
bits_between first last j f l k =
    let low : 18446744073709551615 * 2 ^ first % 18446744073709551616 ≡ 2 ^ 64 - 2 ^ first =
    ones_shl 64 first (omega arith) in
    let high : 18446744073709551615 / 2 ^ (63 - last) ≡ 2 ^ (64 - (63 - last)) - 1 =
    ones_shr 64 (63 - last) (omega arith) in
    let one : bit_at (2 ^ 64 - 2 ^ first) j ≡ 1 = bit_at_mask_inside first 64 j f (omega arith) in
    let two : bit_at (2 ^ (64 - (63 - last)) - 1) j ≡ 1 =
    bit_at_ones (64 - (63 - last)) j (omega arith) in
    bit_at_and _ _ j
    ∙ ap (λ (n : ℕ). min (bit_at n j) (bit_at (18446744073709551615 / 2 ^ (63 - last)) j)) low
    ∙ ap (λ (n : ℕ). min n (bit_at (18446744073709551615 / 2 ^ (63 - last)) j)) one
    ∙ ap (λ (n : ℕ). min 1 (bit_at n j)) high
    ∙ ap (λ (n : ℕ). min 1 n) two

-- no value of the ranges from index i on is below the first of them
past_from : (low top : ℤ) (set : Ranges) (i : ℕ) (r d : ℤ × ℤ) (v : ℤ) → Ascends low top set →
    i < length set → r ≡ slice_index_or set i d → v <ℤ r.0 → has (drop i set) v ≡ false
past_from low top [] i r d v f h e l = absurd (omega arith)
past_from low top (s ∷ ss) zero r d v f h e l =
    has-below s.0 top (s ∷ ss) v (≤ℤ_refl s.0, f.1, f.2)
    (subst (λ (q : ℤ × ℤ). v <ℤ q.0) e l)
past_from low top (s ∷ ss) (suc i) r d v f h e l =
    past_from (s.1 +ℤ pos 2) top ss i r d v f.2 (omega arith) e l

pub past_window : (set : Ranges) (i : ℕ) (r d : ℤ × ℤ) (least lo : ℤ) (n j : ℕ) → IsValid set →
    i < length set → r ≡ slice_index_or set i d → lo ≡ r.0 →
    ((k : ℕ) → lo ≤ℤ (least +ℤ pos k) → n ≤ k) → 63 < n → j < 64 →
    has (drop i set) (least +ℤ pos j) ≡ false
past_window set i r d least lo n j v h e is few far near =
    past_from _ _ set i r d (least +ℤ pos j) v h e
    (subst (λ (a : ℤ). (least +ℤ pos j) <ℤ a) is
    (not_le lo (least +ℤ pos j) (λ l. let up = few j l in omega arith)))

after_first : (set : Ranges) (i : ℕ) (r d : ℤ × ℤ) (v : ℤ) → i < length set →
    r ≡ slice_index_or set i d → has (drop i set) v ≡ true → in_range r v ≡ false →
    has (drop (suc i) set) v ≡ true
after_first [] i r d v h e t n = absurd (omega arith)
after_first (s ∷ ss) zero r d v h e t n =
    or_other (in_range s v) (has ss v) (subst (λ (q : ℤ × ℤ). in_range q v ≡ false) e n) t
after_first (s ∷ ss) (suc i) r d v h e t n = after_first ss i r d v (omega arith) e t n

-- what a range more leaves to do
pub left_more : (set xs : Ranges) (i : ℕ) (r d : ℤ × ℤ) (v : ℤ) (m n j : ℕ) → xs ≡ set →
    i < length xs → r ≡ slice_index_or xs i d → bit_at (bit_or m n) j ≡ 0 →
    (bit_at m j ≡ 0 → has (drop i set) v ≡ true) → (in_range r v ≡ true → bit_at n j ≡ 1) →
    has (drop (i + 1) set) v ≡ true
left_more set xs i r d v m n j is h e off old new =
    let both : max (bit_at m j) (bit_at n j) ≡ 0 = sym (bit_at_or m n j) ∙ off in
    let left : bit_at m j ≡ 0 = omega arith in
    let out : in_range r v ≡ false =
    false_from_ne_true _ (λ t. let on = new t in omega arith) in
    let more = after_first set i r d v (subst (λ (l : Ranges). i < length l) is h)
    (subst (λ (l : Ranges). r ≡ slice_index_or l i d) is e) (old left) out in
    rw add-one more

-- nothing is left
pub all_done : (set : Ranges) (least : ℤ) (mask : ℕ) → ((j : ℕ) → j < 64 →
    has set (least +ℤ pos j) ≡ true → bit_at mask j ≡ 0 → has [] (least +ℤ pos j) ≡ true) →
    IsWholeMaskOf least set mask
all_done set least mask left j h t = elim (zero_or_one (bit_at mask j) (bit_at-lt mask j)) [
  | inl off ↦ let no = left j h t off in absurd (cc)
  | inr on ↦ on
]

-- a mask with all values of the window is one with all of a set that lies within it
pub bits_all : (least : ℤ) (set : Ranges) (mask : ℕ) → IsWholeMaskOf least set mask →
    ((v : ℤ) → has set v ≡ true → (least ≤ℤ v) × (v ≤ℤ (least +ℤ pos 63))) →
    HasAllBits least set mask
bits_all least set mask whole within v h =
    let b = within v h in
    let low = b.0 in
    let high = b.1 in
    let j = unsigned_abs (v -ℤ least) in
    let is : v ≡ least +ℤ pos j = omega (arith, ints, low) in
    let near : j < 64 = omega (arith, ints, low, high) in record {
      bit = j;
      below = near;
      value = is;
      on = whole j near (subst (λ (w : ℤ). has set w ≡ true) is h);
    }

-- no common bit, where one of the masks has all values
pub bits_out : (least : ℤ) (set at : Ranges) (m n : ℕ) → IsValid set → IsValid at →
    IsWholeMaskOf least set m → HasAllBits least at n → bit_and m n ≡ 0 →
    is_disjoint set at ≡ true
bits_out least set at m n vs va whole all none =
    (disjoint_law set at vs va).1 (λ v h. false_from_ne_true (has at v) (λ k.
    let b = all v k in
    let one : bit_at m b.bit ≡ 1 =
    whole b.bit b.below (subst (λ (w : ℤ). has set w ≡ true) b.value h) in
    let two : bit_at n b.bit ≡ 1 = b.on in
    let zero : min (bit_at m b.bit) (bit_at n b.bit) ≡ 0 =
    sym (bit_at_and m n b.bit) ∙ ap (λ (q : ℕ). bit_at q b.bit) none ∙ bit_at-zero b.bit in
    omega arith))

range_parts : (r : ℤ × ℤ) (v : ℤ) → in_range r v ≡ true → (r.0 ≤ℤ v) × (v ≤ℤ r.1)
range_parts r v t = (grind (arith, ints), grind (arith, ints))

-- the bit of a value of the range stands from the first to the last
pub range_whole : (r : ℤ × ℤ) (least lo hi l : ℤ) (first far last j : ℕ) → l ≡ least → lo ≡ r.0 →
    hi ≡ r.1 → ((k : ℕ) → lo ≤ℤ (l +ℤ pos k) → first ≤ k) → (l ≤ℤ hi → l +ℤ pos far ≡ hi) →
    least ≤ℤ r.1 → last ≡ min far 63 → j < 64 → in_range r (least +ℤ pos j) ≡ true →
    (first ≤ j) × (j ≤ last)
range_whole r least lo hi l first far last j el e0 e1 few high h cut near t =
    let parts = range_parts r (least +ℤ pos j) t in
    let start : lo ≤ℤ (l +ℤ pos j) =
    subst (λ (a : ℤ). a ≤ℤ (l +ℤ pos j)) (sym e0)
    (subst (λ (b : ℤ). r.0 ≤ℤ (b +ℤ pos j)) (sym el) parts.0) in
    let there : l ≤ℤ hi =
    subst (λ (a : ℤ). a ≤ℤ hi) (sym el) (subst (λ (b : ℤ). least ≤ℤ b) (sym e1) h) in
    let end : least +ℤ pos far ≡ r.1 = subst (λ (a : ℤ). a +ℤ pos far ≡ r.1) el (high there ∙ e1) in
    let most : (least +ℤ pos j) ≤ℤ (least +ℤ pos far) =
    subst (λ (a : ℤ). (least +ℤ pos j) ≤ℤ a) (sym end) parts.1 in
    let far_up : j ≤ far = omega (arith, ints, most) in
    (few j start, omega arith)

-- the values between the least and the greatest one
pub within_window : (set : Ranges) (low high least v : ℤ) → IsLeast set low →
    IsGreatest set high → least ≤ℤ low → high ≤ℤ (least +ℤ pos 63) → has set v ≡ true →
    (least ≤ℤ v) × (v ≤ℤ (least +ℤ pos 63))
within_window set low high least v l g f h t =
    let above = l.none_below v t in
    let below = g.none_above v t in
    (omega (arith, ints, above, f), omega (arith, ints, below, h))

-- ranges from index i on lie past the window
pub early_done : (set xs : Ranges) (i : ℕ) (r d : ℤ × ℤ) (least l lo : ℤ) (n mask : ℕ) →
    IsValid set → xs ≡ set → i < length xs → r ≡ slice_index_or xs i d → l ≡ least → lo ≡ r.0 →
    ((k : ℕ) → lo ≤ℤ (l +ℤ pos k) → n ≤ k) → 63 < n →
    ((j : ℕ) → j < 64 → has set (least +ℤ pos j) ≡ true → bit_at mask j ≡ 0 →
    has (drop i set) (least +ℤ pos j) ≡ true) → IsWholeMaskOf least set mask
early_done set xs i r d least l lo n mask valid is h e el first few far left j near t =
    let own = subst (λ (a : ℤ). (k : ℕ) → lo ≤ℤ (a +ℤ pos k) → n ≤ k) el few in
    elim (zero_or_one (bit_at mask j) (bit_at-lt mask j)) [
      | inl off ↦
          let more = left j near t off in
          let none = past_window set i r d least lo n j valid
          (subst (λ (l : Ranges). i < length l) is h)
          (subst (λ (l : Ranges). r ≡ slice_index_or l i d) is e) first own far near in
          absurd (cc)
      | inr on ↦ on
    ]
