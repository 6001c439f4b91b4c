-- Single values, how many values a set can have, and splits at a value.
use Rattle.std.proofs.Common.{◌≡◌, ◌≤◌, ◌^◌, Bool, true, false, [], ◌∷◌, ℤ, pos, ◌+ℤ◌, ◌-ℤ◌, ◌≤ℤ◌, ◌↔◌, IsTrue, arith, refl, sym, ap, ◌∙◌}
use Rattle.std.specs.Int.{int_max}
use Rattle.std.specs.Ordering.{int_eq}
use Rattle.std.proofs.lemmas.Int.{ints, clamps}
use Rattle.std.proofs.lemmas.Bool.{false_from_ne_true}
use Rattle.signed_clause.specs.Ranges.{Ranges, has, count_of, Ascends, IsValid}
use Rattle.signed_clause.specs.SetAlgebra.{is_disjoint, is_within}
use Rattle.signed_clause.proofs.ClauseLaws.{has_from_disjoint, has_from_within}
use Rattle.signed_clause.proofs.RangeLaws.{Ascends-ends}
use Rattle.branch_choice.specs.Picks.{is_single}

-- ---- how many values

count_within : (low top : ℤ) (rs : Ranges) → Ascends low top rs →
    pos (count_of rs) ≤ℤ int_max (pos 0) ((top +ℤ pos 1) -ℤ low)
count_within low top [] s = omega (arith, ints, clamps)
count_within low top (r ∷ rs) s =
    let rest = count_within (r.1 +ℤ pos 2) top rs s.2 in
    let ends = Ascends-ends (r.1 +ℤ pos 2) top rs s.2 in
    let first = s.0 in let some = s.1 in
    omega (arith, ints, clamps)

pub count_most : (set : Ranges) → IsValid set → count_of set ≤ 2 ^ 64
count_most set s = let most = count_within _ _ set s in omega (arith, ints, clamps)

-- ---- single values

bool_same : (a b : Bool) → (a ≡ true → b ≡ true) → (b ≡ true → a ≡ true) → a ≡ b
bool_same true b f g = sym (f refl)
bool_same false true f g = g refl
bool_same false false f g = refl

abbrev head_of : Ranges → ℤ × ℤ
head_of [] = (pos 0, pos 0)
head_of (r ∷ rs) = r

one_from : (r : ℤ × ℤ) → ((v : ℤ) × (r ∷ [] ≡ (v, v) ∷ [])) → int_eq r.0 r.1 ≡ true
one_from r x =
    let first : r.0 ≡ x.0 = ap (λ (z : Ranges). (head_of z).0) x.1 in
    let last : r.1 ≡ x.0 = ap (λ (z : Ranges). (head_of z).1) x.1 in
    let same : r.0 ≡ r.1 = first ∙ sym last in
    grind (arith, ints)

one_to : (r : ℤ × ℤ) → int_eq r.0 r.1 ≡ true → (v : ℤ) × (r ∷ [] ≡ (v, v) ∷ [])
one_to r e =
    let same : r.0 ≡ r.1 = grind (arith, ints) in
    (r.0, ap (λ (z : ℤ). (r.0, z) ∷ []) (sym same))

pub single_law : (set : Ranges) (b : Bool) → (IsTrue b ↔ ((v : ℤ) × (set ≡ (v, v) ∷ []))) →
    b ≡ is_single set
single_law [] b h = false_from_ne_true b (λ e. let x = h.0 e in let no = x.1 in absurd (cc))
single_law (r ∷ []) b h =
    bool_same b (int_eq r.0 r.1) (λ e. one_from r (h.0 e)) (λ e. h.1 (one_to r e))
single_law (r ∷ q ∷ rs) b h = false_from_ne_true b (λ e. let x = h.0 e in let no = x.1 in absurd (cc))

-- ---- splits at a value

bounds : (low top : ℤ) (rs : Ranges) (v : ℤ) → Ascends low top rs → has rs v ≡ true →
    (low ≤ℤ v) × (v ≤ℤ top)
bounds low top [] v s h = absurd (cc)
bounds low top (r ∷ rs) v s h =
    let rest = bounds (r.1 +ℤ pos 2) top rs v s.2 in
    let ends = Ascends-ends (r.1 +ℤ pos 2) top rs s.2 in
    (grind (arith, ints), grind (arith, ints))

alone_valid : (rs : Ranges) (v : ℤ) → IsValid rs → has rs v ≡ true → IsValid ((v, v) ∷ [])
alone_valid rs v s h = let b = bounds _ _ rs v s h in grind (arith, ints)

has_alone : (v : ℤ) → has ((v, v) ∷ []) v ≡ true
has_alone v = grind (arith, ints)

pub value_taken : (set : Ranges) (v : ℤ) → IsValid set → has set v ≡ true →
    is_disjoint ((v, v) ∷ []) set ≡ false
value_taken set v s h = false_from_ne_true _ (λ e.
    let no = has_from_disjoint ((v, v) ∷ []) set v (alone_valid set v s h) s e h in
    let yes = has_alone v in cc)

-- a value beside v
abbrev Other : Ranges → ℤ → Type 0
Other set v = (w : ℤ) × (has set w ≡ true) × (has ((v, v) ∷ []) w ≡ false)

other_value : (set : Ranges) (v : ℤ) → IsValid set → has set v ≡ true → is_single set ≡ false →
    Other set v
other_value [] v s h n = absurd (cc)
other_value (r ∷ []) v s h n =
    elim (int_eq r.0 v) as (λ b. int_eq r.0 v ≡ b → Other (r ∷ []) v) [
      | true ↦ λ e. (r.1, grind (arith, ints), grind (arith, ints))
      | false ↦ λ e. (r.0, grind (arith, ints), grind (arith, ints))
    ] refl
other_value (r ∷ q ∷ rs) v s h n =
    elim (int_eq r.0 v) as (λ b. int_eq r.0 v ≡ b → Other (r ∷ q ∷ rs) v) [
      | true ↦ λ e. (q.0, grind (arith, ints), grind (arith, ints))
      | false ↦ λ e. (r.0, grind (arith, ints), grind (arith, ints))
    ] refl

pub value_left : (set : Ranges) (v : ℤ) → IsValid set → has set v ≡ true →
    is_single set ≡ false → is_within set ((v, v) ∷ []) ≡ false
value_left set v s h n =
    let w = other_value set v s h n in
    false_from_ne_true _ (λ e.
    let yes = has_from_within set ((v, v) ∷ []) w.0 s (alone_valid set v s h) e w.1 in
    let no = w.2 in cc)
