-- When a conjunction is quiet, and which parts aren't fixed.
use Rattle.std.proofs.Common.{◌≡◌, ℕ, zero, suc, ◌+◌, ◌<◌, ◌≤◌, Bool, true, false, not, ◌&&◌, ◌||◌, cond, List, [], ◌∷◌, ℤ, pos, length, get_or, drop, refl, arith, subst, sym, ap, ◌∙◌, inl, inr, ◌⊎◌}
use Rattle.std.specs.Prelude.{◌==◌}
use Rattle.std.specs.Ordering.{int_eq}
use Rattle.std.proofs.lemmas.Bool.{and_parts, and_from, cases_eq, false_from_ne_true}
use Rattle.std.proofs.lemmas.Bool.Decides.{nat_tests, Decides-int_eq}
use Rattle.signed_clause.specs.Ranges.{Ranges, has, is_nil, IsValid}
use Rattle.signed_clause.specs.Clauses.{Boxes, box_of}
use Rattle.signed_clause.proofs.RangeSteps.{left_at, left_none}
use Rattle.ground_form.specs.declared.con.Con.TheVariants.{AndDef}
use Rattle.ground_form.specs.Meaning.{bit, part_vars}
use Rattle.ground_form.specs.Bounds.{low_of, high_of}
use Rattle.rule_law.specs.Plans.{IsFlag}
use Rattle.box_rules.specs.Refuted.{fixed_at, barred, some_barred, all_fixed}
use Rattle.box_view.specs.Views.{fixing}
use Rattle.box_rules.specs.Quiet.{quiet}
use Rattle.rule_law.specs.Reasons.{has_number}
use Rattle.box_rules.proofs.FixedLaws.{fixed_value, single_fixed}
use Rattle.box_view.proofs.EndLaws.{AreSets, are_sets, has_low}
use Rattle.box_view.proofs.SetLaws.{fixing_same, fixing_other}
use Rattle.bool_prop.specs.Findings.{IsScene, part_fixed, open_rest, one_open}
use Rattle.box_rules.proofs.QuietFrom.{quiet_from}
use Rattle.box_view.proofs.Leaving.{value_valid}
use Rattle.rule_law.proofs.FlagPlans.{flag_other}

-- ---- sets of one value

pub fixed_has : (s : Ranges) (w : ℤ) → IsValid s → fixed_at s w ≡ true → has s w ≡ true
fixed_has s w f h =
    let parts = and_parts (not (is_nil s)) (int_eq (low_of s) w && int_eq (high_of s) w) h in
    let ends = and_parts (int_eq (low_of s) w) (int_eq (high_of s) w) parts.1 in
    let some : is_nil s ≡ false = grind arith in
    subst (λ (z : ℤ). has s z ≡ true) ((Decides-int_eq (low_of s) w).0 ends.0) (has_low s f some)

lacks_open : (s : Ranges) (w : ℤ) → IsValid s → has s w ≡ false → fixed_at s w ≡ false
lacks_open s w f h = false_from_ne_true (fixed_at s w) (λ q. let yes = fixed_has s w f q in grind arith)

other_value : (s : Ranges) (v w : ℤ) → has s v ≡ true → has s w ≡ false → fixed_at ((v, v) ∷ []) w ≡ false
other_value s v w h k =
    single_fixed v w ∙ false_from_ne_true (int_eq v w) (λ q. let e = (Decides-int_eq v w).0 q in let yes : has s w ≡ true = subst (λ (z : ℤ). has s z ≡ true) e h in grind arith)

same_fixed : (s : Ranges) (v w : ℤ) → IsValid s → has s v ≡ true → fixed_at s w ≡ true → fixed_at ((v, v) ∷ []) w ≡ true
same_fixed s v w f h k = single_fixed v w ∙ (Decides-int_eq v w).1 (fixed_value s w v f k h)

second_false : (a b : Bool) → b ≡ false → (a && b) ≡ false
second_false a b h = grind arith

first_false : (a b : Bool) → a ≡ false → (a && b) ≡ false
first_false a b h = rw h refl

-- ---- boxes of which one is replaced

pub fixing_sets : (boxes : Boxes) (x : ℕ) (v : ℤ) → x < length boxes → AreSets boxes → has (box_of boxes x) v ≡ true → AreSets (fixing boxes x v)
fixing_sets boxes x v lt s h y =
    elim (cases_eq y x) [
      | inl e ↦ subst (λ (z : ℕ). IsValid (box_of (fixing boxes x v) z)) (sym e) (subst (λ (b : Ranges). IsValid b) (sym (fixing_same boxes x v lt)) (value_valid (box_of boxes x) v (s x) h))
      | inr e ↦ subst (λ (b : Ranges). IsValid b) (sym (fixing_other boxes x y v e)) (s y)
    ]

-- what holds of a box and of each of its values alone holds where some box has one of its values
-- alone
pub one_fixed : (P : Ranges → Type 0) (boxes : Boxes) (f : ℕ) → P (box_of boxes f) → ((v : ℤ) → has (box_of boxes f) v ≡ true → P ((v, v) ∷ [])) →
    (y : ℕ) (v : ℤ) → y < length boxes → has (box_of boxes y) v ≡ true → P (box_of (fixing boxes y v) f)
one_fixed P boxes f h one y v lt k =
    elim (cases_eq f y) [
      | inl e ↦ subst (λ (z : ℕ). z < length boxes → has (box_of boxes z) v ≡ true → P (box_of (fixing boxes z v) f)) e
          (λ l m. subst (λ (s : Ranges). P s) (sym (fixing_same boxes f v l)) (one v m)) lt k
      | inr e ↦ subst (λ (s : Ranges). P s) (sym (fixing_other boxes y f v e)) h
    ]

-- ---- parts

-- a barred part isn't fixed, whatever value some box has alone
barred_open : (parts : List (ℕ × Bool)) (boxes : Boxes) (y : ℕ) (v : ℤ) → AreSets boxes → y < length boxes → has (box_of boxes y) v ≡ true →
    some_barred parts boxes ≡ true → all_fixed parts (fixing boxes y v) ≡ false
barred_open [] boxes y v s lt h k = absurd cc
barred_open (p ∷ ps) boxes y v s lt h k =
    let P : Bool → Type 0 = λ t. barred boxes p.0 p.1 ≡ t → all_fixed (p ∷ ps) (fixing boxes y v) ≡ false in
    (elim (barred boxes p.0 p.1) as P [
      | true ↦ λ e.
          let lacks : has (box_of boxes p.0) (bit p.1) ≡ false = grind arith in
          first_false (part_fixed (fixing boxes y v) p) (all_fixed ps (fixing boxes y v))
          (one_fixed (λ b. fixed_at b (bit p.1) ≡ false) boxes p.0 (lacks_open (box_of boxes p.0) (bit p.1) (s p.0) lacks)
          (λ w m. other_value (box_of boxes p.0) w (bit p.1) m lacks) y v lt h)
      | false ↦ λ e. let more : some_barred ps boxes ≡ true = grind arith in
          second_false (part_fixed (fixing boxes y v) p) (all_fixed ps (fixing boxes y v)) (barred_open ps boxes y v s lt h more)
    ]) refl

-- parts that are fixed stay so
all_stay : (parts : List (ℕ × Bool)) (boxes : Boxes) (y : ℕ) (v : ℤ) → AreSets boxes → y < length boxes → has (box_of boxes y) v ≡ true →
    all_fixed parts boxes ≡ true → all_fixed parts (fixing boxes y v) ≡ true
all_stay [] boxes y v s lt h k = refl
all_stay (p ∷ ps) boxes y v s lt h k =
    let parts = and_parts (part_fixed boxes p) (all_fixed ps boxes) k in
    and_from (part_fixed (fixing boxes y v) p) (all_fixed ps (fixing boxes y v))
    (one_fixed (λ b. fixed_at b (bit p.1) ≡ true) boxes p.0 parts.0 (λ w m. same_fixed (box_of boxes p.0) w (bit p.1) (s p.0) m parts.0) y v lt h)
    (all_stay ps boxes y v s lt h parts.1)

-- parts that are fixed aren't barred
fixed_not_barred : (parts : List (ℕ × Bool)) (boxes : Boxes) → AreSets boxes → all_fixed parts boxes ≡ true → some_barred parts boxes ≡ false
fixed_not_barred [] boxes s k = refl
fixed_not_barred (p ∷ ps) boxes s k =
    let parts = and_parts (part_fixed boxes p) (all_fixed ps boxes) k in
    let this = fixed_has (box_of boxes p.0) (bit p.1) (s p.0) parts.0 in
    let more = fixed_not_barred ps boxes s parts.1 in grind arith

-- other boxes don't matter
barred_elsewhere : (parts : List (ℕ × Bool)) (boxes : Boxes) (y : ℕ) (v : ℤ) → has_number y (part_vars parts) ≡ false → some_barred parts (fixing boxes y v) ≡ some_barred parts boxes
barred_elsewhere [] boxes y v h = refl
barred_elsewhere (p ∷ ps) boxes y v h =
    let this : (p.0 == y) ≡ false = grind arith in
    let rest : has_number y (part_vars ps) ≡ false = grind arith in
    let same = fixing_other boxes y p.0 v (λ e. let t : (p.0 == y) ≡ true = grind (arith, nat_tests) in absurd (grind arith)) in
    let more = barred_elsewhere ps boxes y v rest in
    rw (same, more) refl

fixed_elsewhere : (parts : List (ℕ × Bool)) (boxes : Boxes) (y : ℕ) (v : ℤ) → has_number y (part_vars parts) ≡ false → all_fixed parts (fixing boxes y v) ≡ all_fixed parts boxes
fixed_elsewhere [] boxes y v h = refl
fixed_elsewhere (p ∷ ps) boxes y v h =
    let this : (p.0 == y) ≡ false = grind arith in
    let rest : has_number y (part_vars ps) ≡ false = grind arith in
    let same = fixing_other boxes y p.0 v (λ e. let t : (p.0 == y) ≡ true = grind (arith, nat_tests) in absurd (grind arith)) in
    let more = fixed_elsewhere ps boxes y v rest in
    rw (same, more) refl

-- ---- the first part that isn't fixed

cons_head : (p q : ℕ × Bool) (ps qs : List (ℕ × Bool)) → (p ∷ ps) ≡ (q ∷ qs) → p ≡ q
cons_head p q ps qs e = ap (λ (l : List (ℕ × Bool)). first_or p l) e
  where
    first_or : ℕ × Bool → List (ℕ × Bool) → ℕ × Bool
    first_or d [] = d
    first_or d (x ∷ xs) = x

cons_tail : (p q : ℕ × Bool) (ps qs : List (ℕ × Bool)) → (p ∷ ps) ≡ (q ∷ qs) → ps ≡ qs
cons_tail p q ps qs e = ap (λ (l : List (ℕ × Bool)). drop 1 l) e

none_is_some : (q : ℕ × Bool) (qs : List (ℕ × Bool)) → [] ≡ (q ∷ qs) → ⊥
none_is_some q qs e = absurd cc

pub rest_none : (parts : List (ℕ × Bool)) (boxes : Boxes) → open_rest parts boxes ≡ [] → all_fixed parts boxes ≡ true
rest_none [] boxes h = refl
rest_none (p ∷ ps) boxes h =
    let P : Bool → Type 0 = λ t. part_fixed boxes p ≡ t → cond t (open_rest ps boxes) (p ∷ ps) ≡ [] → all_fixed (p ∷ ps) boxes ≡ true in
    (elim (part_fixed boxes p) as P [
      | true ↦ λ e k. and_from (part_fixed boxes p) (all_fixed ps boxes) e (rest_none ps boxes k)
      | false ↦ λ e k. absurd (none_is_some p ps (sym k))
    ]) refl h

-- its part isn't fixed
pub rest_open : (parts : List (ℕ × Bool)) (boxes : Boxes) (q : ℕ × Bool) (qs : List (ℕ × Bool)) → open_rest parts boxes ≡ q ∷ qs → part_fixed boxes q ≡ false
rest_open [] boxes q qs h = absurd (none_is_some q qs h)
rest_open (p ∷ ps) boxes q qs h =
    let P : Bool → Type 0 = λ t. part_fixed boxes p ≡ t → cond t (open_rest ps boxes) (p ∷ ps) ≡ q ∷ qs → part_fixed boxes q ≡ false in
    (elim (part_fixed boxes p) as P [
      | true ↦ λ e k. rest_open ps boxes q qs k
      | false ↦ λ e k. subst (λ (z : ℕ × Bool). part_fixed boxes z ≡ false) (cons_head p q ps qs k) e
    ]) refl h

-- where it isn't fixed in other boxes, not all are
open_there : (parts : List (ℕ × Bool)) (boxes others : Boxes) (q : ℕ × Bool) (qs : List (ℕ × Bool)) → open_rest parts boxes ≡ q ∷ qs → part_fixed others q ≡ false → all_fixed parts others ≡ false
open_there [] boxes others q qs h f = absurd (none_is_some q qs h)
open_there (p ∷ ps) boxes others q qs h f =
    let P : Bool → Type 0 = λ t. cond t (open_rest ps boxes) (p ∷ ps) ≡ q ∷ qs → all_fixed (p ∷ ps) others ≡ false in
    (elim (part_fixed boxes p) as P [
      | true ↦ λ k. second_false (part_fixed others p) (all_fixed ps others) (open_there ps boxes others q qs k f)
      | false ↦ λ k. first_false (part_fixed others p) (all_fixed ps others) (subst (λ (z : ℕ × Bool). part_fixed others z ≡ false) (sym (cons_head p q ps qs k)) f)
    ]) h

-- and so where the next one isn't
next_there : (parts : List (ℕ × Bool)) (boxes others : Boxes) (q r : ℕ × Bool) (qs rs : List (ℕ × Bool)) → open_rest parts boxes ≡ q ∷ qs → open_rest qs boxes ≡ r ∷ rs →
    part_fixed others r ≡ false → all_fixed parts others ≡ false
next_there [] boxes others q r qs rs h k f = absurd (none_is_some q qs h)
next_there (p ∷ ps) boxes others q r qs rs h k f =
    let P : Bool → Type 0 = λ t. cond t (open_rest ps boxes) (p ∷ ps) ≡ q ∷ qs → all_fixed (p ∷ ps) others ≡ false in
    (elim (part_fixed boxes p) as P [
      | true ↦ λ m. second_false (part_fixed others p) (all_fixed ps others) (next_there ps boxes others q r qs rs m k f)
      | false ↦ λ m. second_false (part_fixed others p) (all_fixed ps others)
          (open_there ps boxes others r rs (subst (λ (z : List (ℕ × Bool)). open_rest z boxes ≡ r ∷ rs) (sym (cons_tail p q ps qs m)) k) f)
    ]) h

barred_there : (parts : List (ℕ × Bool)) (boxes : Boxes) (q : ℕ × Bool) (qs : List (ℕ × Bool)) → open_rest parts boxes ≡ q ∷ qs → (barred boxes q.0 q.1 || some_barred qs boxes) ≡ true → some_barred parts boxes ≡ true
barred_there [] boxes q qs h f = absurd (none_is_some q qs h)
barred_there (p ∷ ps) boxes q qs h f =
    let P : Bool → Type 0 = λ t. cond t (open_rest ps boxes) (p ∷ ps) ≡ q ∷ qs → some_barred (p ∷ ps) boxes ≡ true in
    (elim (part_fixed boxes p) as P [
      | true ↦ λ m. let more = barred_there ps boxes q qs m f in grind arith
      | false ↦ λ m. subst (λ (z : List (ℕ × Bool)). some_barred z boxes ≡ true) (sym m) f
    ]) h

-- ---- quietness

and_def_false : (one zeroes some all : Bool) → (one || some) ≡ false → ((one || some) && (zeroes || all)) ≡ false
and_def_false one zeroes some all h = first_false (one || some) (zeroes || all) h

-- where the flag is 1 and all parts are fixed
pub held_quiet : (flag : ℕ) (parts : List (ℕ × Bool)) (boxes : Boxes) → IsScene flag parts boxes → barred boxes flag false ≡ true → all_fixed parts boxes ≡ true → quiet (AndDef flag parts) boxes ≡ true
held_quiet flag parts boxes s b h =
    let sets = are_sets boxes s.sets in
    let lacks : has (box_of boxes flag) (pos 0) ≡ false = grind arith in
    let here = flag_other false (box_of boxes flag) s.bits lacks in
    let none = fixed_not_barred parts boxes sets h in
    let can : barred boxes flag true ≡ false = grind arith in
    quiet_from (AndDef flag parts) boxes sets s.named s.some
    (and_def_false (barred boxes flag true) (barred boxes flag false) (some_barred parts boxes) (all_fixed parts boxes) (rw (can, none) refl))
    (λ y v lt k.
    let stays = all_stay parts boxes y v sets lt k h in
    let unbarred = fixed_not_barred parts (fixing boxes y v) (fixing_sets boxes y v lt sets k) stays in
    let holds : has (box_of (fixing boxes y v) flag) (pos 1) ≡ true =
    one_fixed (λ b. has b (pos 1) ≡ true) boxes flag here (λ w m. only_one (box_of boxes flag) w s.bits lacks m) y v lt k in
    and_def_false (barred (fixing boxes y v) flag true) (barred (fixing boxes y v) flag false) (some_barred parts (fixing boxes y v)) (all_fixed parts (fixing boxes y v)) (rw (holds, unbarred) refl))
  where
    only_one : (s : Ranges) (w : ℤ) → IsFlag s → has s (pos 0) ≡ false → has s w ≡ true → has ((w, w) ∷ []) (pos 1) ≡ true
    only_one s w f h m = elim (f.bits w m) [
      | inl e ↦ let no : has s (pos 0) ≡ true = subst (λ (z : ℤ). has s z ≡ true) e m in absurd (grind arith)
      | inr e ↦ subst (λ (z : ℤ). has ((z, z) ∷ []) (pos 1) ≡ true) (sym e) refl
    ]

and_def_denied : (one zeroes some all : Bool) → zeroes ≡ false → all ≡ false → ((one || some) && (zeroes || all)) ≡ false
and_def_denied one zeroes some all h k = second_false (one || some) (zeroes || all) (rw (h, k) refl)

only_zero : (s : Ranges) (w : ℤ) → IsFlag s → has s (pos 1) ≡ false → has s w ≡ true → has ((w, w) ∷ []) (pos 0) ≡ true
only_zero s w f h m = elim (f.bits w m) [
  | inl e ↦ subst (λ (z : ℤ). has ((z, z) ∷ []) (pos 0) ≡ true) (sym e) refl
  | inr e ↦ let no : has s (pos 1) ≡ true = subst (λ (z : ℤ). has s z ≡ true) e m in absurd (grind arith)
]

-- where the flag is 0, and no value makes all parts fixed
denied_quiet : (flag : ℕ) (parts : List (ℕ × Bool)) (boxes : Boxes) → IsScene flag parts boxes → barred boxes flag true ≡ true → all_fixed parts boxes ≡ false →
    ((y : ℕ) (v : ℤ) → y < length boxes → has (box_of boxes y) v ≡ true → all_fixed parts (fixing boxes y v) ≡ false) → quiet (AndDef flag parts) boxes ≡ true
denied_quiet flag parts boxes s b n h =
    let lacks : has (box_of boxes flag) (pos 1) ≡ false = grind arith in
    let here = flag_other true (box_of boxes flag) s.bits lacks in
    quiet_from (AndDef flag parts) boxes (are_sets boxes s.sets) s.named s.some
    (and_def_denied (barred boxes flag true) (barred boxes flag false) (some_barred parts boxes) (all_fixed parts boxes) (rw here refl) n)
    (λ y v lt k.
    let holds : has (box_of (fixing boxes y v) flag) (pos 0) ≡ true =
    one_fixed (λ b. has b (pos 0) ≡ true) boxes flag here (λ w m. only_zero (box_of boxes flag) w s.bits lacks m) y v lt k in
    and_def_denied (barred (fixing boxes y v) flag true) (barred (fixing boxes y v) flag false) (some_barred parts (fixing boxes y v)) (all_fixed parts (fixing boxes y v)) (rw holds refl) (h y v lt k))

-- where the flag is 0, and the first part that isn't fixed, or the next one, is barred
pub first_quiet : (flag : ℕ) (parts : List (ℕ × Bool)) (boxes : Boxes) (q : ℕ × Bool) (qs : List (ℕ × Bool)) → IsScene flag parts boxes → barred boxes flag true ≡ true → open_rest parts boxes ≡ q ∷ qs →
    (barred boxes q.0 q.1 || some_barred qs boxes) ≡ true → quiet (AndDef flag parts) boxes ≡ true
first_quiet flag parts boxes q qs s b e h =
    denied_quiet flag parts boxes s b (open_there parts boxes boxes q qs e (rest_open parts boxes q qs e))
    (λ y v lt k. barred_open parts boxes y v (are_sets boxes s.sets) lt k (barred_there parts boxes q qs e h))

pub next_quiet : (flag : ℕ) (parts : List (ℕ × Bool)) (boxes : Boxes) (q r : ℕ × Bool) (qs rs : List (ℕ × Bool)) → IsScene flag parts boxes → barred boxes flag true ≡ true →
    open_rest parts boxes ≡ q ∷ qs → open_rest qs boxes ≡ r ∷ rs → barred boxes r.0 r.1 ≡ true → quiet (AndDef flag parts) boxes ≡ true
next_quiet flag parts boxes q r qs rs s b e g h =
    let more = barred_there qs boxes r rs g (rw h refl) in
    first_quiet flag parts boxes q qs s b e (or_second (barred boxes q.0 q.1) (some_barred qs boxes) more)
  where
    or_second : (x y : Bool) → y ≡ true → (x || y) ≡ true
    or_second x y k = grind arith

-- where the flag is 0, and two parts of different variables aren't fixed
pub two_quiet : (flag : ℕ) (parts : List (ℕ × Bool)) (boxes : Boxes) (q r : ℕ × Bool) (qs rs : List (ℕ × Bool)) → IsScene flag parts boxes → barred boxes flag true ≡ true →
    open_rest parts boxes ≡ q ∷ qs → open_rest qs boxes ≡ r ∷ rs → (q.0 ≡ r.0 → ⊥) → quiet (AndDef flag parts) boxes ≡ true
two_quiet flag parts boxes q r qs rs s b e g n =
    let first = rest_open parts boxes q qs e in
    let next = rest_open qs boxes r rs g in
    denied_quiet flag parts boxes s b (open_there parts boxes boxes q qs e first)
    (λ y v lt k. elim (cases_eq q.0 y) [
      | inl i ↦ next_there parts boxes (fixing boxes y v) q r qs rs e g
          (subst (λ (z : Ranges). fixed_at z (bit r.1) ≡ false) (sym (fixing_other boxes y r.0 v (λ j. n (i ∙ sym j)))) next)
      | inr i ↦ open_there parts boxes (fixing boxes y v) q qs e (subst (λ (z : Ranges). fixed_at z (bit q.1) ≡ false) (sym (fixing_other boxes y q.0 v i)) first)
    ])

and_def_either : (one zeroes some all : Bool) → one ≡ false → zeroes ≡ false → (all ≡ true → some ≡ false) → ((one || some) && (zeroes || all)) ≡ false
and_def_either one zeroes some all h k m = grind arith

last_false : (a : Bool) → (a && false) ≡ false
last_false a = grind arith

and_def_bit : (w : ℤ) (some all : Bool) → some ≡ false → all ≡ false → (w ≡ pos 0) ⊎ (w ≡ pos 1) →
    ((not (has ((w, w) ∷ []) (pos 1)) || some) && (not (has ((w, w) ∷ []) (pos 0)) || all)) ≡ false
and_def_bit w some all h k (inl e) = subst (λ (z : ℤ). ((not (has ((z, z) ∷ []) (pos 1)) || some) && (not (has ((z, z) ∷ []) (pos 0)) || all)) ≡ false) (sym e) (rw k (last_false (true || some)))
and_def_bit w some all h k (inr e) = subst (λ (z : ℤ). ((not (has ((z, z) ∷ []) (pos 1)) || some) && (not (has ((z, z) ∷ []) (pos 0)) || all)) ≡ false) (sym e) (rw h refl)

-- where the flag is open and no part, no part is barred and not all are fixed
pub open_quiet : (flag : ℕ) (parts : List (ℕ × Bool)) (boxes : Boxes) → IsScene flag parts boxes → barred boxes flag true ≡ false → barred boxes flag false ≡ false →
    some_barred parts boxes ≡ false → all_fixed parts boxes ≡ false → has_number flag (part_vars parts) ≡ false → quiet (AndDef flag parts) boxes ≡ true
open_quiet flag parts boxes s b c h k n =
    let sets = are_sets boxes s.sets in
    quiet_from (AndDef flag parts) boxes sets s.named s.some
    (and_def_either (barred boxes flag true) (barred boxes flag false) (some_barred parts boxes) (all_fixed parts boxes) b c (λ q. h))
    (λ y v lt m. elim (cases_eq flag y) [
      | inl e ↦ subst (λ (z : ℕ). z < length boxes → has (box_of boxes z) v ≡ true →
          ((barred (fixing boxes z v) flag true || some_barred parts (fixing boxes z v)) && (barred (fixing boxes z v) flag false || all_fixed parts (fixing boxes z v))) ≡ false) e
          (λ l i. subst (λ (t : Ranges). ((not (has t (pos 1)) || some_barred parts (fixing boxes flag v)) && (not (has t (pos 0)) || all_fixed parts (fixing boxes flag v))) ≡ false) (sym (fixing_same boxes flag v l))
          (and_def_bit v (some_barred parts (fixing boxes flag v)) (all_fixed parts (fixing boxes flag v)) (barred_elsewhere parts boxes flag v n ∙ h) (fixed_elsewhere parts boxes flag v n ∙ k) (s.bits.bits v i))) lt m
      | inr e ↦
          let same = fixing_other boxes y flag v e in
          subst (λ (t : Ranges). ((not (has t (pos 1)) || some_barred parts (fixing boxes y v)) && (not (has t (pos 0)) || all_fixed parts (fixing boxes y v))) ≡ false) (sym same)
          (and_def_either (not (has (box_of boxes flag) (pos 1))) (not (has (box_of boxes flag) (pos 0))) (some_barred parts (fixing boxes y v)) (all_fixed parts (fixing boxes y v)) b c
          (λ q. fixed_not_barred parts (fixing boxes y v) (fixing_sets boxes y v lt sets m) q))
    ])

-- ---- what the walks find

same_at : (parts : List (ℕ × Bool)) (i : ℕ) (d e : ℕ × Bool) → i < length parts → get_or parts i d ≡ get_or parts i e
same_at [] i d e lt = absurd (omega arith)
same_at (p ∷ ps) zero d e lt = refl
same_at (p ∷ ps) (suc i) d e lt = same_at ps i d e (omega arith)

pub part_at : (P : ℕ × Bool → Type 0) (parts : List (ℕ × Bool)) (i : ℕ) (d : ℕ × Bool) → i < length parts → P (get_or parts i d) → (e : ℕ × Bool) → P (get_or parts i e)
part_at P parts i d lt h e = subst (λ (p : ℕ × Bool). P p) (same_at parts i d e lt) h

pub rest_at : (whole parts : List (ℕ × Bool)) (boxes : Boxes) (i : ℕ) (d : ℕ × Bool) → i < length parts → open_rest whole boxes ≡ drop i parts → open_rest whole boxes ≡ get_or parts i d ∷ drop (i + 1) parts
rest_at whole parts boxes i d lt e = e ∙ left_at parts i (get_or parts i d) d lt refl

-- where all parts but one are fixed
pub one_open_is : (parts : List (ℕ × Bool)) (boxes : Boxes) (q : ℕ × Bool) (qs : List (ℕ × Bool)) → open_rest parts boxes ≡ q ∷ qs → barred boxes q.0 q.1 ≡ false → open_rest qs boxes ≡ [] → one_open parts boxes ≡ true
one_open_is [] boxes q qs h b e = absurd (none_is_some q qs h)
one_open_is (p ∷ ps) boxes q qs h b e =
    let P : Bool → Type 0 = λ t. cond t (open_rest ps boxes) (p ∷ ps) ≡ q ∷ qs → cond t (one_open ps boxes) (not (barred boxes p.0 p.1) && all_fixed ps boxes) ≡ true in
    (elim (part_fixed boxes p) as P [
      | true ↦ λ k. one_open_is ps boxes q qs k b e
      | false ↦ λ k.
          let can : barred boxes p.0 p.1 ≡ false = subst (λ (z : ℕ × Bool). barred boxes z.0 z.1 ≡ false) (sym (cons_head p q ps qs k)) b in
          let all : all_fixed ps boxes ≡ true = rest_none ps boxes (subst (λ (z : List (ℕ × Bool)). open_rest z boxes ≡ []) (sym (cons_tail p q ps qs k)) e) in
          rw (can, all) refl
    ]) h

not_true_is : (b : Bool) → not b ≡ true → b ≡ false
not_true_is true h = absurd cc
not_true_is false h = refl

pub denied_can_fail : (flag : ℕ) (boxes : Boxes) → IsFlag (box_of boxes flag) → barred boxes flag true ≡ true → barred boxes flag false ≡ false
denied_can_fail flag boxes f h = let here = flag_other true (box_of boxes flag) f (not_true_is (has (box_of boxes flag) (pos 1)) h) in rw here refl

pub open_end : (flag : ℕ) (parts : List (ℕ × Bool)) (boxes : Boxes) (i : ℕ) (is_open : Bool) → IsScene flag parts boxes → barred boxes flag true ≡ false → barred boxes flag false ≡ false → length parts ≤ i →
    some_barred (drop i parts) boxes ≡ some_barred parts boxes → (not is_open && all_fixed (drop i parts) boxes) ≡ all_fixed parts boxes → has_number flag (part_vars (drop i parts)) ≡ has_number flag (part_vars parts) →
    is_open ≡ true → quiet (AndDef flag parts) boxes ≡ true
open_end flag parts boxes i is_open s b c le some all n o =
    let none : drop i parts ≡ [] = left_none parts i le in
    open_quiet flag parts boxes s b c (sym some ∙ ap (λ (z : List (ℕ × Bool)). some_barred z boxes) none)
    (sym all ∙ ap (λ (z : Bool). not z && all_fixed (drop i parts) boxes) o) (sym n ∙ ap (λ (z : List (ℕ × Bool)). has_number flag (part_vars z)) none)
