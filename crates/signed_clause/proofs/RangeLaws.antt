-- The laws of the sets: what each operation holds, and that it is canonical.
use Rattle.std.proofs.Common.{◌≡◌, true, false, not, ◌&&◌, ◌||◌, cond, [], ◌∷◌, ℤ, pos, ◌+ℤ◌, ◌-ℤ◌, ◌≤ℤ◌, ◌<ℤ◌, refl, sym, ◌∙◌, arith, ◌⊎◌, inl, inr}
use Rattle.std.specs.Prelude.{int_le, int_lt}
use Rattle.std.specs.Int.{int_max, int_min}
use Rattle.std.proofs.lemmas.Int.{ints, clamps}
use Rattle.signed_clause.specs.Ranges.{Ranges, in_range, has, Ascends}
use Rattle.signed_clause.specs.SetAlgebra.{piece, meet_from, meet, less_from, less, with_range, join}

-- nothing below the first range
pub has-below : (low top : ℤ) (rs : Ranges) (v : ℤ) → Ascends low top rs → v <ℤ low → has rs v ≡ false
has-below low top [] v s h = refl
has-below low top (r ∷ rs) v s h =
    let rest = has-below (r.1 +ℤ pos 2) top rs v s.2 (omega (arith, ints)) in
    grind (arith, ints)

pub has-piece : (low high v : ℤ) (rest : Ranges) → has (piece low high rest) v ≡ (in_range (low, high) v || has rest v)
has-piece low high v rest = grind (arith, ints)

-- below and above one range
pub has-meet_from : (rest : Ranges → Ranges) (a : Ranges) (r : ℤ × ℤ) (low top low' top' : ℤ) (b : Ranges) (v : ℤ) →
    ((b : Ranges) (low' : ℤ) → Ascends low' top' b → has (rest b) v ≡ (has a v && has b v)) → Ascends low top (r ∷ a) → Ascends low' top' b →
    has (meet_from rest r b) v ≡ (has (r ∷ a) v && has b v)
has-meet_from rest a r low top low' top' [] v rests sa sb = grind (arith, ints)
has-meet_from rest a r low top low' top' (s ∷ b) v rests sa sb =
    let after = has-meet_from rest a r low top (s.1 +ℤ pos 2) top' b v rests sa sb.2 in
    let here = rests (s ∷ b) low' sb in
    let p = has-piece (int_max r.0 s.0) (int_min r.1 s.1) v (cond (int_lt s.1 r.1) (meet_from rest r b) (rest (s ∷ b))) in
    let below_a = has-below (r.1 +ℤ pos 2) top a v sa.2 in
    let below_b = has-below (s.1 +ℤ pos 2) top' b v sb.2 in
    p ∙ grind (arith, ints, clamps)

pub has-meet : (a b : Ranges) (low top low' top' : ℤ) (v : ℤ) → Ascends low top a → Ascends low' top' b → has (meet a b) v ≡ (has a v && has b v)
has-meet [] b low top low' top' v sa sb = refl
has-meet (r ∷ a) b low top low' top' v sa sb =
    has-meet_from (meet a) a r low top low' top' b v (λ b low' sb. has-meet a b (r.1 +ℤ pos 2) top low' top' v sa.2 sb) sa sb

pub Ascends-weaken : (low low' top : ℤ) (rs : Ranges) → low ≤ℤ low' → Ascends low' top rs → Ascends low top rs
Ascends-weaken low low' top [] h s = omega (arith, ints)
Ascends-weaken low low' top (r ∷ rs) h s = (omega (arith, ints), s.1, s.2)

pub Ascends-piece : (low a b top : ℤ) (rest : Ranges) → low ≤ℤ a → Ascends low top rest → (a ≤ℤ b → Ascends (b +ℤ pos 2) top rest) → Ascends low top (piece a b rest)
Ascends-piece low a b top rest h s t = elim (int_le a b) as (λ x. int_le a b ≡ x → Ascends low top (cond x ((a, b) ∷ rest) rest)) [ true ↦ λ e. (h, grind (arith, ints), t (grind (arith, ints))) | false ↦ λ e. s ] refl

pub Ascends-ends : (low top : ℤ) (rs : Ranges) → Ascends low top rs → low ≤ℤ (top +ℤ pos 2)
Ascends-ends low top [] s = s
Ascends-ends low top (r ∷ rs) s = let rest = Ascends-ends (r.1 +ℤ pos 2) top rs s.2 in omega (arith, ints)

-- the meet begins no lower than either set
pub Ascends-meet_from : (rest : Ranges → Ranges) (a : Ranges) (r : ℤ × ℤ) (l low low' top : ℤ) (b : Ranges) →
    ((b : Ranges) (l low' : ℤ) → Ascends low' top b → l ≤ℤ int_max (r.1 +ℤ pos 2) low' → Ascends l top (rest b)) →
    Ascends low top (r ∷ a) → Ascends low' top b → l ≤ℤ int_max low low' → Ascends l top (meet_from rest r b)
Ascends-meet_from rest a r l low low' top [] rests sa sb h =
    let ends = Ascends-ends low top (r ∷ a) sa in omega (arith, ints, clamps)
Ascends-meet_from rest a r l low low' top (s ∷ b) rests sa sb h =
    let low'' : ℤ = int_min r.1 s.1 +ℤ pos 2 in
    let step : (l : ℤ) → (l ≤ℤ int_max low low') ⊎ (l ≡ low'') → Ascends l top (cond (int_lt s.1 r.1) (meet_from rest r b) (rest (s ∷ b))) =
    λ l k. elim (int_lt s.1 r.1) as (λ x. int_lt s.1 r.1 ≡ x → Ascends l top (cond x (meet_from rest r b) (rest (s ∷ b)))) [
      | true ↦ λ e. Ascends-meet_from rest a r l low (s.1 +ℤ pos 2) top b rests sa sb.2 (grind (arith, ints, clamps))
      | false ↦ λ e. rests (s ∷ b) l low' sb (grind (arith, ints, clamps))
    ] refl in
    Ascends-piece l (int_max r.0 s.0) (int_min r.1 s.1) top _ (omega (arith, ints, clamps)) (step l (inl h)) (λ _. step low'' (inr refl))

pub Ascends-meet : (a b : Ranges) (l low low' top : ℤ) → Ascends low top a → Ascends low' top b → l ≤ℤ int_max low low' → Ascends l top (meet a b)
Ascends-meet [] b l low low' top sa sb h = let ends = Ascends-ends low' top b sb in omega (arith, ints, clamps)
Ascends-meet (r ∷ a) b l low low' top sa sb h =
    Ascends-meet_from (meet a) a r l low low' top b (λ b l low' sb h. Ascends-meet a b l (r.1 +ℤ pos 2) low' top sa.2 sb h) sa sb h

-- ---- less

pub has-less_from : (rest : Ranges → Ranges) (a : Ranges) (low high top low' top' : ℤ) (b : Ranges) (v : ℤ) →
    ((b : Ranges) (low' : ℤ) → Ascends low' top' b → has (rest b) v ≡ (has a v && not (has b v))) → low ≤ℤ high → Ascends (high +ℤ pos 2) top a → Ascends low' top' b →
    has (less_from rest low high b) v ≡ ((in_range (low, high) v || has a v) && not (has b v))
has-less_from rest a low high top low' top' [] v rests h sa sb =
    let here = rests [] low' sb in has-piece low high v (rest []) ∙ grind (arith, ints)
has-less_from rest a low high top low' top' (s ∷ b) v rests h sa sb =
    let here = rests (s ∷ b) low' sb in
    let below_a = has-below (high +ℤ pos 2) top a v sa in
    let below_b = has-below (s.1 +ℤ pos 2) top' b v sb.2 in
    has-piece low (int_min high (s.0 -ℤ pos 1)) v _ ∙ (elim (int_lt s.1 high) as (λ x. int_lt s.1 high ≡ x → (in_range (low, int_min high (s.0 -ℤ pos 1)) v || has (cond x (less_from rest (int_max low (s.1 +ℤ pos 1)) high b) (rest (s ∷ b))) v) ≡ ((in_range (low, high) v || has a v) && not (has (s ∷ b) v))) [
      | true ↦ λ f. let after = has-less_from rest a (int_max low (s.1 +ℤ pos 1)) high top (s.1 +ℤ pos 2) top' b v rests (grind (arith, ints, clamps)) sa sb.2 in grind (arith, ints, clamps)
      | false ↦ λ f. grind (arith, ints, clamps)
    ] refl)

pub has-less : (a b : Ranges) (low top low' top' : ℤ) (v : ℤ) → Ascends low top a → Ascends low' top' b → has (less a b) v ≡ (has a v && not (has b v))
has-less [] b low top low' top' v sa sb = refl
has-less (r ∷ a) b low top low' top' v sa sb =
    has-less_from (less a) a r.0 r.1 top low' top' b v (λ b low' sb. has-less a b (r.1 +ℤ pos 2) top low' top' v sa.2 sb) sa.1 sa.2 sb

pub Ascends-less_from : (rest : Ranges → Ranges) (l low high top low' top' : ℤ) (b : Ranges) →
    ((b : Ranges) (l low' : ℤ) → Ascends low' top' b → l ≤ℤ (high +ℤ pos 2) → Ascends l top (rest b)) → low ≤ℤ high → l ≤ℤ low → Ascends low' top' b →
    Ascends l top (less_from rest low high b)
Ascends-less_from rest l low high top low' top' [] rests h k sb =
    Ascends-piece l low high top _ k (rests [] l low' sb (omega (arith, ints))) (λ _. rests [] _ low' sb (omega (arith, ints)))
Ascends-less_from rest l low high top low' top' (s ∷ b) rests h k sb =
    let step : (l : ℤ) → l ≤ℤ int_max low (s.1 +ℤ pos 1) → l ≤ℤ (high +ℤ pos 2) → Ascends l top (cond (int_lt s.1 high) (less_from rest (int_max low (s.1 +ℤ pos 1)) high b) (rest (s ∷ b))) =
    λ l m n. elim (int_lt s.1 high) as (λ x. int_lt s.1 high ≡ x → Ascends l top (cond x (less_from rest (int_max low (s.1 +ℤ pos 1)) high b) (rest (s ∷ b)))) [
      | true ↦ λ e. Ascends-less_from rest l (int_max low (s.1 +ℤ pos 1)) high top (s.1 +ℤ pos 2) top' b rests (grind (arith, ints, clamps)) m sb.2
      | false ↦ λ e. rests (s ∷ b) l low' sb n
    ] refl in
    Ascends-piece l low (int_min high (s.0 -ℤ pos 1)) top _ k (step l (omega (arith, ints, clamps)) (omega (arith, ints))) (λ _. step _ (omega (arith, ints, clamps)) (omega (arith, ints, clamps)))

pub Ascends-less : (a b : Ranges) (l low top low' top' : ℤ) → Ascends low top a → Ascends low' top' b → l ≤ℤ low → Ascends l top (less a b)
Ascends-less [] b l low top low' top' sa sb h = omega (arith, ints)
Ascends-less (r ∷ a) b l low top low' top' sa sb h =
    Ascends-less_from (less a) l r.0 r.1 top low' top' b (λ b l low' sb h. Ascends-less a b l (r.1 +ℤ pos 2) top low' top' sa.2 sb h) sa.1 (omega (arith, ints)) sb

-- ---- join

pub has-with_range : (low high low' top : ℤ) (b : Ranges) (v : ℤ) → low ≤ℤ high → Ascends low' top b → has (with_range low high b) v ≡ (in_range (low, high) v || has b v)
has-with_range low high low' top [] v h sb = refl
has-with_range low high low' top (s ∷ b) v h sb =
    let after = has-with_range low high (s.1 +ℤ pos 2) top b v h sb.2 in
    let merged = has-with_range (int_min low s.0) (int_max high s.1) (s.1 +ℤ pos 2) top b v (omega (arith, ints, clamps)) sb.2 in
    grind (arith, ints, clamps)

pub Ascends-with_range : (low high low' top : ℤ) (b : Ranges) → low ≤ℤ high → high ≤ℤ top → low' ≤ℤ low → Ascends low' top b → Ascends low' top (with_range low high b)
Ascends-with_range low high low' top [] h k l sb = (l, h, omega (arith, ints))
Ascends-with_range low high low' top (s ∷ b) h k l sb =
    let ends = Ascends-ends (s.1 +ℤ pos 2) top b sb.2 in
    elim (int_lt (s.1 +ℤ pos 1) low) as (λ x. int_lt (s.1 +ℤ pos 1) low ≡ x → Ascends low' top (cond x (s ∷ with_range low high b) (cond (int_lt (high +ℤ pos 1) s.0) ((low, high) ∷ s ∷ b) (with_range (int_min low s.0) (int_max high s.1) b)))) [
      | true ↦ λ e. (sb.0, sb.1, Ascends-with_range low high (s.1 +ℤ pos 2) top b h k (grind (arith, ints)) sb.2)
      | false ↦ λ e. elim (int_lt (high +ℤ pos 1) s.0) as (λ x. int_lt (high +ℤ pos 1) s.0 ≡ x → Ascends low' top (cond x ((low, high) ∷ s ∷ b) (with_range (int_min low s.0) (int_max high s.1) b))) [
        | true ↦ λ e. (l, h, (grind (arith, ints), sb.1, sb.2))
        | false ↦ λ e. Ascends-with_range (int_min low s.0) (int_max high s.1) low' top b (omega (arith, ints, clamps)) (omega (arith, ints, clamps)) (omega (arith, ints, clamps)) (Ascends-weaken low' (s.1 +ℤ pos 2) top b (omega (arith, ints)) sb.2)
      ] refl
    ] refl

pub Ascends-join : (a b : Ranges) (low top : ℤ) → Ascends low top a → Ascends low top b → Ascends low top (join a b)
Ascends-join [] b low top sa sb = sb
Ascends-join (r ∷ a) b low top sa sb =
    let ends = Ascends-ends (r.1 +ℤ pos 2) top a sa.2 in
    Ascends-with_range r.0 r.1 low top (join a b) sa.1 (omega (arith, ints)) sa.0 (Ascends-join a b low top (Ascends-weaken low (r.1 +ℤ pos 2) top a (omega (arith, ints)) sa.2) sb)

pub has-join : (a b : Ranges) (low top : ℤ) (v : ℤ) → Ascends low top a → Ascends low top b → has (join a b) v ≡ (has a v || has b v)
has-join [] b low top v sa sb = refl
has-join (r ∷ a) b low top v sa sb =
    let ta = Ascends-weaken low (r.1 +ℤ pos 2) top a (omega (arith, ints)) sa.2 in
    let more = has-with_range r.0 r.1 low top (join a b) v sa.1 (Ascends-join a b low top ta sb) in
    let rest = has-join a b low top v ta sb in
    grind (arith, ints)

-- ---- sets with the same values are one list

same_cons : (r s : ℤ × ℤ) (a b : Ranges) → r.0 ≡ s.0 → r.1 ≡ s.1 → a ≡ b → r ∷ a ≡ s ∷ b
same_cons (r, r') (s, s') a b first last rest = cc

-- the first value
same_first : (r s : ℤ × ℤ) (a b : Ranges) (low top low' top' : ℤ) → Ascends low top (r ∷ a) → Ascends low' top' (s ∷ b) → ((v : ℤ) → has (r ∷ a) v ≡ has (s ∷ b) v) → s.0 ≤ℤ r.0
same_first r s a b low top low' top' sa sb h =
    let at = h r.0 in
    let below_b = has-below (s.1 +ℤ pos 2) top' b r.0 sb.2 in grind (arith, ints)

same_last : (r s : ℤ × ℤ) (a b : Ranges) (low top low' top' : ℤ) → Ascends low top (r ∷ a) → Ascends low' top' (s ∷ b) → ((v : ℤ) → has (r ∷ a) v ≡ has (s ∷ b) v) → r.0 ≡ s.0 → s.1 ≤ℤ r.1
same_last r s a b low top low' top' sa sb h first =
    let at = h (r.1 +ℤ pos 1) in
    let below_a = has-below (r.1 +ℤ pos 2) top a (r.1 +ℤ pos 1) sa.2 in grind (arith, ints)

same_tail : (r s : ℤ × ℤ) (a b : Ranges) (low top low' top' : ℤ) → Ascends low top (r ∷ a) → Ascends low' top' (s ∷ b) → ((v : ℤ) → has (r ∷ a) v ≡ has (s ∷ b) v) → r.0 ≡ s.0 → r.1 ≡ s.1 → (v : ℤ) → has a v ≡ has b v
same_tail r s a b low top low' top' sa sb h first last v =
    let at = h v in
    let below_a = has-below (r.1 +ℤ pos 2) top a v sa.2 in
    let below_b = has-below (s.1 +ℤ pos 2) top' b v sb.2 in grind (arith, ints)

antisym : (x y : ℤ) → x ≤ℤ y → y ≤ℤ x → x ≡ y
antisym x y h k = omega (arith, ints)

pub same_ranges : (a b : Ranges) (low top low' top' : ℤ) → Ascends low top a → Ascends low' top' b → ((v : ℤ) → has a v ≡ has b v) → a ≡ b
same_ranges [] [] low top low' top' sa sb h = refl
same_ranges [] (s ∷ b) low top low' top' sa sb h = let at = h s.0 in absurd (grind (arith, ints))
same_ranges (r ∷ a) [] low top low' top' sa sb h = let at = h r.0 in absurd (grind (arith, ints))
same_ranges (r ∷ a) (s ∷ b) low top low' top' sa sb h =
    let back : (v : ℤ) → has (s ∷ b) v ≡ has (r ∷ a) v = λ v. sym (h v) in
    let first : r.0 ≡ s.0 = antisym _ _ (same_first s r b a low' top' low top sb sa back) (same_first r s a b low top low' top' sa sb h) in
    let last : r.1 ≡ s.1 = antisym _ _ (same_last s r b a low' top' low top sb sa back (sym first)) (same_last r s a b low top low' top' sa sb h first) in
    same_cons r s a b first last (same_ranges a b (r.1 +ℤ pos 2) top (s.1 +ℤ pos 2) top' sa.2 sb.2 (same_tail r s a b low top low' top' sa sb h first last))
