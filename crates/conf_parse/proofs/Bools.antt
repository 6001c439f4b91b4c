-- Facts on tests joined by "and" and "or".
use Rattle.std.proofs.Common.{◌≡◌, true, false, Bool, ◌||◌, ◌&&◌, refl, ap}

pub and_left : (a b : Bool) → (a && b) ≡ true → a ≡ true
and_left true b is = refl
and_left false b is = is

pub and_right : (a b : Bool) → (a && b) ≡ true → b ≡ true
and_right true b is = is
and_right false b is = cc

pub and_left_false : (a b : Bool) → a ≡ false → (a && b) ≡ false
and_left_false a b is = ap (λ x. x && b) is

pub and_right_false : (a b : Bool) → b ≡ false → (a && b) ≡ false
and_right_false true b is = is
and_right_false false b is = refl

pub or_left : (a b : Bool) → a ≡ true → (a || b) ≡ true
or_left a b is = ap (λ x. x || b) is

pub or_right : (a b : Bool) → b ≡ true → (a || b) ≡ true
or_right true b is = refl
or_right false b is = is

-- the second of two, where the first fails
pub or_second : (a b : Bool) → (a || b) ≡ true → a ≡ false → b ≡ true
or_second true b is fails = cc
or_second false b is fails = is

pub or_false : (a b c : Bool) → a ≡ false → b ≡ false → c ≡ false → (a || b || c) ≡ false
or_false a b c first second third = rw (first, second, third)

pub not_true : (a : Bool) → (a ≡ true → ⊥) → a ≡ false
not_true true never = absurd (never refl)
not_true false never = refl

pub contrary : (a : Bool) → a ≡ true → a ≡ false → ⊥
contrary a holds fails = cc

pub or_both_false : (a b : Bool) → a ≡ false → b ≡ false → (a || b) ≡ false
or_both_false a b first second = rw (first, second)
