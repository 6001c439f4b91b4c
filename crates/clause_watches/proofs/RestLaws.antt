-- What becomes of a rest, step by step.
use Rattle.std.proofs.Common.{◌≡◌, ◌≢◌, ℕ, ◌<◌, ◌==◌, Bool, true, false, cond, List, length, arith, refl, sym, subst, slice_set}
use Rattle.std.proofs.lemmas.List.{get_or-set_same, get_or-set_other}
use Rattle.signed_clause.specs.Clauses.{Boxes, Literals}
use Rattle.clause_watches.specs.declared.rest.Rest.{Rest}
use Rattle.clause_watches.specs.declared.rest.Rest.TheVariants.{Listed, Half, On, Held}
use Rattle.clause_watches.specs.Watching.{rest_of, holds, IsKnown}
use Rattle.clause_watches.specs.Marks.{is_marked}
use Rattle.clause_watches.specs.Rows.{names, differ, seen, forgotten, IsStep}

pub rest_set_same : (rests : List Rest) (i : ℕ) (r : Rest) → i < length rests →
    rest_of (slice_set rests i r) i ≡ r
rest_set_same rests i r h = get_or-set_same rests i r Listed h

pub rest_set_other : (rests : List Rest) (i j : ℕ) (r : Rest) → j ≢ i →
    rest_of (slice_set rests i r) j ≡ rest_of rests j
rest_set_other rests i j r n = get_or-set_other rests i j r Listed n

pub step_none : (x : ℕ) (r : Rest) → IsStep x r r
step_none x r =
    record { named = λ y h. h; known = λ boxes c changed h k. k; unheld = λ y h. h; apart = λ h. h }

pub step_then : (x : ℕ) (a b c : Rest) → IsStep x a b → IsStep x b c → IsStep x a c
step_then x a b c f g = record {
  named = λ y h. f.named y (g.named y h);
  known = λ boxes d changed h k. g.known boxes d changed h (f.known boxes d changed h k);
  unheld = λ y h. f.unheld y (g.unheld y h);
  apart = λ h. g.apart (f.apart h);
}

pub forgotten_names : (x : ℕ) (r : Rest) → names (forgotten x r) x ≡ false
forgotten_names x Listed = refl
forgotten_names x (Half a) = grind arith
forgotten_names x (On a b) = grind arith
forgotten_names x (Held a) = grind arith

forgotten_named : (x : ℕ) (r : Rest) (y : ℕ) → names (forgotten x r) y ≡ true → names r y ≡ true
forgotten_named x Listed y h = h
forgotten_named x (Half a) y h = grind arith
forgotten_named x (On a b) y h = grind arith
forgotten_named x (Held a) y h = grind arith

half_unseen : (x a : ℕ) (changed : List Bool) → is_marked changed x ≡ true →
    seen changed (forgotten x (Half a)) ≡ seen changed (Half a)
half_unseen x a changed h = grind arith

on_unseen : (x a b : ℕ) (changed : List Bool) → is_marked changed x ≡ true →
    seen changed (forgotten x (On a b)) ≡ seen changed (On a b)
on_unseen x a b changed h = grind arith

held_known : (boxes : Boxes) (c : Literals) (a : ℕ) (m : Bool) (changed : List Bool) →
    IsKnown boxes c (Held a) → IsKnown boxes c (seen changed (cond m Listed (Held a)))
held_known boxes c a true changed k = tt
held_known boxes c a false changed k = k

forgotten_known : (x : ℕ) (r : Rest) (boxes : Boxes) (c : Literals) (changed : List Bool) →
    is_marked changed x ≡ true → IsKnown boxes c (seen changed r) →
    IsKnown boxes c (seen changed (forgotten x r))
forgotten_known x Listed boxes c changed h k = k
forgotten_known x (Half a) boxes c changed h k =
    subst (λ (r : Rest). IsKnown boxes c r) (sym (half_unseen x a changed h)) k
forgotten_known x (On a b) boxes c changed h k =
    subst (λ (r : Rest). IsKnown boxes c r) (sym (on_unseen x a b changed h)) k
forgotten_known x (Held a) boxes c changed h k = held_known boxes c a (x == a) changed k

forgotten_unheld : (x : ℕ) (r : Rest) (y : ℕ) → holds (forgotten x r) y ≡ true → holds r y ≡ true
forgotten_unheld x Listed y h = h
forgotten_unheld x (Half a) y h = grind arith
forgotten_unheld x (On a b) y h = grind arith
forgotten_unheld x (Held a) y h = grind arith

forgotten_apart : (x : ℕ) (r : Rest) → differ r ≡ true → differ (forgotten x r) ≡ true
forgotten_apart x Listed h = refl
forgotten_apart x (Half a) h = grind arith
forgotten_apart x (On a b) h = grind arith
forgotten_apart x (Held a) h = grind arith

pub step_forgotten : (x : ℕ) (r : Rest) → IsStep x r (forgotten x r)
step_forgotten x r = record {
  named = forgotten_named x r;
  known = forgotten_known x r;
  unheld = forgotten_unheld x r;
  apart = forgotten_apart x r;
}
