-- What a look at a clause leaves to do.
use Rattle.std.proofs.Common.{◌≡◌, ℕ, zero, suc, ◌<◌, ◌==◌, true, false, List, [], ◌∷◌, ℤ, length, arith, refl, ap, subst, slice_set}
use Rattle.std.specs.List.{All}
use Rattle.signed_clause.specs.SetAlgebra.{is_disjoint, is_within}
use Rattle.signed_clause.specs.Clauses.{Boxes, Literals, box_of, set_of, has_var, IsClause}
use Rattle.clause_watches.specs.declared.rest.Rest.{Rest}
use Rattle.clause_watches.specs.declared.rest.Rest.TheVariants.{Listed, Half, On, Held}
use Rattle.clause_watches.specs.declared.watch.Watch.{Watch}
use Rattle.clause_watches.specs.Watching.{acts, rest_of, is_listed, Meets, IsKnown}
use Rattle.clause_watches.specs.Rows.{has_watch}
use Rattle.clause_watches.specs.Sound.{row_of}
use Rattle.clause_watches.specs.Looking.{IsOut, linked, left_of, left_in}
use Rattle.clause_watches.proofs.ActLaws.{none_acts, one_acts}
use Rattle.clause_watches.proofs.TestLaws.{or_false}

left_set : (rests : List Rest) (i : ℕ) (r : Rest) → i < length rests →
    left_of r < left_of (rest_of rests i) → left_in (slice_set rests i r) < left_in rests
left_set [] i r h l = absurd (omega arith)
left_set (q ∷ qs) zero r h l = omega arith
left_set (q ∷ qs) (suc i) r h l = let more = left_set qs i r (omega arith) l in omega arith

linked_less : (x : ℕ) (r : Rest) → is_listed r ≡ true → left_of (linked x r) < left_of r
linked_less x Listed h = omega arith
linked_less x (Half a) h = omega arith
linked_less x (On a b) h = absurd (cc)
linked_less x (Held a) h = absurd (cc)

-- a literal more that meets
pub left_linked : (rests : List Rest) (i x : ℕ) → i < length rests →
    is_listed (rest_of rests i) ≡ true →
    left_in (slice_set rests i (linked x (rest_of rests i))) < left_in rests
left_linked rests i x h l =
    left_set rests i (linked x (rest_of rests i)) h (linked_less x (rest_of rests i) l)

-- the only one that meets holds its box
pub left_held : (rests : List Rest) (i x : ℕ) → i < length rests → rest_of rests i ≡ Half x →
    left_in (slice_set rests i (Held x)) < left_in rests
left_held rests i x h e =
    left_set rests i (Held x) h (let one : left_of (rest_of rests i) ≡ 1 = ap left_of e in
    omega arith)

-- nothing else was found, so the clause is false or unit
pub acts_left : (boxes : Boxes) (c : Literals) (r : Rest) → IsClause c → is_listed r ≡ true →
    IsKnown boxes c r → All (λ l. IsOut boxes r l) c →
    ((x : ℕ) → r ≡ Half x → is_within (box_of boxes x) (set_of c x) ≡ false) → acts boxes c ≡ true
acts_left boxes c Listed f l k out none = none_acts boxes c out
acts_left boxes c (Half x) f l k out none = one_acts boxes c x f k out (none x refl)
acts_left boxes c (On x y) f l k out none = absurd (cc)
acts_left boxes c (Held x) f l k out none = absurd (cc)

-- a variable that is watched has a row
pub watched_below : (rows : List (List Watch)) (i x : ℕ) → has_watch i (row_of rows x) ≡ true →
    x < length rows
watched_below [] i x h = absurd (cc)
watched_below (r ∷ rs) i zero h = omega arith
watched_below (r ∷ rs) i (suc x) h = let more = watched_below rs i x h in omega arith

no_set : (c : Literals) (x : ℕ) → has_var c x ≡ false → set_of c x ≡ []
no_set [] x n = refl
no_set (l ∷ ls) x n =
    let parts = or_false (l.0 == x) (has_var ls x) n in
    let no : (l.0 == x) ≡ false = parts.0 in rw no (no_set ls x parts.1)

-- a variable without a literal doesn't meet
pub no_literal : (boxes : Boxes) (c : Literals) (x : ℕ) → has_var c x ≡ false → Meets boxes c x → ⊥
no_literal boxes c x n m =
    let none : is_disjoint [] (box_of boxes x) ≡ false =
    subst (λ (s : List (ℤ × ℤ)). is_disjoint s (box_of boxes x) ≡ false) (no_set c x n) m in
    absurd (cc)
