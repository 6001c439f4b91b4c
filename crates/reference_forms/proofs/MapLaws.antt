-- What holds of all numbers of a map.
use Rattle.std.proofs.Common.{◌≡◌, ℕ, ◌<◌, ◌≤◌, Bool, true, false, cond, List, [], ◌∷◌, ℤ, length, take, sym, subst, arith}
use Rattle.std.specs.List.{All}
use Rattle.std.specs.Ordering.{int_eq}
use Rattle.std.proofs.lemmas.List.{take_all}
use Rattle.std.proofs.lemmas.List.Elements.{All-head, All-tail, All-same}
use Rattle.signed_clause.specs.Clauses.{box_of}
use Rattle.ground_form.specs.declared.ground.Ground.{Ground}
use Rattle.ground_form.specs.Bounds.{low_of}
use Rattle.ground_form.specs.WellMade.{lacks_value, IsWellMade}
use Rattle.form_build.specs.Worlds.{AreSome}
use Rattle.expr_forms.specs.FormBounds.{IsMap}
use Rattle.expr_forms.specs.FormValues.{number_for}
use Rattle.reference_forms.proofs.BoxFacts.{low_there}
use Rattle.reference_forms.specs.Picks.{IsFirst}

-- it holds of the one that goes with a value
pub number_all : (P : ℕ → Type 0) (v : ℤ) (pairs : List (ℤ × ℕ)) → All (λ (p : ℤ × ℕ). P p.1) pairs → lacks_value v pairs ≡ false → P (number_for v pairs)
number_all P v [] all e = cc
number_all P v (p ∷ ps) all e =
    by (int_eq p.0 v) e (λ l. number_all P v ps (All-tail (λ (q : ℤ × ℕ). P q.1) p ps all) l)
  where
    by : (b : Bool) → cond b false (lacks_value v ps) ≡ false → (lacks_value v ps ≡ false → P (number_for v ps)) → P (cond b p.1 (number_for v ps))
    by true l more = All-head (λ (q : ℤ × ℕ). P q.1) p ps all
    by false l more = more l

-- there is one of which it holds, as the variable has a value
pub some_number : (g : Ground) (P : ℕ → Type 0) (x : ℕ) (pairs : List (ℤ × ℕ)) → IsWellMade g → AreSome g.domains → x < length g.domains → IsMap g.domains P x pairs → (n : ℕ) × P n
some_number g P x pairs made some there m =
    let least = low_of (box_of g.domains x) in
    (number_for least pairs, number_all P least pairs m.may (m.held least (low_there (box_of g.domains x) (made.domains x [] there) (some x [] there))))

-- it holds of the first one
pub first_there : (P : ℤ × ℕ → Type 0) (y : ℕ) (items : List (ℤ × ℕ)) → IsFirst y items → All P items → (n : ℤ) × P (n, y)
first_there P y [] f h = absurd f
first_there P y (t ∷ ts) f h = (t.0, subst (λ (z : ℕ). P (t.0, z)) f (All-head P t ts h))

pub some_pairs : (y : ℕ) (items : List (ℤ × ℕ)) → IsFirst y items → 1 ≤ length items
some_pairs y [] f = absurd f
some_pairs y (t ∷ ts) f = omega arith

-- what holds of all that were looked at holds of all
pub all_taken : (P : ℤ × ℕ → Type 0) (pairs : List (ℤ × ℕ)) (i : ℕ) → length pairs ≤ i → All P (take i pairs) → All P pairs
all_taken P pairs i h s = All-same P pairs (take i pairs) (sym (take_all i pairs h)) s
