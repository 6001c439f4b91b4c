-- Attributes by their numbers.
use Rattle.std.proofs.Common.{◌≡◌, ℕ, zero, suc, ◌<◌, ◌≤◌, map, List, [], ◌∷◌, ◌++◌, Option, None, Some, length, get_or, refl, ap, sym, arith, length-append}
use Rattle.std.specs.Prelude.{slice_index_or, position}
use Rattle.class_table.specs.declared.table.Class.{Class}
use Rattle.class_table.specs.declared.table.Variable.{Variable}
use Rattle.graph_walk.specs.declared.walk.State.{State}
use Rattle.graph_walk.specs.Cycles.{rank}
use Rattle.class_table.specs.Outline.{parent_in, own_in, attributes, variable_name}
use Rattle.class_table.specs.Same.{same_name}
use Rattle.class_table.specs.Tables.{IsTable}
use Rattle.class_table.proofs.AncestryLaws.{attributes_next, at_top}
use Rattle.class_table.proofs.DifferLaws.{found_within}
use Rattle.class_table.proofs.ScopeSteps.{length_map}

pub own_of_class : (cs : List Class) (c : ℕ) (k : Class) → c < length cs → k ≡ get_or cs c k → own_in cs c ≡ k.own
own_of_class [] c k h e = absurd (omega (arith, h))
own_of_class (x ∷ xs) zero k h e = ap (λ (y : Class). y.own) (sym e)
own_of_class (x ∷ xs) (suc c) k h e = own_of_class xs c k (omega (arith, h)) e

module _ (cs : List Class) (counts : List ℕ) (order : List State) (t : IsTable cs counts order) where
  pub top : (c : ℕ) → parent_in cs c ≡ None → attributes cs c ≡ own_in cs c
  top c up = at_top (parent_in cs) (rank order) t.falls (own_in cs) (length cs) (length cs) c up

  pub next : (c q : ℕ) → c < length cs → parent_in cs c ≡ Some q → attributes cs c ≡ attributes cs q ++ own_in cs c
  next c q on up = let b = t.below c on in attributes_next (parent_in cs) (rank order) t.falls (own_in cs) (length cs) (length cs) c q (omega (arith, b)) up

  pub own_few : (c : ℕ) → c < length cs → length (own_in cs c) ≤ slice_index_or counts c 0
  own_few c on = by (parent_in cs c) refl
    where
      by : (o : Option ℕ) → parent_in cs c ≡ o → length (own_in cs c) ≤ slice_index_or counts c 0
      by None e = omega (arith, t.counted c on, ap length (top c e))
      by (Some q) e = omega (arith, t.counted c on, ap length (next c q on e), length-append (attributes cs q) (own_in cs c))

  abbrev names : List Variable → List (List ℕ)
  names vs = map variable_name vs

  pub number_low : (c k : ℕ) (w : List ℕ) → position (same_name w) (map variable_name (attributes cs c)) ≡ Some k → k < length (attributes cs c)
  number_low c k w h = let l = found_within w (names (attributes cs c)) k h in omega (arith, l, length_map variable_name (attributes cs c))
