-- The values that are read for a leaf are one for each of its cells, in the cell's domain.
use Rattle.std.proofs.Common.{◌≡◌, ℕ, ◌<◌, List, [], ◌∷◌, Option, None, Some, Bool, true, false, ◌&&◌, cond, length, nat_eq, refl, sym, ap, subst, arith}
use Rattle.std.specs.Prelude.{ℤ, pos, ◌-ℤ◌, ◌≤ℤ◌, int_le, option_and_then, slice_get, position}
use Rattle.std.specs.List.{list_any}
use Rattle.std.specs.Option.{option_map, option_map_or}
use Rattle.std.proofs.lemmas.Bool.{eqb-true}
use Rattle.std.proofs.lemmas.Int.{ints}
use Rattle.std.proofs.lemmas.Map.Views.{Contains-from_any}
use Rattle.std.proofs.lemmas.Option.{cond_some}
use Rattle.class_table.specs.declared.table.Enumeration.{Enumeration}
use Rattle.class_table.specs.declared.table.Resolved.{Resolved}
use Rattle.class_table.specs.declared.table.Resolved.TheVariants.{Span, Truth, Choice, One, Many, Ref, RefSet}
use Rattle.class_table.specs.Outline.{Outline}
use Rattle.class_table.specs.Same.{same_name}
use Rattle.class_table.proofs.DifferLaws.{found_within}
use Rattle.object_alloc.specs.declared.object.Cell.{Cell}
use Rattle.object_alloc.specs.declared.object.Domain.TheVariants as domain
use Rattle.object_alloc.specs.declared.object.Leaf.{Leaf}
use Rattle.object_alloc.specs.Cells.{cell, extent, member_cells, shape_cells, value_count}
use Rattle.object_alloc.specs.Configurations.{IsInDomain, IsOfExtent, AreValues}
use Rattle.serde_json.specs.Data.{Data, Items}
use Rattle.serde_json.specs.Events.{items_len}
use Rattle.serde_json.specs.Find.{as_bool, as_number, as_integer, as_str, as_array}
use Rattle.config_json.specs.Former.{one, whole_in, truth_number, value_number, object_in, members_in, marks, set_in, value_in}
use Rattle.config_json.proofs.CountLaws.{object_there}

some_is : {X : Type 0} {a b : X} → Some a ≡ Some b → a ≡ b
some_is e = cc

at_most : (a b : ℤ) → int_le a b ≡ true → a ≤ℤ b
at_most a b h = grind (arith, ints)

and_parts : (a b : Bool) → (a && b) ≡ true → (a ≡ true) × (b ≡ true)
and_parts true b e = (refl, e)
and_parts false b e = cc

whole_within : (low high : ℤ) (d : Data) (v : ℤ) → whole_in low high d ≡ Some v → (low ≤ℤ v) × (v ≤ℤ high)
whole_within low high d v e = by (option_and_then as_integer (as_number d)) e
  where
    by : (r : Option ℤ) → option_and_then (λ v. cond (int_le low v && int_le v high) (Some v) None) r ≡ Some v → (low ≤ℤ v) × (v ≤ℤ high)
    by None e = cc
    by (Some w) e =
        let r = cond_some (int_le low w && int_le w high) w v e in
        let p = and_parts (int_le low w) (int_le w high) r.0 in
        subst (λ x. (low ≤ℤ x) × (x ≤ℤ high)) r.1 (at_most low w p.0, at_most w high p.1)

truth_within : (b : Bool) → (pos 0 ≤ℤ truth_number b) × (truth_number b ≤ℤ pos 1)
truth_within true = (omega (arith, ints), omega (arith, ints))
truth_within false = (omega (arith, ints), omega (arith, ints))

index_within : (k n : ℕ) → k < n → (pos 0 ≤ℤ pos k) × (pos k ≤ℤ (pos n -ℤ pos 1))
index_within k n h = (omega (arith, ints, h), omega (arith, ints, h))

value_within : (o : Outline) (e : ℕ) (name : List ℕ) (v : ℤ) → value_number o e name ≡ Some v → (pos 0 ≤ℤ v) × (v ≤ℤ (pos (value_count o e) -ℤ pos 1))
value_within o e name v g = by (slice_get o.enumerations e) refl g
  where
    found : (x : Enumeration) → (r : Option ℕ) → position (same_name name) x.values ≡ r → option_map pos r ≡ Some v → (pos 0 ≤ℤ v) × (v ≤ℤ (pos (length x.values) -ℤ pos 1))
    found x None is g = cc
    found x (Some k) is g = subst (λ w. (pos 0 ≤ℤ w) × (w ≤ℤ (pos (length x.values) -ℤ pos 1))) (some_is g) (index_within k (length x.values) (found_within name x.values k is))

    by : (x : Option Enumeration) → slice_get o.enumerations e ≡ x → option_and_then (λ (x : Enumeration). option_map pos (position (same_name name) x.values)) x ≡ Some v → (pos 0 ≤ℤ v) × (v ≤ℤ (pos (value_count o e) -ℤ pos 1))
    by None is g = cc
    by (Some x) is g =
        let size : length x.values ≡ value_count o e = sym (ap (λ (y : Option Enumeration). option_map_or (λ (k : Enumeration). length k.values) y 0) is) in
        subst (λ n. (pos 0 ≤ℤ v) × (v ≤ℤ (pos n -ℤ pos 1))) size (found x (position (same_name name) x.values) refl g)

module _ (o : Outline) where
  one_value : (c : Cell) (r : Option ℤ) (vs : List ℤ) → option_map one r ≡ Some vs → ((v : ℤ) → r ≡ Some v → IsInDomain o c.domain v) → AreValues o (c ∷ []) vs
  one_value c None vs e h = cc
  one_value c (Some v) vs e h = subst (AreValues o (c ∷ [])) (some_is e) (h v refl, tt)

  truth_value : (c : Cell) (r : Option Bool) (vs : List ℤ) → option_map one (option_map truth_number r) ≡ Some vs → ((b : Bool) → IsInDomain o c.domain (truth_number b)) → AreValues o (c ∷ []) vs
  truth_value c None vs e h = cc
  truth_value c (Some b) vs e h = subst (AreValues o (c ∷ [])) (some_is e) (h b, tt)

  object_value : (l : Leaf) (c : ℕ) (d : Data) (r : Option ℕ) (vs : List ℤ) → object_in o c d ≡ r → option_map one (option_map pos r) ≡ Some vs → AreValues o (cell l None (domain.Extent c) ∷ []) vs
  object_value l c d None vs is e = cc
  object_value l c d (Some n) vs is e =
      let has = Contains-from_any (λ x y same. eqb-true x y same) n (extent o c) (object_there o c d n is) in
      let of_extent : IsOfExtent o c (pos n) = record { object = n; has = has; is = refl } in
      subst (AreValues o (cell l None (domain.Extent c) ∷ [])) (some_is e) (of_extent, tt)

  choice_value : (e : ℕ) (r : Option (List ℕ)) (v : ℤ) → option_and_then (value_number o e) r ≡ Some v → (pos 0 ≤ℤ v) × (v ≤ℤ (pos (value_count o e) -ℤ pos 1))
  choice_value e None v g = cc
  choice_value e (Some name) v g = value_within o e name v g

  -- a set that was read
  pub record IsReadSet (c count : ℕ) (ds : Items) (vs : List ℤ) : Type 0 where
    pub members : List ℕ
    pub size : items_len ds ≡ count
    pub are : members_in o c [] ds ≡ Some members
    pub marks_are : marks (extent o c) members ≡ vs

  pub set_read : (c count : ℕ) (ds : Items) (vs : List ℤ) → set_in o c count ds ≡ Some vs → IsReadSet c count ds vs
  set_read c count ds vs e = by (nat_eq (items_len ds) count) refl e
    where
      found : (r : Option (List ℕ)) → items_len ds ≡ count → members_in o c [] ds ≡ r → option_map (marks (extent o c)) r ≡ Some vs → IsReadSet c count ds vs
      found None size is e = cc
      found (Some members) size is e = record { members = members; size = size; are = is; marks_are = some_is e }

      by : (b : Bool) → nat_eq (items_len ds) count ≡ b → cond b (option_map (marks (extent o c)) (members_in o c [] ds)) None ≡ Some vs → IsReadSet c count ds vs
      by true same e = found (members_in o c [] ds) (eqb-true (items_len ds) count same) refl e
      by false same e = cc

  marks_within : (l : Leaf) (members ns : List ℕ) → AreValues o (member_cells l ns) (marks ns members)
  marks_within l members [] = tt
  marks_within l members (n ∷ ns) = (truth_within (list_any (nat_eq n) members), marks_within l members ns)

  set_value : (l : Leaf) (c count : ℕ) (r : Option Items) (vs : List ℤ) → option_and_then (set_in o c count) r ≡ Some vs → AreValues o (member_cells l (extent o c)) vs
  set_value l c count None vs e = cc
  set_value l c count (Some ds) vs e = let r = set_read c count ds vs e in subst (AreValues o (member_cells l (extent o c))) r.marks_are (marks_within l r.members (extent o c))

  pub values_within : (l : Leaf) (s : Resolved) (d : Data) (vs : List ℤ) → value_in o s d ≡ Some vs → AreValues o (shape_cells o l s) vs
  values_within l (Span low high) d vs e = one_value (cell l None (domain.Span low high)) (whole_in low high d) vs e (λ v h. whole_within low high d v h)
  values_within l Truth d vs e = truth_value (cell l None (domain.Span (pos 0) (pos 1))) (as_bool d) vs e (λ b. truth_within b)
  values_within l (Choice x) d vs e = one_value (cell l None (domain.Span (pos 0) (pos (value_count o x) -ℤ pos 1))) (option_and_then (value_number o x) (as_str d)) vs e (λ v h. choice_value x (as_str d) v h)
  values_within l (Ref c) d vs e = object_value l c d (object_in o c d) vs refl e
  values_within l (RefSet c count) d vs e = set_value l c count (as_array d) vs e
  values_within l (One c) d vs e = cc
  values_within l (Many c count) d vs e = cc
