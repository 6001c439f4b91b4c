-- The values of attributes: each is of its shape's type.
use Rattle.std.proofs.Common.{◌≡◌, ℕ, zero, suc, ◌*◌, ◌<◌, ◌≤◌, Bool, true, false, cond, List, [], ◌∷◌, Option, None, Some, length, map, ℤ, pos, negsuc, ◌-ℤ◌, ◌≤ℤ◌, refl, ap, sym, ◌∙◌, subst, arith}
use Rattle.std.specs.Prelude.{All, Contains, slice_get, slice_index_or, nat_abs, filter_map, option_and_then}
use Rattle.std.specs.List.{cons_option}
use Rattle.std.proofs.lemmas.Int.{ints}
use Rattle.std.proofs.lemmas.List.Elements.{All-nil, All-cons, All-head, All-tail, All-contains_itself}
use Rattle.class_table.specs.declared.table.Resolved.{Resolved}
use Rattle.class_table.specs.declared.table.Resolved.TheVariants as shape
use Rattle.class_table.specs.declared.table.Variable.{Variable}
use Rattle.class_table.specs.Outline.{Outline}
use Rattle.class_table.specs.Sound.{IsSound, held_class}
use Rattle.conf_types.specs.Types.{shape_type}
use Rattle.object_alloc.specs.declared.object.Cell.{Cell}
use Rattle.object_alloc.specs.declared.object.Domain.{Domain}
use Rattle.object_alloc.specs.declared.object.Domain.TheVariants as domain
use Rattle.object_alloc.specs.Cells.{cells, extent, value_count, domain_of}
use Rattle.object_alloc.specs.Configurations.{IsInDomain, AreValues, IsConfiguration}
use Rattle.object_alloc.specs.Groups.{parts_of, own_cells}
use Rattle.object_alloc.specs.Variables.{variables_of}
use Rattle.object_alloc.specs.Own.{IsOwner, held_count, member_cell}
use Rattle.object_alloc.proofs.OwnParts.{one_cell, parts_count, part_is, member_cells_are}
use Rattle.object_alloc.specs.Members.{first_value, member_at}
use Rattle.conf_eval.specs.declared.value.Value.{Value}
use Rattle.conf_eval.specs.Fitting.{IsValueOf, IsReached, IsWithin}
use Rattle.conf_eval.specs.Meaning.{attribute_value, first_object, int_of, int_same}
use Rattle.conf_limits.specs.Measures.{shape_reach, shape_interval}
use Rattle.conf_eval.proofs.LawsClasses.{in_own_extent}

-- the value of a cell is in its domain
in_domain : (o : Outline) (cs : List Cell) (vs : List ℤ) (i : ℕ) (c : Cell) → AreValues o cs vs → slice_get cs i ≡ Some c → IsInDomain o c.domain (slice_index_or vs i (pos 0))
in_domain o [] vs i c a e = cc
in_domain o (x ∷ xs) [] i c a e = absurd a
in_domain o (x ∷ xs) (v ∷ vs) zero c (a, b) e = subst (λ (y : Cell). IsInDomain o y.domain v) (some_is e) a
  where
    some_is : {a b : Cell} → Some a ≡ Some b → a ≡ b
    some_is g = cc
in_domain o (x ∷ xs) (v ∷ vs) (suc i) c (a, b) e = in_domain o xs vs i c b e

-- there are as many values as cells
pub values_count : (o : Outline) (cs : List Cell) (vs : List ℤ) → AreValues o cs vs → length vs ≡ length cs
values_count o [] [] a = refl
values_count o [] (v ∷ vs) a = absurd a
values_count o (c ∷ cs) [] a = absurd a
values_count o (c ∷ cs) (v ∷ vs) (a, b) = ap suc (values_count o cs vs b)

first_same : {X : Type 0} {a b : X} {rest more : List X} → a ∷ rest ≡ b ∷ more → a ≡ b
first_same g = cc

rest_same : {X : Type 0} {a b : X} {rest more : List X} → a ∷ rest ≡ b ∷ more → rest ≡ more
rest_same g = cc

-- the members of a reference set are some of the objects that it has cells for
pub record AreMembers (all xs ys : List ℕ) : Type 0 where
  pub members : All (Contains all) ys
  pub count : length ys ≤ length xs

get_there : (xs : List ℕ) (k d : ℕ) → k < length xs → slice_get xs k ≡ Some (slice_index_or xs k d)
get_there [] k d h = absurd (omega (arith, h))
get_there (x ∷ xs) zero d h = refl
get_there (x ∷ xs) (suc k) d h = get_there xs k d (omega (arith, h))

module _ (o : Outline) (vs : List ℤ) (owner : Option ℕ) (k : ℕ) where
  chosen_is : (i x : ℕ) → slice_get (cells o) i ≡ Some (member_cell owner k x) → member_at (cells o) vs i ≡ cond (int_same (slice_index_or vs i (pos 0)) (pos 1)) (Some x) None
  chosen_is i x e = ap (λ r. cond (int_same (slice_index_or vs i (pos 0)) (pos 1)) (option_and_then (λ (c : Cell). c.element) r) None) e

  pub set_members : (all is xs : List ℕ) → map (λ i. slice_get (cells o) i) is ≡ map Some (map (member_cell owner k) xs) → All (Contains all) xs → AreMembers all xs (filter_map (member_at (cells o) vs) is)
  set_members all [] xs e h = record { members = All-nil (Contains all); count = omega arith }
  set_members all (i ∷ is) [] e h = cc
  set_members all (i ∷ is) (x ∷ xs) e h =
      let rest = set_members all is xs (rest_same e) (All-tail (Contains all) x xs h) in
      subst (λ r. AreMembers all (x ∷ xs) (cons_option r (filter_map (member_at (cells o) vs) is))) (sym (chosen_is i x (first_same e)))
      (by (int_same (slice_index_or vs i (pos 0)) (pos 1)) rest)
    where
      by : (b : Bool) → AreMembers all xs (filter_map (member_at (cells o) vs) is) → AreMembers all (x ∷ xs) (cons_option (cond b (Some x) None) (filter_map (member_at (cells o) vs) is))
      by true r = record { members = All-cons (Contains all) x (filter_map (member_at (cells o) vs) is) (All-head (Contains all) x xs h) r.members; count = omega (arith, r.count) }
      by false r = record { members = r.members; count = omega (arith, r.count) }

-- what holds of an attribute of this shape
pub record IsAttribute (o : Outline) (s : Resolved) (v : Value) : Type 0 where
  pub typed : IsValueOf o (shape_type s) v
  pub reached : (r : ℕ) → 1 ≤ r → IsReached (shape_reach o r s) (shape_type s) v
  pub within : IsWithin (shape_interval s) (int_of v)

chosen_value : (n : ℕ) (v : ℤ) → pos 0 ≤ℤ v → v ≤ℤ (pos n -ℤ pos 1) → nat_abs v < n
chosen_value n (pos a) h k = omega (arith, ints, h, k)
chosen_value n (negsuc a) h k = absurd (omega (arith, ints, h, k))

some_there : (xs : List ℕ) (x : ℕ) → Contains xs x → 1 ≤ length xs
some_there xs x h = omega (arith, h.1)

first_part : (P : ℕ → Type 0) (xs : List ℕ) → length xs ≡ 1 → All P xs → P (first_object xs)
first_part P [] e h = absurd (omega (arith, e))
first_part P (x ∷ xs) e h = All-head P x xs h

many_reached : (r n m : ℕ) → 1 ≤ r → m ≡ n → m ≤ r * n
many_reached zero n m h e = absurd (omega (arith, h))
many_reached (suc r) n m h e = omega (arith, e)

nothing : IsWithin (shape_interval shape.Truth) (pos 0)
nothing = record { low = omega (arith, ints); high = omega (arith, ints) }

module _ (o : Outline) (sound : IsSound o) (vs : List ℤ) (conf : IsConfiguration o vs) (owner : Option ℕ) (k : ℕ) (v : Variable) (there : IsOwner o owner) (has : slice_get (variables_of o owner) k ≡ Some v) where
  -- the value of the one cell
  cell_value : (values : Domain) → domain_of o v.shape ≡ Some values → IsInDomain o values (first_value vs (own_cells o owner k))
  cell_value values e =
      let c = one_cell o sound owner k v there has values e in
      subst (λ is. IsInDomain o values (first_value vs is)) (sym c.own) (in_domain o (cells o) vs c.number (record { owner = owner; attribute = k; element = None; domain = values }) conf c.is)

  -- the parts are of the extent
  parts_in : (c : ℕ) → held_class v.shape ≡ Some c → All (Contains (extent o c)) (parts_of o owner k)
  parts_in c e i d h =
      let p = part_is o sound owner k v there has c i (slice_index_or (parts_of o owner k) i d) e (get_there (parts_of o owner k) i d h) in
      in_own_extent o c (slice_index_or (parts_of o owner k) i d) p.object p.has p.class_is

  attribute : (s : Resolved) → v.shape ≡ s → IsAttribute o s (attribute_value o vs owner k s)
  attribute (shape.Span low high) e =
      let d = cell_value (domain.Span low high) (ap (domain_of o) e) in
      record { typed = tt; reached = λ r h. tt; within = record { low = d.0; high = d.1 } }
  attribute shape.Truth e = record { typed = tt; reached = λ r h. tt; within = nothing }
  attribute (shape.Choice c) e =
      let d = cell_value (domain.Span (pos 0) (pos (value_count o c) -ℤ pos 1)) (ap (domain_of o) e) in
      record { typed = (refl, chosen_value (value_count o c) (first_value vs (own_cells o owner k)) d.0 d.1); reached = λ r h. tt; within = nothing }
  attribute (shape.Ref c) e =
      let d = cell_value (domain.Extent c) (ap (domain_of o) e) in
      let is : Contains (extent o c) (nat_abs (first_value vs (own_cells o owner k))) = subst (Contains (extent o c)) (sym (ap nat_abs d.is)) d.has in
      record { typed = is; reached = λ r h. some_there (extent o c) (nat_abs (first_value vs (own_cells o owner k))) is; within = nothing }
  attribute (shape.RefSet c n) e =
      let m = set_members o vs owner k (extent o c) (own_cells o owner k) (extent o c) (member_cells_are o sound owner k v there has c n e) (All-contains_itself (extent o c)) in
      record { typed = m.members; reached = λ r h. m.count; within = nothing }
  attribute (shape.One c) e =
      let count = parts_count o sound owner k v there has ∙ ap held_count e in
      record { typed = first_part (Contains (extent o c)) (parts_of o owner k) count (parts_in c (ap held_class e)); reached = λ r h. h; within = nothing }
  attribute (shape.Many c n) e =
      let count = parts_count o sound owner k v there has ∙ ap held_count e in
      record { typed = parts_in c (ap held_class e); reached = λ r h. many_reached r n (length (parts_of o owner k)) h count; within = nothing }

  pub attribute_there : IsAttribute o v.shape (attribute_value o vs owner k v.shape)
  attribute_there = attribute v.shape refl
