-- No value of a configuration holds a float.
use Rattle.std.proofs.Common.{◌≡◌, ℕ, zero, suc, Bool, true, false, ◌||◌, List, [], ◌∷◌, length, Option, None, Some, ℤ, pos, negsuc, Ordering, Less, Equal, Greater, refl}
use Rattle.std.specs.Prelude.{filter_map}
use Rattle.std.specs.Ordering.{match_ordering, nat_cmp}
use Rattle.std.specs.Cmp.Lexicographic.{slice_cmp}
use Rattle.class_table.specs.declared.table.Resolved.{Resolved}
use Rattle.class_table.specs.declared.table.Resolved.TheVariants.{Span, Truth, Choice, One, Many, Ref, RefSet}
use Rattle.class_table.specs.declared.table.Variable.{Variable}
use Rattle.class_table.specs.Outline.{Outline}
use Rattle.object_alloc.specs.Cells.{cells}
use Rattle.object_alloc.specs.Groups.{parts_of, own_cells}
use Rattle.object_alloc.specs.Variables.{variables_of}
use Rattle.object_alloc.specs.Walk.{objects}
use Rattle.serde_json.specs.Data.{Data, Members, no_members, member, put}
use Rattle.serde_json.specs.Find.{of_integer, is_float}
use Rattle.serde_json.specs.Written.{has_float, items_have_float, members_have_float}
use Rattle.config_json.specs.Keys.{text_of}
use Rattle.object_alloc.specs.Members.{member_at, first_value}
use Rattle.config_json.specs.Tree.{all_data, attribute_data, class_member, config_data, first_data, leaf_data, object_data, object_within, path_data, with_variables}

whole : (v : ℤ) → is_float (of_integer v) ≡ false
whole (pos n) = refl
whole (negsuc n) = refl

either : (a b : Bool) → a ≡ false → b ≡ false → a || b ≡ false
either a b e f = rw (e, f) refl

first_of : (a b : Bool) → a || b ≡ false → a ≡ false
first_of true b e = e
first_of false b e = refl

rest_of : (a b : Bool) → a || b ≡ false → b ≡ false
rest_of true b e = cc
rest_of false b e = e

put_at : (r : Ordering) (a b c : Members) → members_have_float a ≡ false → members_have_float b ≡ false → members_have_float c ≡ false → members_have_float (match_ordering r a b c) ≡ false
put_at Less a b c x y z = x
put_at Equal a b c x y z = y
put_at Greater a b c x y z = z

put_free : (k : List ℕ) (d : Data) (ms : Members) → has_float d ≡ false → members_have_float ms ≡ false → members_have_float (put k d ms) ≡ false
put_free k d no_members free none = either (has_float d) false free refl
put_free k d (member l e ms) free none =
    let here = first_of (has_float e) (members_have_float ms) none in
    let later = rest_of (has_float e) (members_have_float ms) none in
    put_at (slice_cmp nat_cmp k l) (member k d (member l e ms)) (member l d ms) (member l e (put k d ms))
    (either (has_float d) (members_have_float (member l e ms)) free none)
    (either (has_float d) (members_have_float ms) free later)
    (either (has_float e) (members_have_float (put k d ms)) here (put_free k d ms free later))

all_free : (of : ℕ → Data) → ((n : ℕ) → has_float (of n) ≡ false) → (ns : List ℕ) → items_have_float (all_data of ns) ≡ false
all_free of each [] = refl
all_free of each (n ∷ ns) = either (has_float (of n)) (items_have_float (all_data of ns)) (each n) (all_free of each ns)

first_free : (of : ℕ → Data) → ((n : ℕ) → has_float (of n) ≡ false) → (ns : List ℕ) → has_float (first_data of ns) ≡ false
first_free of each [] = refl
first_free of each (n ∷ ns) = each n

module _ (o : Outline) (values : List ℤ) where
  leaf_free : (is : List ℕ) (s : Resolved) → has_float (leaf_data o values is s) ≡ false
  leaf_free is (Span low high) = whole (first_value values is)
  leaf_free is Truth = refl
  leaf_free is (Choice e) = refl
  leaf_free is (Ref c) = refl
  leaf_free is (RefSet c n) = all_free (path_data o) (λ m. refl) (filter_map (member_at (cells o) values) is)
  leaf_free is (One c) = refl
  leaf_free is (Many c n) = refl

  module _ (of : ℕ → Data) (each : (n : ℕ) → has_float (of n) ≡ false) (owner : Option ℕ) where
    attribute_free : (k : ℕ) (s : Resolved) → has_float (attribute_data of o values owner k s) ≡ false
    attribute_free k (One c) = first_free of each (parts_of o owner k)
    attribute_free k (Many c n) = all_free of each (parts_of o owner k)
    attribute_free k (Span low high) = leaf_free (own_cells o owner k) (Span low high)
    attribute_free k Truth = leaf_free (own_cells o owner k) Truth
    attribute_free k (Choice e) = leaf_free (own_cells o owner k) (Choice e)
    attribute_free k (Ref c) = leaf_free (own_cells o owner k) (Ref c)
    attribute_free k (RefSet c n) = leaf_free (own_cells o owner k) (RefSet c n)

    variables_free : (k : ℕ) (vs : List Variable) (found : Members) → members_have_float found ≡ false → members_have_float (with_variables of o values owner k vs found) ≡ false
    variables_free k [] found none = none
    variables_free k (v ∷ vs) found none = variables_free (suc k) vs (put (text_of v.name) (attribute_data of o values owner k v.shape) found) (put_free (text_of v.name) (attribute_data of o values owner k v.shape) found (attribute_free k v.shape) none)

  object_free : (levels n : ℕ) → has_float (object_within o values levels n) ≡ false
  object_free zero n = refl
  object_free (suc levels) n = variables_free (object_within o values levels) (object_free levels) (Some n) 0 (variables_of o (Some n)) (class_member o n) refl

  pub config_free : has_float (config_data o values) ≡ false
  config_free = variables_free (object_data o values) (object_free (length (objects o))) None 0 (variables_of o None) no_members refl
