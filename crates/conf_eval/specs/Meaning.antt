-- What a resolved expression means at a configuration: one line for each kind of expression. It is
-- a value for every tree; for a typed one it is a value of its type.
use Rattle.std.specs.Prelude.{ℕ, suc, ◌+◌, ◌-◌, Bool, true, false, not, ◌&&◌, ◌||◌, cond, List, [], ◌∷◌, ◌++◌, map, Option, None, Some, ℤ, pos, ◌+ℤ◌, ◌-ℤ◌, ◌*ℤ◌, neg_ℤ, int_le, int_lt, length, nat_abs, nat_eq, slice_index_or, filter_map, count_by, unwrap_or}
use Rattle.std.specs.List.{list_all, list_any}
use Rattle.class_table.specs.declared.table.Resolved.{Resolved}
use Rattle.class_table.specs.declared.table.Resolved.TheVariants as shape
use Rattle.class_table.specs.Outline.{Outline}
use Rattle.conf_syntax.specs.declared.tree.Op.{Op}
use Rattle.conf_syntax.specs.declared.tree.Op.TheVariants as op
use Rattle.conf_syntax.specs.declared.tree.QuantKind.{QuantKind}
use Rattle.conf_syntax.specs.declared.tree.QuantKind.TheVariants as kind
use Rattle.conf_types.specs.Trees.{Tree, Filter, NoFilter, Where, Bodies, NoBody, Body}
use Rattle.conf_types.specs.Trees as tree
use Rattle.object_alloc.specs.Cells.{cells, extent}
use Rattle.object_alloc.specs.Groups.{parts_of, own_cells}
use Rattle.object_alloc.specs.Members.{first_value, member_at}
use Rattle.conf_eval.specs.declared.value.Value.{Value}
use Rattle.conf_eval.specs.declared.value.Value.TheVariants.{Int, Truth, Choice, Object, Objects}

-- where an expression is evaluated: the model's outline, one value for each cell, the object that
-- is `this`, and the objects of the variables of the quantifiers round it, the innermost last
pub record Setting : Type 0 where
  pub outline : Outline
  pub values : List ℤ
  pub this : Option ℕ
  pub vars : List ℕ

-- inside of a quantifier, with this object as its variable
abbrev pub bind : Setting → ℕ → Setting
bind s x = record { outline = s.outline; values = s.values; this = s.this; vars = s.vars ++ x ∷ [] }

-- Values

abbrev pub int_of : Value → ℤ
int_of (Int v) = v
int_of other = pos 0

abbrev pub truth_of : Value → Bool
truth_of (Truth b) = b
truth_of other = false

abbrev pub object_of : Value → ℕ
object_of (Object x) = x
object_of other = 0

abbrev pub objects_of : Value → List ℕ
objects_of (Objects xs) = xs
objects_of other = []

abbrev pub int_same : ℤ → ℤ → Bool
int_same v w = int_le v w && int_le w v

abbrev pub truth_same : Bool → Bool → Bool
truth_same a b = cond a b (not b)

-- `=`: equal numbers, truth values, values of one enumeration; the same object
abbrev pub same_value : Value → Value → Bool
same_value (Int v) (Int w) = int_same v w
same_value (Truth a) (Truth b) = truth_same a b
same_value (Choice d j) (Choice e k) = nat_eq d e && nat_eq j k
same_value (Object x) (Object y) = nat_eq x y
same_value v w = false

-- Variables and attributes

abbrev pub first_object : List ℕ → ℕ
first_object [] = 0
first_object (x ∷ xs) = x

-- the value of attribute k of this shape, of an object or of the top level
abbrev pub attribute_value : Outline → List ℤ → Option ℕ → ℕ → Resolved → Value
attribute_value o values owner k (shape.Span low high) =
    Int (first_value values (own_cells o owner k))
attribute_value o values owner k shape.Truth =
    Truth (int_same (first_value values (own_cells o owner k)) (pos 1))
attribute_value o values owner k (shape.Choice e) =
    Choice e (nat_abs (first_value values (own_cells o owner k)))
attribute_value o values owner k (shape.Ref c) =
    Object (nat_abs (first_value values (own_cells o owner k)))
attribute_value o values owner k (shape.RefSet c n) =
    Objects (filter_map (member_at (cells o) values) (own_cells o owner k))
attribute_value o values owner k (shape.One c) = Object (first_object (parts_of o owner k))
attribute_value o values owner k (shape.Many c n) = Objects (parts_of o owner k)

-- the object of the variable at this distance, 0 for the innermost
abbrev pub local_object : List ℕ → ℕ → ℕ
local_object xs k = slice_index_or xs (length xs - suc k) 0

-- Operators

abbrev pub operate : Op → Value → Value → Value
operate op.Implies v w = Truth (not (truth_of v) || truth_of w)
operate op.Or v w = Truth (truth_of v || truth_of w)
operate op.And v w = Truth (truth_of v && truth_of w)
operate op.Eq v w = Truth (same_value v w)
operate op.Ne v w = Truth (not (same_value v w))
operate op.Lt v w = Truth (int_lt (int_of v) (int_of w))
operate op.Le v w = Truth (int_le (int_of v) (int_of w))
operate op.Gt v w = Truth (int_lt (int_of w) (int_of v))
operate op.Ge v w = Truth (int_le (int_of w) (int_of v))
operate op.In v w = Truth (list_any (nat_eq (object_of v)) (objects_of w))
operate op.Add v w = Int (int_of v +ℤ int_of w)
operate op.Sub v w = Int (int_of v -ℤ int_of w)
operate op.Mul v w = Int (int_of v *ℤ int_of w)

-- Quantifiers

abbrev pub first_of : List Value → Value
first_of [] = Truth false
first_of (v ∷ vs) = v

-- one member of a packing: its bin, its size and its room
pub record Item : Type 0 where
  pub bin : Value
  pub size : ℤ
  pub room : ℤ

-- the number that is value k of these
abbrev pub int_at : List Value → ℕ → ℤ
int_at vs k = int_of (slice_index_or vs k (Int (pos 0)))

abbrev pub item_of : List Value → Item
item_of vs = record { bin = first_of vs; size = int_at vs 1; room = int_at vs 2 }

abbrev pub total : List ℤ → ℤ
total [] = pos 0
total (v ∷ vs) = v +ℤ total vs

-- the values at any two members differ
abbrev pub all_differ : List Value → Bool
all_differ [] = true
all_differ (v ∷ vs) = not (list_any (same_value v) vs) && all_differ vs

-- the sizes of the items at this bin, the others give 0
abbrev pub load : Value → List Item → ℤ
load bin xs = total (map (λ (x : Item). cond (same_value bin x.bin) x.size (pos 0)) xs)

-- for each item the sizes at its bin add up to at most its room
abbrev pub fits_all : List Item → List Item → Bool
fits_all all xs = list_all (λ (x : Item). int_le (load x.bin all) x.room) xs

abbrev pub all_true : List Value → Bool
all_true vs = list_all truth_of vs

-- a quantifier over these members, by its filter and the values of its bodies at each
abbrev pub quantified : QuantKind → List ℕ → (ℕ → Bool) → (ℕ → List Value) → Value
quantified kind.Forall xs keeps bodies =
    Truth (list_all (λ x. not (keeps x) || list_all truth_of (bodies x)) xs)
quantified kind.Exists xs keeps bodies =
    Truth (list_any (λ x. keeps x && list_all truth_of (bodies x)) xs)
quantified kind.Sum xs keeps bodies =
    Int (total (map (λ x. cond (keeps x) (int_of (first_of (bodies x))) (pos 0)) xs))
quantified kind.Count xs keeps bodies =
    Int (pos (count_by (λ x. keeps x && list_all truth_of (bodies x)) xs))
quantified kind.AllDifferent xs keeps bodies =
    Truth (all_differ (map (λ x. first_of (bodies x)) xs))
quantified kind.Pack xs keeps bodies =
    Truth (fits_all (map (λ x. item_of (bodies x)) xs) (map (λ x. item_of (bodies x)) xs))

-- Expressions

abbrev mutual
  pub value : Tree → Setting → Value
  value (tree.Number at n) s = Int (pos n)
  value (tree.Truth at b) s = Truth b
  value (tree.This at) s = Object (unwrap_or s.this 0)
  value (tree.Paren at e) s = value e s
  value (tree.Minus at e) s = Int (neg_ℤ (int_of (value e s)))
  value (tree.Not at e) s = Truth (not (truth_of (value e s)))
  value (tree.Pair at o l r) s = operate o (value l s) (value r s)
  value (tree.Local at k) s = Object (local_object s.vars k)
  value (tree.Own at k sh) s = attribute_value s.outline s.values s.this k sh
  value (tree.Root at k sh) s = attribute_value s.outline s.values None k sh
  value (tree.Value at e k) s = Choice e k
  value (tree.Class at c) s = Objects (extent s.outline c)
  value (tree.Dot at e k sh) s = attribute_value s.outline s.values (Some (object_of (value e s))) k
      sh
  value (tree.Quant at q over f bs) s = quantified q (objects_of (value over s))
      (λ x. keeps f (bind s x)) (λ x. values_of bs (bind s x))
  value (tree.Missing at) s = Truth false

  pub keeps : Filter → Setting → Bool
  keeps NoFilter s = true
  keeps (Where e) s = truth_of (value e s)

  pub values_of : Bodies → Setting → List Value
  values_of NoBody s = []
  values_of (Body e bs) s = value e s ∷ values_of bs s
