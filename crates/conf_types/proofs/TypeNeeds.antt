-- What the type of a tree says of its parts: one law for each kind of tree.
use Rattle.std.proofs.Common.{◌≡◌, ℕ, suc, ◌<◌, ◌⊎◌, inl, inr, Bool, true, false, ◌&&◌, List, Option, None, Some, ℤ, int_le, nat_eq, nat_lt, length, slice_get, refl, ap, sym, ◌∙◌, arith}
use Rattle.std.specs.Option.{option_map_or, option_map}
use Rattle.std.proofs.lemmas.Bool.{and_parts, eqb-true, ltb-true}
use Rattle.std.proofs.lemmas.Int.{ints}
use Rattle.std.proofs.lemmas.Option.{same_Some}
use Rattle.class_table.specs.declared.table.Resolved.{Resolved}
use Rattle.class_table.specs.declared.table.Resolved.TheVariants as shape
use Rattle.class_table.specs.declared.table.Variable.{Variable}
use Rattle.class_table.specs.Outline.{Outline, attributes}
use Rattle.conf_syntax.specs.declared.tree.Op.{Op}
use Rattle.conf_syntax.specs.declared.tree.QuantKind.{QuantKind}
use Rattle.conf_syntax.specs.OnlyIf.{some_if}
use Rattle.conf_types.specs.declared.types.ExprType.{ExprType}
use Rattle.conf_types.specs.declared.types.ExprType.TheVariants.{Int, Truth, Choice, Object, Objects, Class}
use Rattle.conf_types.specs.declared.types.Need.{Need}
use Rattle.conf_types.specs.declared.types.Need.TheVariants as need
use Rattle.conf_types.specs.Readings.{has, takes_both, list_class}
use Rattle.conf_types.specs.Trees.{Tree, Filter, Bodies, Where, Body}
use Rattle.conf_types.specs.Trees as tree
use Rattle.conf_types.specs.Types.{shape_type, meets, body_need, quant_result}
use Rattle.conf_types.specs.Operators.{is_linear, class_of, left_by, right_by, taken_by, made_by}
use Rattle.conf_types.specs.Typing.{Place, inside, within, same_shape, shaped, variable_type, attribute_type, value_there, is_literal, quantifier_type, tree_type, filter_fits, bodies_fit}
use Rattle.conf_types.proofs.TypedParts.{truth_is, int_is}

-- an expression has a type, and it meets a need
pub record IsMet (n : Need) (x : Option ExprType) : Type 0 where
  pub type : ExprType
  pub typed : x ≡ Some type
  pub met : meets n type ≡ true

pub has_met : (n : Need) (x : Option ExprType) → has n x ≡ true → IsMet n x
has_met n None h = absurd cc
has_met n (Some t) h = record { type = t; typed = refl; met = h }

pub int_needed : (x : Option ExprType) → has need.Int x ≡ true → x ≡ Some Int
int_needed None h = absurd cc
int_needed (Some t) h = ap (λ u. Some u) (int_is t h)

pub truth_needed : (x : Option ExprType) → has need.Truth x ≡ true → x ≡ Some Truth
truth_needed None h = absurd cc
truth_needed (Some t) h = ap (λ u. Some u) (truth_is t h)

pub typed_parts : (b : Bool) (s t : ExprType) → some_if b s ≡ Some t → (b ≡ true) × (s ≡ t)
typed_parts true s t h = (refl, same_Some s t h)
typed_parts false s t h = absurd cc

-- `-` and `not`

pub minus_parts : (o : Outline) (p : Place) (at : ℕ) (e : Tree) (t : ExprType) → tree_type o (tree.Minus at e) p ≡ Some t → (tree_type o e p ≡ Some Int) × (t ≡ Int)
minus_parts o p at e t h = let s = typed_parts (has need.Int (tree_type o e p)) Int t h in (int_needed (tree_type o e p) s.0, sym s.1)

pub not_parts : (o : Outline) (p : Place) (at : ℕ) (e : Tree) (t : ExprType) → tree_type o (tree.Not at e) p ≡ Some t → (tree_type o e p ≡ Some Truth) × (t ≡ Truth)
not_parts o p at e t h = let s = typed_parts (has need.Truth (tree_type o e p)) Truth t h in (truth_needed (tree_type o e p) s.0, sym s.1)

-- Operators

-- both sides have the types that are needed, the operator takes the pair, and one side of `*` is built of literals
pub record IsTypedPair (o : Outline) (op : Op) (l r : Tree) (p : Place) (t : ExprType) : Type 0 where
  pub left : IsMet (left_by (class_of op)) (tree_type o l p)
  pub right : IsMet (right_by (class_of op)) (tree_type o r p)
  pub taken : taken_by (class_of op) left.type right.type ≡ true
  pub linear : is_linear op (is_literal l) (is_literal r) ≡ true
  pub result : t ≡ made_by (class_of op)

pub pair_parts : (o : Outline) (p : Place) (at : ℕ) (op : Op) (l r : Tree) (t : ExprType) → tree_type o (tree.Pair at op l r) p ≡ Some t → IsTypedPair o op l r p t
pair_parts o p at op l r t h =
    let a = tree_type o l p in
    let b = tree_type o r p in
    let linear = is_linear op (is_literal l) (is_literal r) in
    let all = typed_parts (has (left_by (class_of op)) a && (has (right_by (class_of op)) b && (takes_both op a b && linear))) (made_by (class_of op)) t h in
    let first = and_parts (has (left_by (class_of op)) a) (has (right_by (class_of op)) b && (takes_both op a b && linear)) all.0 in
    let second = and_parts (has (right_by (class_of op)) b) (takes_both op a b && linear) first.1 in
    let third = and_parts (takes_both op a b) linear second.1 in
    let left = has_met (left_by (class_of op)) a first.0 in
    let right = has_met (right_by (class_of op)) b second.0 in
    record {
      left = left;
      right = right;
      taken = sym (ap (λ x. takes_both op x b) left.typed ∙ ap (λ y. takes_both op (Some left.type) y) right.typed) ∙ third.0;
      linear = third.1;
      result = sym all.1;
    }

-- Quantifiers

-- the quantifier stands over a list of objects of this class or over the class, and inside its filter is Bool and its bodies are as needed
pub record IsTypedQuant (o : Outline) (q : QuantKind) (over : Tree) (f : Filter) (bs : Bodies) (p : Place) (t : ExprType) : Type 0 where
  pub class : ℕ
  pub over_type : (tree_type o over p ≡ Some (Objects class)) ⊎ (tree_type o over p ≡ Some (Class class))
  pub list : list_class (tree_type o over p) ≡ Some class
  pub filter : filter_fits o f (inside p class) ≡ true
  pub bodies : bodies_fit o q bs 0 (inside p class) ≡ true
  pub result : t ≡ quant_result q

over_of : (o : Outline) (p : Place) (over : Tree) (c : ℕ) (x : Option ExprType) → list_class x ≡ Some c → (x ≡ Some (Objects c)) ⊎ (x ≡ Some (Class c))
over_of o p over c (Some (Objects d)) h = inl (ap (λ e. Some (Objects e)) (same_Some d c h))
over_of o p over c (Some (Class d)) h = inr (ap (λ e. Some (Class e)) (same_Some d c h))
over_of o p over c (Some Int) h = absurd cc
over_of o p over c (Some Truth) h = absurd cc
over_of o p over c (Some (Choice d)) h = absurd cc
over_of o p over c (Some (Object d)) h = absurd cc
over_of o p over c None h = absurd cc

inner_parts : (o : Outline) (q : QuantKind) (over : Tree) (f : Filter) (bs : Bodies) (p : Place) (t : ExprType) (x : Option ℕ) → list_class (tree_type o over p) ≡ x → quantifier_type q x (filter_fits o f (within p x) && bodies_fit o q bs 0 (within p x)) ≡ Some t → IsTypedQuant o q over f bs p t
inner_parts o q over f bs p t None e h = absurd cc
inner_parts o q over f bs p t (Some c) e h =
    let all = typed_parts (filter_fits o f (inside p c) && bodies_fit o q bs 0 (inside p c)) (quant_result q) t h in
    let both = and_parts (filter_fits o f (inside p c)) (bodies_fit o q bs 0 (inside p c)) all.0 in
    record {
      class = c;
      over_type = over_of o p over c (tree_type o over p) e;
      list = e;
      filter = both.0;
      bodies = both.1;
      result = sym all.1;
    }

pub quant_parts : (o : Outline) (p : Place) (at : ℕ) (q : QuantKind) (over : Tree) (f : Filter) (bs : Bodies) (t : ExprType) → tree_type o (tree.Quant at q over f bs) p ≡ Some t → IsTypedQuant o q over f bs p t
quant_parts o p at q over f bs t h = inner_parts o q over f bs p t (list_class (tree_type o over p)) refl h

pub filter_parts : (o : Outline) (p : Place) (e : Tree) → filter_fits o (Where e) p ≡ true → tree_type o e p ≡ Some Truth
filter_parts o p e h = truth_needed (tree_type o e p) h

-- the first of some bodies, which has number n, and those behind it
pub bodies_parts : (o : Outline) (p : Place) (q : QuantKind) (n : ℕ) (e : Tree) (bs : Bodies) → bodies_fit o q (Body e bs) n p ≡ true → IsMet (body_need q n) (tree_type o e p) × (bodies_fit o q bs (suc n) p ≡ true)
bodies_parts o p q n e bs h =
    let both = and_parts (has (body_need q n) (tree_type o e p)) (bodies_fit o q bs (suc n) p) h in
    (has_met (body_need q n) (tree_type o e p) both.0, both.1)

-- Names

span_is : (a b c d : ℤ) → ((int_le a c && int_le c a) && (int_le b d && int_le d b)) ≡ true → shape.Span a b ≡ shape.Span c d
span_is a b c d h =
    let both = and_parts (int_le a c && int_le c a) (int_le b d && int_le d b) h in
    let low = and_parts (int_le a c) (int_le c a) both.0 in
    let high = and_parts (int_le b d) (int_le d b) both.1 in
    ap (λ x. shape.Span x b) (equal a c low.0 low.1) ∙ ap (λ y. shape.Span c y) (equal b d high.0 high.1)
  where
    equal : (x y : ℤ) → int_le x y ≡ true → int_le y x ≡ true → x ≡ y
    equal x y h g = grind (arith, ints)

many_is : (made : ℕ → ℕ → Resolved) (c m d n : ℕ) → (nat_eq c d && nat_eq m n) ≡ true → made c m ≡ made d n
many_is made c m d n h =
    let both = and_parts (nat_eq c d) (nat_eq m n) h in
    ap (λ x. made x m) (eqb-true c d both.0) ∙ ap (made d) (eqb-true m n both.1)

shape_is : (s r : Resolved) → same_shape s r ≡ true → s ≡ r
shape_is (shape.Span a b) (shape.Span c d) h = span_is a b c d h
shape_is shape.Truth shape.Truth h = refl
shape_is (shape.Choice d) (shape.Choice e) h = ap (λ x. shape.Choice x) (eqb-true d e h)
shape_is (shape.One c) (shape.One d) h = ap (λ x. shape.One x) (eqb-true c d h)
shape_is (shape.Many c m) (shape.Many d n) h = many_is (λ x y. shape.Many x y) c m d n h
shape_is (shape.Ref c) (shape.Ref d) h = ap (λ x. shape.Ref x) (eqb-true c d h)
shape_is (shape.RefSet c m) (shape.RefSet d n) h = many_is (λ x y. shape.RefSet x y) c m d n h
shape_is _ _ h = absurd cc

-- a variable of this number is there, has this shape and so its type
pub record IsVariable (vs : List Variable) (k : ℕ) (s : Resolved) (t : ExprType) : Type 0 where
  pub variable : Variable
  pub there : slice_get vs k ≡ Some variable
  pub shape_is : variable.shape ≡ s
  pub result : t ≡ shape_type s

pub variable_parts : (vs : List Variable) (k : ℕ) (s : Resolved) (t : ExprType) → variable_type vs k s ≡ Some t → IsVariable vs k s t
variable_parts vs k s t h = by (slice_get vs k) refl (typed_parts (shaped vs k s) (shape_type s) t h)
  where
    by : (x : Option Variable) → slice_get vs k ≡ x → (option_map_or (λ (v : Variable). same_shape s v.shape) x false ≡ true) × (shape_type s ≡ t) → IsVariable vs k s t
    by None e g = absurd (none g.0)
      where
        none : false ≡ true → ⊥
        none e = absurd cc
    by (Some v) e g = record { variable = v; there = e; shape_is = sym (shape_is s v.shape g.0); result = sym g.1 }

-- the attribute of an object of this class
pub record IsAttribute (o : Outline) (x : Option ExprType) (k : ℕ) (s : Resolved) (t : ExprType) : Type 0 where
  pub class : ℕ
  pub object : x ≡ Some (Object class)
  pub variable : IsVariable (attributes o.classes class) k s t

pub attribute_parts : (o : Outline) (x : Option ExprType) (k : ℕ) (s : Resolved) (t : ExprType) → attribute_type o x k s ≡ Some t → IsAttribute o x k s t
attribute_parts o (Some (Object c)) k s t h = record { class = c; object = refl; variable = variable_parts (attributes o.classes c) k s t h }
attribute_parts o (Some Int) k s t h = absurd cc
attribute_parts o (Some Truth) k s t h = absurd cc
attribute_parts o (Some (Choice e)) k s t h = absurd cc
attribute_parts o (Some (Objects c)) k s t h = absurd cc
attribute_parts o (Some (Class c)) k s t h = absurd cc
attribute_parts o None k s t h = absurd cc

-- an object of the class that is there
pub record IsObject (c : Option ℕ) (t : ExprType) : Type 0 where
  pub class : ℕ
  pub there : c ≡ Some class
  pub result : t ≡ Object class

pub object_parts : (c : Option ℕ) (t : ExprType) → option_map Object c ≡ Some t → IsObject c t
object_parts None t h = absurd cc
object_parts (Some c) t h = record { class = c; there = refl; result = sym (same_Some (Object c) t h) }

pub value_parts : (o : Outline) (p : Place) (at e k : ℕ) (t : ExprType) → tree_type o (tree.Value at e k) p ≡ Some t → (value_there o e k ≡ true) × (t ≡ Choice e)
value_parts o p at e k t h = let s = typed_parts (value_there o e k) (Choice e) t h in (s.0, sym s.1)

pub class_parts : (o : Outline) (p : Place) (at c : ℕ) (t : ExprType) → tree_type o (tree.Class at c) p ≡ Some t → (c < length o.classes) × (t ≡ Class c)
class_parts o p at c t h = let s = typed_parts (nat_lt c (length o.classes)) (Class c) t h in (ltb-true c (length o.classes) s.0, sym s.1)
