-- The value of a typed expression is of its type, and lists no more objects than the expression reaches.
use Rattle.std.proofs.Common.{◌≡◌, ℕ, zero, suc, ◌-◌, ◌<◌, ◌≤◌, nat_lt, nat_eq, Bool, true, false, ◌&&◌, cond, List, [], ◌∷◌, ◌++◌, Option, None, Some, length, ℤ, pos, refl, ap, sym, ◌∙◌, subst, arith}
use Rattle.std.specs.Prelude.{All, Contains, slice_get, slice_index_or, unwrap_or, int_le, ◌≤ℤ◌}
use Rattle.std.specs.Option.{option_map_or, option_map}
use Rattle.std.proofs.lemmas.Bool.{eqb-true, ltb-true, and_parts}
use Rattle.std.proofs.lemmas.Int.{ints}
use Rattle.std.proofs.lemmas.List.Elements.{All-contains_itself}
use Rattle.class_table.specs.declared.table.Enumeration.{Enumeration}
use Rattle.class_table.specs.declared.table.Resolved.{Resolved}
use Rattle.class_table.specs.declared.table.Resolved.TheVariants as shape
use Rattle.class_table.specs.declared.table.Variable.{Variable}
use Rattle.class_table.specs.Outline.{Outline, attributes}
use Rattle.class_table.specs.Sound.{IsSound}
use Rattle.conf_syntax.specs.declared.tree.Op.{Op}
use Rattle.conf_syntax.specs.declared.tree.Op.TheVariants as op
use Rattle.conf_syntax.specs.declared.tree.QuantKind.{QuantKind}
use Rattle.conf_syntax.specs.declared.tree.QuantKind.TheVariants as kind
use Rattle.conf_syntax.specs.OnlyIf.{some_if}
use Rattle.conf_types.specs.declared.types.ExprType.{ExprType}
use Rattle.conf_types.specs.declared.types.ExprType.TheVariants as type
use Rattle.conf_types.specs.Readings.{has, list_class}
use Rattle.conf_types.specs.Trees.{Tree}
use Rattle.conf_types.specs.Trees as tree
use Rattle.conf_types.specs.Types.{shape_type, quant_result}
use Rattle.conf_types.specs.Typing.{Place, local_class, same_shape, shaped, variable_type, attribute_type, value_there, quantifier_type, tree_type}
use Rattle.conf_types.specs.Operators.{class_of, made_by}
use Rattle.object_alloc.specs.Cells.{extent, value_count}
use Rattle.object_alloc.specs.Configurations.{IsConfiguration}
use Rattle.object_alloc.specs.Variables.{variables_of}
use Rattle.object_alloc.specs.Own.{IsOwner}
use Rattle.conf_eval.specs.declared.value.Value.{Value}
use Rattle.conf_eval.specs.declared.value.Value.TheVariants.{Int, Truth, Choice, Objects}
use Rattle.conf_eval.specs.declared.value.Value.TheVariants as value
use Rattle.conf_eval.specs.Fitting.{IsThis, AreVars, IsValueOf, IsReached}
use Rattle.conf_eval.specs.Meaning.{Setting, attribute_value, local_object, object_of, objects_of, int_of, operate, quantified}
use Rattle.conf_eval.specs.Meaning as meaning
use Rattle.conf_limits.specs.Measures.{reach, shape_reach}
use Rattle.conf_eval.proofs.LawsClasses.{object_low, has_attribute}
use Rattle.conf_eval.proofs.LawsCells.{attribute_there}

-- Types, taken apart

pub some_is : {X : Type 0} {a b : X} → Some a ≡ Some b → a ≡ b
some_is e = cc

pub record IsIf (b : Bool) (t ty : ExprType) : Type 0 where
  pub test : b ≡ true
  pub is : t ≡ ty

pub if_typed : (b : Bool) (t ty : ExprType) → some_if b t ≡ Some ty → IsIf b t ty
if_typed true t ty e = record { test = refl; is = some_is e }
if_typed false t ty e = cc

at_most : (a b : ℤ) → int_le a b ≡ true → a ≤ℤ b
at_most a b h = grind (arith, ints)

same_int : (a b : ℤ) → (int_le a b && int_le b a) ≡ true → a ≡ b
same_int a b h =
    let p = and_parts (int_le a b) (int_le b a) h in
    let l = at_most a b p.0 in
    let g = at_most b a p.1 in
    omega (arith, ints)

same_both : (f : ℕ → ℕ → Resolved) (a b c d : ℕ) → (nat_eq a c && nat_eq b d) ≡ true → f a b ≡ f c d
same_both f a b c d h =
    let p = and_parts (nat_eq a c) (nat_eq b d) h in
    ap (λ x. f x b) (eqb-true a c p.0) ∙ ap (f c) (eqb-true b d p.1)

same_span : (a b c d : ℤ) → ((int_le a c && int_le c a) && (int_le b d && int_le d b)) ≡ true → shape.Span a b ≡ shape.Span c d
same_span a b c d h =
    let p = and_parts (int_le a c && int_le c a) (int_le b d && int_le d b) h in
    ap (λ x. shape.Span x b) (same_int a c p.0) ∙ ap (shape.Span c) (same_int b d p.1)

shape_is : (s t : Resolved) → same_shape s t ≡ true → s ≡ t
shape_is (shape.Span a b) (shape.Span c d) h = same_span a b c d h
shape_is shape.Truth shape.Truth h = refl
shape_is (shape.Choice d) (shape.Choice e) h = ap (λ x. shape.Choice x) (eqb-true d e h)
shape_is (shape.One c) (shape.One d) h = ap (λ x. shape.One x) (eqb-true c d h)
shape_is (shape.Ref c) (shape.Ref d) h = ap (λ x. shape.Ref x) (eqb-true c d h)
shape_is (shape.Many c m) (shape.Many d n) h = same_both (λ x y. shape.Many x y) c m d n h
shape_is (shape.RefSet c m) (shape.RefSet d n) h = same_both (λ x y. shape.RefSet x y) c m d n h
shape_is s t h = cc

-- the variable that an attribute's expression names
pub record IsVariable (vs : List Variable) (k : ℕ) (s : Resolved) (ty : ExprType) : Type 0 where
  pub variable : Variable
  pub there : slice_get vs k ≡ Some variable
  pub shape_same : s ≡ variable.shape
  pub type_is : shape_type s ≡ ty

pub variable_typed : (vs : List Variable) (k : ℕ) (s : Resolved) (ty : ExprType) → variable_type vs k s ≡ Some ty → IsVariable vs k s ty
variable_typed vs k s ty e = let i = if_typed (shaped vs k s) (shape_type s) ty e in by (slice_get vs k) refl i.test i.is
  where
    by : (r : Option Variable) → slice_get vs k ≡ r → option_map_or (λ (v : Variable). same_shape s v.shape) r false ≡ true → shape_type s ≡ ty → IsVariable vs k s ty
    by None f g h = cc
    by (Some v) f g h = record { variable = v; there = f; shape_same = shape_is s v.shape g; type_is = h }

-- an attribute's expression has a type where what stands before the dot is an object
pub record IsDotted (o : Outline) (before : Option ExprType) (k : ℕ) (s : Resolved) (ty : ExprType) : Type 0 where
  pub class : ℕ
  pub is_object : before ≡ Some (type.Object class)
  pub variable : IsVariable (attributes o.classes class) k s ty

pub dotted : (o : Outline) (before : Option ExprType) (k : ℕ) (s : Resolved) (ty : ExprType) → attribute_type o before k s ≡ Some ty → IsDotted o before k s ty
dotted o (Some (type.Object c)) k s ty e = record { class = c; is_object = refl; variable = variable_typed (attributes o.classes c) k s ty e }
dotted o (Some type.Int) k s ty e = cc
dotted o (Some type.Truth) k s ty e = cc
dotted o (Some (type.Choice d)) k s ty e = cc
dotted o (Some (type.Objects c)) k s ty e = cc
dotted o (Some (type.Class c)) k s ty e = cc
dotted o None k s ty e = cc

-- Values of each kind

pub is_int : (o : Outline) (v : Value) → IsValueOf o type.Int v → v ≡ Int (int_of v)
is_int o (Int n) h = refl
is_int o (Truth b) h = absurd h
is_int o (Choice e k) h = absurd h
is_int o (value.Object x) h = absurd h
is_int o (Objects xs) h = absurd h

pub is_object : (o : Outline) (c : ℕ) (v : Value) → IsValueOf o (type.Object c) v → Contains (extent o c) (object_of v)
is_object o c (value.Object x) h = h
is_object o c (Int n) h = absurd h
is_object o c (Truth b) h = absurd h
is_object o c (Choice e k) h = absurd h
is_object o c (Objects xs) h = absurd h

-- the members of a list, and how many they are
pub record AreListed (o : Outline) (c r : ℕ) (v : Value) : Type 0 where
  pub all : All (Contains (extent o c)) (objects_of v)
  pub count : length (objects_of v) ≤ r

pub listed : (o : Outline) (t : Option ExprType) (c r : ℕ) (v : Value) → list_class t ≡ Some c → ((ty : ExprType) → t ≡ Some ty → IsValueOf o ty v × IsReached r ty v) → AreListed o c r v
listed o (Some (type.Objects d)) c r v e h = by v (h (type.Objects d) refl)
  where
    by : (v : Value) → IsValueOf o (type.Objects d) v × (length (objects_of v) ≤ r) → AreListed o c r v
    by (Objects xs) (a, b) = record { all = subst (λ x. All (Contains (extent o x)) xs) (some_is e) a; count = b }
    by (Int n) (a, b) = absurd a
    by (Truth x) (a, b) = absurd a
    by (Choice x k) (a, b) = absurd a
    by (value.Object x) (a, b) = absurd a
listed o (Some (type.Class d)) c r v e h = by v (h (type.Class d) refl)
  where
    by : (v : Value) → IsValueOf o (type.Class d) v × (length (objects_of v) ≤ r) → AreListed o c r v
    by (Objects xs) (a, b) = record { all = subst (λ x. All (Contains (extent o x)) xs) (some_is e) a; count = b }
    by (Int n) (a, b) = absurd a
    by (Truth x) (a, b) = absurd a
    by (Choice x k) (a, b) = absurd a
    by (value.Object x) (a, b) = absurd a
listed o (Some type.Int) c r v e h = cc
listed o (Some type.Truth) c r v e h = cc
listed o (Some (type.Choice d)) c r v e h = cc
listed o (Some (type.Object d)) c r v e h = cc
listed o None c r v e h = cc

operated : (o : Outline) (p : Op) (v w : Value) → IsValueOf o (made_by (class_of p)) (operate p v w)
operated o op.Implies v w = tt
operated o op.Or v w = tt
operated o op.And v w = tt
operated o op.Eq v w = tt
operated o op.Ne v w = tt
operated o op.Lt v w = tt
operated o op.Le v w = tt
operated o op.Gt v w = tt
operated o op.Ge v w = tt
operated o op.In v w = tt
operated o op.Add v w = tt
operated o op.Sub v w = tt
operated o op.Mul v w = tt

result_reached : (r : ℕ) (p : Op) (v : Value) → IsReached r (made_by (class_of p)) v
result_reached r op.Implies v = tt
result_reached r op.Or v = tt
result_reached r op.And v = tt
result_reached r op.Eq v = tt
result_reached r op.Ne v = tt
result_reached r op.Lt v = tt
result_reached r op.Le v = tt
result_reached r op.Gt v = tt
result_reached r op.Ge v = tt
result_reached r op.In v = tt
result_reached r op.Add v = tt
result_reached r op.Sub v = tt
result_reached r op.Mul v = tt

quantifier_is : (o : Outline) (q : QuantKind) (xs : List ℕ) (keeps : ℕ → Bool) (bodies : ℕ → List Value) → IsValueOf o (quant_result q) (quantified q xs keeps bodies)
quantifier_is o kind.Forall xs keeps bodies = tt
quantifier_is o kind.Exists xs keeps bodies = tt
quantifier_is o kind.Sum xs keeps bodies = tt
quantifier_is o kind.Count xs keeps bodies = tt
quantifier_is o kind.AllDifferent xs keeps bodies = tt
quantifier_is o kind.Pack xs keeps bodies = tt

quantifier_reached : (r : ℕ) (q : QuantKind) (v : Value) → IsReached r (quant_result q) v
quantifier_reached r kind.Forall v = tt
quantifier_reached r kind.Exists v = tt
quantifier_reached r kind.Sum v = tt
quantifier_reached r kind.Count v = tt
quantifier_reached r kind.AllDifferent v = tt
quantifier_reached r kind.Pack v = tt

-- a quantifier that has a type stands over a class
pub record IsQuantifier (q : QuantKind) (over : Option ℕ) (fits : Bool) (ty : ExprType) : Type 0 where
  pub class : ℕ
  pub over_is : over ≡ Some class
  pub parts_fit : fits ≡ true
  pub type_is : quant_result q ≡ ty

pub quantifier_typed : (q : QuantKind) (over : Option ℕ) (fits : Bool) (ty : ExprType) → quantifier_type q over fits ≡ Some ty → IsQuantifier q over fits ty
quantifier_typed q None fits ty e = cc
quantifier_typed q (Some c) fits ty e = let i = if_typed fits (quant_result q) ty e in record { class = c; over_is = refl; parts_fit = i.test; type_is = i.is }

-- Names in scope

pub count_vars : (o : Outline) (cs xs : List ℕ) → AreVars o cs xs → length cs ≡ length xs
count_vars o [] [] a = refl
count_vars o [] (x ∷ xs) a = absurd a
count_vars o (c ∷ cs) [] a = absurd a
count_vars o (c ∷ cs) (x ∷ xs) (a, b) = ap suc (count_vars o cs xs b)

var_at : (o : Outline) (cs xs : List ℕ) (i c : ℕ) → AreVars o cs xs → slice_get cs i ≡ Some c → Contains (extent o c) (slice_index_or xs i 0)
var_at o [] xs i c a e = cc
var_at o (d ∷ cs) [] i c a e = absurd a
var_at o (d ∷ cs) (x ∷ xs) zero c (a, b) e = subst (λ k. Contains (extent o k) x) (some_is e) a
var_at o (d ∷ cs) (x ∷ xs) (suc i) c (a, b) e = var_at o cs xs i c b e

local_there : (o : Outline) (cs xs : List ℕ) (k c : ℕ) → AreVars o cs xs → local_class cs k ≡ Some c → Contains (extent o c) (local_object xs k)
local_there o cs xs k c a e = by (nat_lt k (length cs)) e
  where
    by : (b : Bool) → cond b (slice_get cs (length cs - suc k)) None ≡ Some c → Contains (extent o c) (local_object xs k)
    by true g = subst (λ n. Contains (extent o c) (slice_index_or xs (n - suc k) 0)) (count_vars o cs xs a) (var_at o cs xs (length cs - suc k) c a g)
    by false g = cc

-- a variable that has a class is in scope
pub local_low : (o : Outline) (cs xs : List ℕ) (k c : ℕ) → AreVars o cs xs → local_class cs k ≡ Some c → k < length xs
local_low o cs xs k c a e = by (nat_lt k (length cs)) refl e
  where
    by : (b : Bool) → nat_lt k (length cs) ≡ b → cond b (slice_get cs (length cs - suc k)) None ≡ Some c → k < length xs
    by true f g = omega (arith, ltb-true k (length cs) f, count_vars o cs xs a)
    by false f g = cc

pub vars_more : (o : Outline) (cs xs : List ℕ) (c x : ℕ) → AreVars o cs xs → Contains (extent o c) x → AreVars o (cs ++ c ∷ []) (xs ++ x ∷ [])
vars_more o [] [] c x a h = (h, tt)
vars_more o [] (y ∷ ys) c x a h = absurd a
vars_more o (d ∷ cs) [] c x a h = absurd a
vars_more o (d ∷ cs) (y ∷ ys) c x (a, b) h = (a, vars_more o cs ys c x b h)

-- Expressions

module _ (o : Outline) (sound : IsSound o) (vs : List ℤ) (conf : IsConfiguration o vs) where
  -- where this is `this`, and these are the variables
  abbrev pub at : Option ℕ → List ℕ → Setting
  at this vars = record { outline = o; values = vs; this = this; vars = vars }

  -- what holds of an expression of this type that reaches so many objects
  pub record IsRight (r : ℕ) (ty : ExprType) (v : Value) : Type 0 where
    pub typed : IsValueOf o ty v
    pub reached : IsReached r ty v

  variable_right : (owner : Option ℕ) (us : List Variable) (k : ℕ) (s : Resolved) (ty : ExprType) (r : ℕ) → IsVariable us k s ty → ((v : Variable) → slice_get us k ≡ Some v → slice_get (variables_of o owner) k ≡ Some v) → IsOwner o owner → 1 ≤ r → IsRight (shape_reach o r s) ty (attribute_value o vs owner k s)
  variable_right owner us k s ty r i has w le =
      let a = attribute_there o sound vs conf owner k i.variable w (has i.variable i.there) in
      subst (λ x. IsRight (shape_reach o r s) x (attribute_value o vs owner k s)) i.type_is
      (subst (λ x. IsRight (shape_reach o r x) (shape_type x) (attribute_value o vs owner k x)) (sym i.shape_same) (record { typed = a.typed; reached = a.reached r le }))

  -- an attribute of an object of the class
  object_right : (c x k : ℕ) (s : Resolved) (ty : ExprType) (r : ℕ) → IsVariable (attributes o.classes c) k s ty → Contains (extent o c) x → 1 ≤ r → IsRight (shape_reach o r s) ty (attribute_value o vs (Some x) k s)
  object_right c x k s ty r i h le = variable_right (Some x) (attributes o.classes c) k s ty r i (λ v e. has_attribute o sound c x k v h e) (object_low o c x h) le

  this_right : (class this : Option ℕ) (ty : ExprType) → IsThis o class this → option_map type.Object class ≡ Some ty → IsRight 1 ty (value.Object (unwrap_or this 0))
  this_right None this ty h e = cc
  this_right (Some c) None ty h e = absurd h
  this_right (Some c) (Some x) ty h e = subst (λ t. IsRight 1 t (value.Object x)) (some_is e) (record { typed = h; reached = omega arith })

  own_right : (class this : Option ℕ) (k : ℕ) (s : Resolved) (ty : ExprType) → IsThis o class this → attribute_type o (option_map type.Object class) k s ≡ Some ty → IsRight (shape_reach o 1 s) ty (attribute_value o vs this k s)
  own_right None this k s ty h e = cc
  own_right (Some c) None k s ty h e = absurd h
  own_right (Some c) (Some x) k s ty h e = object_right c x k s ty 1 (variable_typed (attributes o.classes c) k s ty e) h (omega arith)

  local_right : (cs xs : List ℕ) (k : ℕ) (ty : ExprType) → AreVars o cs xs → option_map type.Object (local_class cs k) ≡ Some ty → IsRight 1 ty (value.Object (local_object xs k))
  local_right cs xs k ty a e = by (local_class cs k) refl e
    where
      by : (r : Option ℕ) → local_class cs k ≡ r → option_map type.Object r ≡ Some ty → IsRight 1 ty (value.Object (local_object xs k))
      by None f g = cc
      by (Some c) f g = subst (λ t. IsRight 1 t (value.Object (local_object xs k))) (some_is g) (record { typed = local_there o cs xs k c a f; reached = omega arith })

  value_right : (e k : ℕ) → value_there o e k ≡ true → k < value_count o e
  value_right e k h = by (slice_get o.enumerations e) h
    where
      by : (r : Option Enumeration) → option_map_or (λ (d : Enumeration). nat_lt k (length d.values)) r false ≡ true → k < option_map_or (λ (d : Enumeration). length d.values) r 0
      by None g = cc
      by (Some d) g = ltb-true k (length d.values) g

  dotted_right : (before : Option ExprType) (k : ℕ) (s : Resolved) (ty : ExprType) (r : ℕ) (v : Value) → attribute_type o before k s ≡ Some ty → ((t : ExprType) → before ≡ Some t → IsRight r t v) → IsRight (shape_reach o r s) ty (attribute_value o vs (Some (object_of v)) k s)
  dotted_right before k s ty r v e h =
      let d = dotted o before k s ty e in
      let b = h (type.Object d.class) d.is_object in
      object_right d.class (object_of v) k s ty r d.variable (is_object o d.class v b.typed) b.reached

  right_if : (b : Bool) (r : ℕ) (t ty : ExprType) (v : Value) → some_if b t ≡ Some ty → IsRight r t v → IsRight r ty v
  right_if b r t ty v e h = subst (λ x. IsRight r x v) (if_typed b t ty e).is h

  pub value_right_at : (t : Tree) (p : Place) (this : Option ℕ) (vars : List ℕ) (ty : ExprType) → IsThis o p.class this → AreVars o p.locals vars → tree_type o t p ≡ Some ty → IsRight (reach o t) ty (meaning.value t (at this vars))
  value_right_at (tree.Number i n) p this vars ty h a e = subst (λ x. IsRight 0 x (Int (pos n))) (some_is e) (record { typed = tt; reached = tt })
  value_right_at (tree.Truth i b) p this vars ty h a e = subst (λ x. IsRight 0 x (Truth b)) (some_is e) (record { typed = tt; reached = tt })
  value_right_at (tree.This i) p this vars ty h a e = this_right p.class this ty h e
  value_right_at (tree.Paren i t) p this vars ty h a e = value_right_at t p this vars ty h a e
  value_right_at (tree.Minus i t) p this vars ty h a e = right_if _ 0 type.Int ty (meaning.value (tree.Minus i t) (at this vars)) e (record { typed = tt; reached = tt })
  value_right_at (tree.Not i t) p this vars ty h a e = right_if _ 0 type.Truth ty (meaning.value (tree.Not i t) (at this vars)) e (record { typed = tt; reached = tt })
  value_right_at (tree.Pair i q l r) p this vars ty h a e =
      let v = meaning.value l (at this vars) in
      let w = meaning.value r (at this vars) in
      right_if _ 0 (made_by (class_of q)) ty (operate q v w) e (record { typed = operated o q v w; reached = result_reached 0 q (operate q v w) })
  value_right_at (tree.Local i k) p this vars ty h a e = local_right p.locals vars k ty a e
  value_right_at (tree.Own i k s) p this vars ty h a e = own_right p.class this k s ty h e
  value_right_at (tree.Root i k s) p this vars ty h a e = variable_right None o.roots k s ty 1 (variable_typed o.roots k s ty e) (λ v g. g) tt (omega arith)
  value_right_at (tree.Value i d k) p this vars ty h a e =
      let f = if_typed (value_there o d k) (type.Choice d) ty e in
      subst (λ x. IsRight 0 x (Choice d k)) f.is (record { typed = (refl, value_right d k f.test); reached = tt })
  value_right_at (tree.Class i c) p this vars ty h a e = right_if _ (length (extent o c)) (type.Class c) ty (Objects (extent o c)) e (record { typed = All-contains_itself (extent o c); reached = omega arith })
  value_right_at (tree.Dot i t k s) p this vars ty h a e = dotted_right (tree_type o t p) k s ty (reach o t) (meaning.value t (at this vars)) e (λ x f. value_right_at t p this vars x h a f)
  value_right_at (tree.Quant i q over f bs) p this vars ty h a e =
      let v = meaning.value (tree.Quant i q over f bs) (at this vars) in
      let g = quantifier_typed q (list_class (tree_type o over p)) _ ty e in
      subst (λ x. IsRight 0 x v) g.type_is (record { typed = quantifier_is o q (objects_of (meaning.value over (at this vars))) _ _; reached = quantifier_reached 0 q v })
  value_right_at (tree.Missing i) p this vars ty h a e = cc
