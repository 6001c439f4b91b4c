-- What stands in a typed expression is of the outline.
use Rattle.std.proofs.Common.{◌≡◌, ℕ, zero, suc, ◌<◌, Bool, true, false, ◌&&◌, List, [], ◌∷◌, length, All, refl, ap, arith}
use Rattle.std.specs.Prelude.{Option, None, Some, is_some, nat_eq, nat_lt, IfSome}
use Rattle.std.specs.Option.{option_map_or, option_map}
use Rattle.std.proofs.lemmas.Bool.{and_parts, eqb-true, ltb-true}
use Rattle.std.proofs.lemmas.List.Elements.{All-weaker}
use Rattle.class_table.specs.declared.table.Resolved.{Resolved}
use Rattle.class_table.specs.declared.table.Resolved.TheVariants as shape
use Rattle.class_table.specs.declared.table.Variable.{Variable}
use Rattle.class_table.specs.Outline.{Outline, attributes}
use Rattle.class_table.specs.Sound.{IsSound}
use Rattle.class_table.specs.Tables.{HasShapes}
use Rattle.conf_types.specs.declared.types.ExprType.{ExprType}
use Rattle.conf_types.specs.declared.types.ExprType.TheVariants.{Int, Truth, Choice, Object, Objects, Class}
use Rattle.conf_syntax.specs.declared.tree.QuantKind.{QuantKind}
use Rattle.conf_syntax.specs.OnlyIf.{some_if}
use Rattle.conf_types.specs.declared.types.Need.{Need}
use Rattle.conf_types.specs.declared.types.Need.TheVariants as need
use Rattle.conf_types.specs.Programs.{ResolvedConstraint, ResolvedGoal}
use Rattle.conf_types.specs.Readings.{has, list_class, takes_both}
use Rattle.conf_types.specs.Trees.{Tree, Filter, NoFilter, Where, Bodies, NoBody, Body}
use Rattle.conf_types.specs.Trees as tree
use Rattle.conf_types.specs.Types.{shape_type, body_need}
use Rattle.conf_types.specs.Operators.{is_linear, class_of, left_by, right_by, made_by}
use Rattle.conf_types.specs.Typing.{Place, within, outermost, same_shape, shaped, variable_type, attribute_type, quantifier_type, is_literal, tree_type, filter_fits, bodies_fit, IsTypedConstraint, IsTypedGoal}
use Rattle.conf_limits.specs.Limits.{IsShapeThere, IsThere, IsFilterThere, AreBodiesThere, IsConstraintThere, IsGoalThere}

-- Types

if_typed : (b : Bool) (t : ExprType) → is_some (some_if b t) ≡ true → b ≡ true
if_typed true t h = refl
if_typed false t h = h

if_has : (n : Need) (x : Option ExprType) → has n x ≡ true → is_some x ≡ true
if_has n None h = h
if_has n (Some t) h = refl

-- Shapes

module _ (o : Outline) where
  same_there : (s r : Resolved) → same_shape s r ≡ true → IsShapeThere o r → IsShapeThere o s
  same_there (shape.Span a b) r h k = tt
  same_there shape.Truth r h k = tt
  same_there (shape.Choice d) (shape.Choice e) h k = let same = eqb-true d e h in omega (arith, same, k)
  same_there (shape.One c) (shape.One d) h k = let same = eqb-true c d h in omega (arith, same, k)
  same_there (shape.Many c m) (shape.Many d n) h k = let same = eqb-true c d (and_parts (nat_eq c d) (nat_eq m n) h).0 in omega (arith, same, k)
  same_there (shape.Ref c) (shape.Ref d) h k = let same = eqb-true c d h in omega (arith, same, k)
  same_there (shape.RefSet c m) (shape.RefSet d n) h k = let same = eqb-true c d (and_parts (nat_eq c d) (nat_eq m n) h).0 in omega (arith, same, k)
  same_there _ _ h k = absurd cc

  shaped_there : (vs : List Variable) (k : ℕ) (s : Resolved) → HasShapes o vs → shaped vs k s ≡ true → IsShapeThere o s
  shaped_there [] k s all h = absurd cc
  shaped_there (v ∷ vs) zero s all h = same_there s v.shape h (all 0 v (omega arith))
  shaped_there (v ∷ vs) (suc k) s all h = shaped_there vs k s (λ i d below. all (suc i) d (omega (arith, below))) h

  variable_there : (vs : List Variable) (k : ℕ) (s : Resolved) → HasShapes o vs → is_some (variable_type vs k s) ≡ true → IsShapeThere o s
  variable_there vs k s all h = shaped_there vs k s all (if_typed (shaped vs k s) (shape_type s) h)

  -- an attribute, and that what it is of has a type
  attribute_there : IsSound o → (x : Option ExprType) (k : ℕ) (s : Resolved) → is_some (attribute_type o x k s) ≡ true → (is_some x ≡ true) × IsShapeThere o s
  attribute_there sound (Some (Object c)) k s h = (refl, variable_there (attributes o.classes c) k s (sound.closed.attributes_have c) h)
  attribute_there sound (Some Int) k s h = absurd cc
  attribute_there sound (Some Truth) k s h = absurd cc
  attribute_there sound (Some (Choice e)) k s h = absurd cc
  attribute_there sound (Some (Objects c)) k s h = absurd cc
  attribute_there sound (Some (Class c)) k s h = absurd cc
  attribute_there sound None k s h = absurd cc

  -- Quantifiers

  listed : (x : Option ExprType) (q : QuantKind) (fits : Bool) → is_some (quantifier_type q (list_class x) fits) ≡ true → (is_some x ≡ true) × (fits ≡ true)
  listed (Some (Objects c)) q fits h = (refl, if_typed fits _ h)
  listed (Some (Class c)) q fits h = (refl, if_typed fits _ h)
  listed (Some Int) q fits h = absurd cc
  listed (Some Truth) q fits h = absurd cc
  listed (Some (Choice e)) q fits h = absurd cc
  listed (Some (Object c)) q fits h = absurd cc
  listed None q fits h = absurd cc

  -- Expressions

  module _ (sound : IsSound o) where
    mutual
      pub there : (t : Tree) (p : Place) → is_some (tree_type o t p) ≡ true → IsThere o t
      there (tree.Number at n) p h = tt
      there (tree.Truth at b) p h = tt
      there (tree.This at) p h = tt
      there (tree.Local at k) p h = tt
      there (tree.Value at e k) p h = tt
      there (tree.Missing at) p h = tt
      there (tree.Own at k s) p h = (attribute_there sound (option_map Object p.class) k s h).1
      there (tree.Root at k s) p h = variable_there o.roots k s sound.closed.roots_have h
      there (tree.Class at c) p h = ltb-true c (length o.classes) (if_typed (nat_lt c (length o.classes)) (Class c) h)
      there (tree.Dot at e k s) p h = let a = attribute_there sound (tree_type o e p) k s h in (there e p a.0, a.1)
      there (tree.Paren at e) p h = there e p h
      there (tree.Minus at e) p h = there e p (if_has need.Int (tree_type o e p) (if_typed (has need.Int (tree_type o e p)) Int h))
      there (tree.Not at e) p h = there e p (if_has need.Truth (tree_type o e p) (if_typed (has need.Truth (tree_type o e p)) Truth h))
      there (tree.Pair at op l r) p h =
          let x = tree_type o l p in
          let y = tree_type o r p in
          let rest = takes_both op x y && is_linear op (is_literal l) (is_literal r) in
          let a = and_parts (has (left_by (class_of op)) x) (has (right_by (class_of op)) y && rest) (if_typed (has (left_by (class_of op)) x && (has (right_by (class_of op)) y && rest)) (made_by (class_of op)) h) in
          let b = and_parts (has (right_by (class_of op)) y) rest a.1 in
          (there l p (if_has (left_by (class_of op)) x a.0), there r p (if_has (right_by (class_of op)) y b.0))
      there (tree.Quant at q over f bs) p h =
          let inner = within p (list_class (tree_type o over p)) in
          let a = listed (tree_type o over p) q (filter_fits o f inner && bodies_fit o q bs 0 inner) h in
          let b = and_parts (filter_fits o f inner) (bodies_fit o q bs 0 inner) a.1 in
          (there over p a.0, (filter_there f inner b.0, bodies_there q bs 0 inner b.1))

      filter_there : (f : Filter) (p : Place) → filter_fits o f p ≡ true → IsFilterThere o f
      filter_there NoFilter p h = tt
      filter_there (Where e) p h = there e p (if_has need.Truth (tree_type o e p) h)

      bodies_there : (q : QuantKind) (bs : Bodies) (n : ℕ) (p : Place) → bodies_fit o q bs n p ≡ true → AreBodiesThere o bs
      bodies_there q NoBody n p h = tt
      bodies_there q (Body e bs) n p h =
          let a = and_parts (has (body_need q n) (tree_type o e p)) (bodies_fit o q bs (suc n) p) h in
          (there e p (if_has (body_need q n) (tree_type o e p) a.0), bodies_there q bs (suc n) p a.1)

    class_there : (c : Option ℕ) → option_map_or (λ n. nat_lt n (length o.classes)) c true ≡ true → IfSome c (λ n. n < length o.classes)
    class_there None h = tt
    class_there (Some c) h = ltb-true c (length o.classes) h

    pub constraints_there : (ks : List ResolvedConstraint) → All (IsTypedConstraint o) ks → All (IsConstraintThere o) ks
    constraints_there ks all = All-weaker (IsTypedConstraint o) (IsConstraintThere o) (λ k h. record { class = class_there k.class h.class; tree = there k.tree (outermost k.class) (ap is_some h.type) }) ks all

    pub goals_there : (gs : List ResolvedGoal) → All (IsTypedGoal o) gs → All (IsGoalThere o) gs
    goals_there gs all = All-weaker (IsTypedGoal o) (IsGoalThere o) (λ g h. there g.tree (outermost None) (ap is_some h)) gs all
