-- What stands in an expression that stands somewhere: it is typed and narrow too, and what it names
-- is there.
use Rattle.std.proofs.Common.{◌≡◌, ℕ, ◌<◌, ◌&&◌, List, Option, None, Some, length, refl, sym, ◌∙◌, subst}
use Rattle.std.specs.Option.{option_map}
use Rattle.std.specs.Prelude.{Contains, slice_get}
use Rattle.std.proofs.lemmas.Bool.{and_parts}
use Rattle.class_table.specs.declared.table.Resolved.{Resolved}
use Rattle.class_table.specs.declared.table.Variable.{Variable}
use Rattle.class_table.specs.Outline.{Outline, attributes}
use Rattle.class_table.specs.Sound.{IsSound}
use Rattle.conf_syntax.specs.declared.tree.Op.{Op}
use Rattle.conf_types.specs.declared.types.ExprType.{ExprType}
use Rattle.conf_types.specs.declared.types.ExprType.TheVariants as type
use Rattle.conf_types.specs.declared.types.Need.TheVariants as need
use Rattle.conf_types.specs.Readings.{has}
use Rattle.conf_types.specs.Trees.{Tree}
use Rattle.conf_types.specs.Trees as tree
use Rattle.conf_types.specs.Typing.{Place, local_class, attribute_type, tree_type}
use Rattle.conf_types.specs.Operators.{class_of, left_by, right_by}
use Rattle.object_alloc.specs.Cells.{extent}
use Rattle.object_alloc.specs.Variables.{variables_of}
use Rattle.object_alloc.specs.Own.{IsOwner}
use Rattle.conf_eval.specs.Fitting.{IsThis, HasShape}
use Rattle.conf_limits.specs.Measures.{narrow}
use Rattle.conf_eval.proofs.LawsClasses.{object_low, has_attribute}
use Rattle.conf_eval.proofs.LawsIntervals.{typed_of_has}
use Rattle.conf_eval.proofs.LawsValues.{if_typed, IsVariable, variable_typed, local_low, dotted}
use Rattle.expr_forms.specs.Standing.{IsStanding}

module _ (o : Outline) (this : Option ℕ) (vars : List ℕ) where
  pub in_paren : (i : ℕ) (t : Tree) → IsStanding o (tree.Paren i t) this vars → IsStanding o t this vars
  in_paren i t e = record { place = e.place; type = e.type; setting = e.setting; typed = e.typed; numbers = e.numbers }

  pub in_minus : (i : ℕ) (t : Tree) → IsStanding o (tree.Minus i t) this vars → IsStanding o t this vars
  in_minus i t e =
      let f = if_typed (has need.Int (tree_type o t e.place)) type.Int e.type e.typed in
      let g = typed_of_has need.Int (tree_type o t e.place) f.test in
      record { place = e.place; type = g.type_is; setting = e.setting; typed = g.there; numbers = (and_parts (narrow o t) _ e.numbers).0 }

  pub in_not : (i : ℕ) (t : Tree) → IsStanding o (tree.Not i t) this vars → IsStanding o t this vars
  in_not i t e =
      let f = if_typed (has need.Truth (tree_type o t e.place)) type.Truth e.type e.typed in
      let g = typed_of_has need.Truth (tree_type o t e.place) f.test in
      record { place = e.place; type = g.type_is; setting = e.setting; typed = g.there; numbers = e.numbers }

  pub in_left : (i : ℕ) (q : Op) (l r : Tree) → IsStanding o (tree.Pair i q l r) this vars → IsStanding o l this vars
  in_left i q l r e =
      let f = if_typed _ _ e.type e.typed in
      let m = and_parts (has (left_by (class_of q)) (tree_type o l e.place)) _ f.test in
      let g = typed_of_has (left_by (class_of q)) (tree_type o l e.place) m.0 in
      let n = and_parts (narrow o l && narrow o r) _ e.numbers in
      record { place = e.place; type = g.type_is; setting = e.setting; typed = g.there; numbers = (and_parts (narrow o l) (narrow o r) n.0).0 }

  pub in_right : (i : ℕ) (q : Op) (l r : Tree) → IsStanding o (tree.Pair i q l r) this vars → IsStanding o r this vars
  in_right i q l r e =
      let f = if_typed _ _ e.type e.typed in
      let m = and_parts (has (left_by (class_of q)) (tree_type o l e.place)) _ f.test in
      let k = and_parts (has (right_by (class_of q)) (tree_type o r e.place)) _ m.1 in
      let g = typed_of_has (right_by (class_of q)) (tree_type o r e.place) k.0 in
      let n = and_parts (narrow o l && narrow o r) _ e.numbers in
      record { place = e.place; type = g.type_is; setting = e.setting; typed = g.there; numbers = (and_parts (narrow o l) (narrow o r) n.0).1 }

  pub in_dot : (i : ℕ) (t : Tree) (k : ℕ) (sh : Resolved) → IsStanding o (tree.Dot i t k sh) this vars → IsStanding o t this vars
  in_dot i t k sh e =
      let d = dotted o (tree_type o t e.place) k sh e.type e.typed in
      record { place = e.place; type = type.Object d.class; setting = e.setting; typed = d.is_object; numbers = (and_parts (narrow o t) _ e.numbers).0 }

  -- ---- names in scope

  pub local_there : (i k : ℕ) → IsStanding o (tree.Local i k) this vars → k < length vars
  local_there i k e = by (local_class e.place.locals k) refl e.typed
    where
      by : (c : Option ℕ) → local_class e.place.locals k ≡ c → option_map type.Object c ≡ Some e.type → k < length vars
      by None f g = cc
      by (Some c) f g = local_low o e.place.locals vars k c e.setting.vars f

  shape_of : (owner : Option ℕ) (us : List Variable) (k : ℕ) (sh : Resolved) (ty : ExprType) → IsVariable us k sh ty → ((v : Variable) → slice_get us k ≡ Some v → slice_get (variables_of o owner) k ≡ Some v) → IsOwner o owner → HasShape o owner k sh
  shape_of owner us k sh ty v more w = record { variable = v.variable; there = w; is = more v.variable v.there; shape = sym v.shape_same }

  pub root_shape : (i k : ℕ) (sh : Resolved) → IsStanding o (tree.Root i k sh) this vars → HasShape o None k sh
  root_shape i k sh e = shape_of None o.roots k sh e.type (variable_typed o.roots k sh e.type e.typed) (λ v g. g) tt

  pub own_shape : IsSound o → (i k : ℕ) (sh : Resolved) → IsStanding o (tree.Own i k sh) this vars → HasShape o this k sh
  own_shape sound i k sh e = by e.place.class this e.setting.this e.typed
    where
      by : (class here : Option ℕ) → IsThis o class here → attribute_type o (option_map type.Object class) k sh ≡ Some e.type → HasShape o here k sh
      by None here h g = cc
      by (Some c) None h g = absurd h
      by (Some c) (Some x) h g = shape_of (Some x) (attributes o.classes c) k sh e.type (variable_typed (attributes o.classes c) k sh e.type g) (λ v f. has_attribute o sound c x k v h f) (object_low o c x h)

  -- an object of the class of what stands before the dot has the attribute
  pub shape_at : IsSound o → (i : ℕ) (t : Tree) (k : ℕ) (sh : Resolved) (p : Place) (ty : ExprType) (c x : ℕ) → tree_type o (tree.Dot i t k sh) p ≡ Some ty → tree_type o t p ≡ Some (type.Object c) → Contains (extent o c) x → HasShape o (Some x) k sh
  shape_at sound i t k sh p ty c x e f h =
      let d = dotted o (tree_type o t p) k sh ty e in
      let same : d.class ≡ c = object_class (some_type (sym d.is_object ∙ f)) in
      shape_of (Some x) (attributes o.classes d.class) k sh ty d.variable (λ v g. has_attribute o sound d.class x k v (back same h) g) (object_low o c x h)
    where
      some_type : {a b : ExprType} → Some a ≡ Some b → a ≡ b
      some_type g = cc

      object_class : {a b : ℕ} → type.Object a ≡ type.Object b → a ≡ b
      object_class g = cc

      back : {a b : ℕ} → a ≡ b → Contains (extent o b) x → Contains (extent o a) x
      back g m = subst (λ (z : ℕ). Contains (extent o z) x) (sym g) m
