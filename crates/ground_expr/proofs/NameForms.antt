-- Names as forms: `this`, a quantifier's variable, a value of an enumeration, a class, an attribute
-- of an object that is known.
use Rattle.std.proofs.Common.{◌≡◌, ℕ, zero, suc, ◌-◌, ◌<◌, Bool, true, false, cond, List, [], ◌∷◌, ℤ, Option, None, Some, length, Global, refl, sym, ap, subst, arith}
use Rattle.std.specs.Prelude.{Contains, slice_get, slice_index_or, nat_lt, unwrap_or}
use Rattle.std.specs.Option.{option_map_or, option_map}
use Rattle.std.specs.declared.vec.Vec.{Vec}
use Rattle.std.specs.List.{All}
use Rattle.std.proofs.lemmas.List.Elements.{All-contains_itself}
use Rattle.std.proofs.lemmas.Bool.Decides.{nat_tests}
use Rattle.class_table.specs.declared.table.Enumeration.{Enumeration}
use Rattle.class_table.specs.declared.table.Resolved.{Resolved}
use Rattle.class_table.specs.Outline.{Outline}
use Rattle.conf_types.specs.declared.types.ExprType.{ExprType}
use Rattle.conf_types.specs.declared.types.ExprType.TheVariants as type
use Rattle.conf_types.specs.Trees as tree
use Rattle.conf_types.specs.Typing.{Place, local_class, tree_type, value_there}
use Rattle.object_alloc.specs.Cells.{extent, value_count}
use Rattle.object_alloc.specs.Walk.{objects}
use Rattle.conf_eval.specs.declared.value.Value.TheVariants.{Object, Objects}
use Rattle.conf_eval.specs.Fitting.{IsThis, AreVars, Fits}
use Rattle.conf_eval.specs.Meaning.{local_object}
use Rattle.conf_eval.proofs.LawsClasses.{object_low}
use Rattle.conf_eval.proofs.LawsValues.{some_is, if_typed, variable_typed, dotted}
use Rattle.ground_form.specs.declared.ground.Ground.{Ground}
use Rattle.expr_forms.specs.declared.form.Choice.TheVariants as choice
use Rattle.expr_forms.specs.declared.form.Listing.TheVariants as listing
use Rattle.expr_forms.specs.declared.form.Form.{Form}
use Rattle.expr_forms.specs.declared.form.Form.TheVariants as form
use Rattle.expr_forms.specs.FormBounds.{IsFormOf, IsGroundForm}
use Rattle.expr_forms.specs.Standing.{IsStanding, bare_setting}
use Rattle.expr_forms.proofs.Trees.{no_number}
use Rattle.ground_expr.specs.Known.{IsKnownForm}

-- ---- variables in scope

var_at : (o : Outline) (cs xs : List ℕ) (i c : ℕ) → AreVars o cs xs → slice_get cs i ≡ Some c → Contains (extent o c) (slice_index_or xs i 0)
var_at o [] xs i c a e = cc
var_at o (d ∷ cs) [] i c a e = absurd a
var_at o (d ∷ cs) (x ∷ xs) zero c a e = subst (λ (z : ℕ). Contains (extent o z) x) (some_is e) a.0
var_at o (d ∷ cs) (x ∷ xs) (suc i) c a e = var_at o cs xs i c a.1 e

count_vars : (o : Outline) (cs xs : List ℕ) → AreVars o cs xs → length cs ≡ length xs
count_vars o [] [] a = refl
count_vars o [] (x ∷ xs) a = absurd a
count_vars o (c ∷ cs) [] a = absurd a
count_vars o (c ∷ cs) (x ∷ xs) a = ap suc (count_vars o cs xs a.1)

local_in : (o : Outline) (cs xs : List ℕ) (k c : ℕ) → AreVars o cs xs → local_class cs k ≡ Some c → Contains (extent o c) (local_object xs k)
local_in o cs xs k c a e = by (nat_lt k (length cs)) e
  where
    by : (b : Bool) → cond b (slice_get cs (length cs - suc k)) None ≡ Some c → Contains (extent o c) (local_object xs k)
    by true g = subst (λ n. Contains (extent o c) (slice_index_or xs (n - suc k) 0)) (count_vars o cs xs a) (var_at o cs xs (length cs - suc k) c a g)
    by false g = cc

module _ (o : Outline) (this : Option ℕ) (vars : List ℕ) where
  -- `this` is of the class of its place
  pub this_typed : (i x : ℕ) (p : Place) (ty : ExprType) → this ≡ Some x → Fits o [] p (bare_setting o this vars) → tree_type o (tree.This i) p ≡ Some ty → (c : ℕ) × (type.Object c ≡ ty) × Contains (extent o c) x
  this_typed i x p ty e f is = by p.class (subst (λ (z : Option ℕ). IsThis o p.class z) e f.this) is
    where
      by : (class : Option ℕ) → IsThis o class (Some x) → option_map type.Object class ≡ Some ty → (c : ℕ) × (type.Object c ≡ ty) × Contains (extent o c) x
      by None h g = cc
      by (Some c) h g = (c, some_is g, h)

  pub this_low : (i x : ℕ) → this ≡ Some x → IsStanding o (tree.This i) this vars → x < length (objects o)
  this_low i x e s =
      let t = this_typed i x s.place s.type e s.setting s.typed in
      object_low o t.0 x t.2

  pub no_this : (i : ℕ) → this ≡ None → IsStanding o (tree.This i) this vars → ⊥
  no_this i e s = by s.place.class (subst (λ (z : Option ℕ). IsThis o s.place.class z) e s.setting.this) s.typed
    where
      by : (class : Option ℕ) → IsThis o class None → option_map type.Object class ≡ Some s.type → ⊥
      by None h g = cc
      by (Some c) h g = h

  pub local_typed : (i k : ℕ) (p : Place) (ty : ExprType) → Fits o [] p (bare_setting o this vars) → tree_type o (tree.Local i k) p ≡ Some ty → (c : ℕ) × (type.Object c ≡ ty) × Contains (extent o c) (local_object vars k)
  local_typed i k p ty f is = by (local_class p.locals k) refl is
    where
      by : (class : Option ℕ) → local_class p.locals k ≡ class → option_map type.Object class ≡ Some ty → (c : ℕ) × (type.Object c ≡ ty) × Contains (extent o c) (local_object vars k)
      by None h g = cc
      by (Some c) h g = (c, some_is g, local_in o p.locals vars k c f.vars h)

  pub local_there : (i k : ℕ) → IsStanding o (tree.Local i k) this vars → local_object vars k < length (objects o)
  local_there i k s =
      let t = local_typed i k s.place s.type s.setting s.typed in
      object_low o t.0 (local_object vars k) t.2

module _ (o : Outline) (g : Ground) (known : List (ℕ × ℤ)) (this : Option ℕ) (vars : List ℕ) where
  -- the object is of each type that the expression has
  fixed_of : (d x : ℕ) (ty : ExprType) → (c : ℕ) × (type.Object c ≡ ty) × Contains (extent o c) x → IsFormOf o g.domains ty (form.Object d (choice.Fixed x))
  fixed_of d x ty h = subst (λ (z : ExprType). IsFormOf o g.domains z (form.Object d (choice.Fixed x))) h.1 (h.2, tt)

  pub this_is : (i d x : ℕ) → this ≡ Some x → IsGroundForm o g known (tree.This i) this vars (form.Object d (choice.Fixed x))
  this_is i d x e = record {
    stands = λ a w kn. ap (λ (z : Option ℕ). Object (unwrap_or z 0)) e;
    form = record {
      number = no_number g.domains _ _ refl refl;
      truth = tt;
      typed = λ p ty f is. fixed_of d x ty (this_typed o this vars i x p ty e f is);
      reached = omega arith;
    };
  }

  pub local_is : (i d k : ℕ) → IsGroundForm o g known (tree.Local i k) this vars (form.Object d (choice.Fixed (local_object vars k)))
  local_is i d k = record {
    stands = λ a w kn. refl;
    form = record {
      number = no_number g.domains _ _ refl refl;
      truth = tt;
      typed = λ p ty f is. fixed_of d (local_object vars k) ty (local_typed o this vars i k p ty f is);
      reached = omega arith;
    };
  }

  few_values : (e k : ℕ) → value_there o e k ≡ true → k < value_count o e
  few_values e k h = by (slice_get o.enumerations e) h
    where
      by : (r : Option Enumeration) → option_map_or (λ (d : Enumeration). nat_lt k (length d.values)) r false ≡ true → k < option_map_or (λ (d : Enumeration). length d.values) r 0
      by None g = cc
      by (Some d) g = grind (arith, nat_tests)

  pub value_is : (i e k : ℕ) → IsGroundForm o g known (tree.Value i e k) this vars (form.Choice e (choice.Fixed k))
  value_is i e k = record {
    stands = λ a w kn. refl;
    form = record {
      number = no_number g.domains _ _ refl refl;
      truth = tt;
      typed = λ p ty f is.
          let t = if_typed (value_there o e k) (type.Choice e) ty is in
          subst (λ (z : ExprType). IsFormOf o g.domains z (form.Choice e (choice.Fixed k))) t.is (refl, few_values e k t.test);
      reached = omega arith;
    };
  }

  pub class_is : (i c : ℕ) (xs : Vec ℕ Global) → xs.items ≡ extent o c → IsGroundForm o g known (tree.Class i c) this vars (form.List (listing.All xs))
  class_is i c xs e = record {
    stands = λ a w kn. ap (λ (ys : List ℕ). Objects ys) (sym e);
    form = record {
      number = no_number g.domains _ _ refl refl;
      truth = tt;
      typed = λ p ty f is.
          let t = if_typed (nat_lt c (length o.classes)) (type.Class c) ty is in
          subst (λ (z : ExprType). IsFormOf o g.domains z (form.List (listing.All xs))) t.is (subst (All (Contains (extent o c))) (sym e) (All-contains_itself (extent o c)));
      reached = let same = ap length e in omega (arith, same);
    };
  }

  pub own_is : (i k : ℕ) (s : Resolved) (f : Form) → IsKnownForm o g known this k s f → IsGroundForm o g known (tree.Own i k s) this vars f
  own_is i k s f h = record {
    stands = λ a w kn. h.stands a w kn;
    form = record {
      number = h.number;
      truth = h.truth;
      typed = λ p ty fits is. subst (λ (z : ExprType). IsFormOf o g.domains z f) (dotted o (option_map type.Object p.class) k s ty is).variable.type_is h.typed;
      reached = h.reached 1 (omega arith);
    };
  }

  pub root_is : (i k : ℕ) (s : Resolved) (f : Form) → IsKnownForm o g known None k s f → IsGroundForm o g known (tree.Root i k s) this vars f
  root_is i k s f h = record {
    stands = λ a w kn. h.stands a w kn;
    form = record {
      number = h.number;
      truth = h.truth;
      typed = λ p ty fits is. subst (λ (z : ExprType). IsFormOf o g.domains z f) (variable_typed o.roots k s ty is).type_is h.typed;
      reached = h.reached 1 (omega arith);
    };
  }
