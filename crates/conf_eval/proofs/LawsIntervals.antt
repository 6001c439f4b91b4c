-- The value of a typed expression lies in the expression's interval.
use Rattle.std.proofs.Common.{◌≡◌, ℕ, zero, suc, ◌≤◌, Bool, true, ◌&&◌, cond, List, [], ◌∷◌, ◌++◌, Option, None, Some, length, map, ℤ, pos, neg_ℤ, refl, sym, subst, arith}
use Rattle.std.specs.Option.{option_map}
use Rattle.std.specs.Prelude.{All, Contains, slice_get, slice_index_or}
use Rattle.std.proofs.lemmas.Bool.{and_parts}
use Rattle.std.proofs.lemmas.Int.{ints}
use Rattle.std.proofs.lemmas.List.{length-map}
use Rattle.std.proofs.lemmas.List.Elements.{All-weaker, All-map}
use Rattle.std.proofs.lemmas.List.Sums.{count_by-le-length}
use Rattle.class_table.specs.declared.table.Resolved.{Resolved}
use Rattle.class_table.specs.declared.table.Variable.{Variable}
use Rattle.class_table.specs.Outline.{Outline, attributes}
use Rattle.class_table.specs.Sound.{IsSound}
use Rattle.conf_syntax.specs.declared.tree.Op.{Op}
use Rattle.conf_syntax.specs.declared.tree.Op.TheVariants as op
use Rattle.conf_syntax.specs.declared.tree.QuantKind.{QuantKind}
use Rattle.conf_syntax.specs.declared.tree.QuantKind.TheVariants as kind
use Rattle.conf_types.specs.declared.types.ExprType.{ExprType}
use Rattle.conf_types.specs.declared.types.ExprType.TheVariants as type
use Rattle.conf_types.specs.declared.types.Need.{Need}
use Rattle.conf_types.specs.declared.types.Need.TheVariants as need
use Rattle.conf_types.specs.Readings.{has, list_class, takes_both}
use Rattle.conf_types.specs.Trees.{Tree, Filter, Bodies, NoBody, Body}
use Rattle.conf_types.specs.Trees as tree
use Rattle.conf_types.specs.Types.{body_need}
use Rattle.conf_types.specs.Typing.{Place, inside, within, attribute_type, tree_type, filter_fits, bodies_fit}
use Rattle.conf_types.specs.Operators.{class_of, left_by, right_by}
use Rattle.object_alloc.specs.Cells.{extent}
use Rattle.object_alloc.specs.Configurations.{IsConfiguration}
use Rattle.object_alloc.specs.Variables.{variables_of}
use Rattle.object_alloc.specs.Own.{IsOwner}
use Rattle.conf_eval.specs.declared.value.Value.{Value}
use Rattle.conf_eval.specs.declared.value.Value.TheVariants.{Int}
use Rattle.conf_eval.specs.Fitting.{IsThis, AreVars, IsValueOf, IsWithin}
use Rattle.conf_eval.specs.Meaning.{Setting, attribute_value, object_of, objects_of, int_of, first_of, total, operate, quantified, values_of, Item, item_of, same_value, load}
use Rattle.conf_eval.specs.Meaning as meaning
use Rattle.conf_limits.specs.declared.interval.Interval.{Interval}
use Rattle.conf_limits.specs.Measures.{between, none, reach, shape_interval, many, operator_interval, quantifier_interval, interval, body_interval}
use Rattle.conf_eval.proofs.LawsClasses.{object_low, has_attribute}
use Rattle.conf_eval.proofs.LawsCells.{attribute_there}
use Rattle.conf_eval.proofs.LawsSums.{IsTerm, term_if, times_within, zero_within, total_within}
use Rattle.conf_eval.proofs.LawsValues.{if_typed, IsVariable, variable_typed, dotted, is_object, AreListed, listed, quantifier_typed, vars_more, value_right_at}

-- something has a type where it is what is needed
pub record IsTyped (t : Option ExprType) : Type 0 where
  pub type_is : ExprType
  pub there : t ≡ Some type_is

pub typed_of_has : (n : Need) (t : Option ExprType) → has n t ≡ true → IsTyped t
typed_of_has n None h = cc
typed_of_has n (Some t) h = record { type_is = t; there = refl }

none_within : IsWithin none (pos 0)
none_within = record { low = omega (arith, ints); high = omega (arith, ints) }

operated_within : (q : Op) (i j : Interval) (v w : Value) → IsWithin i (int_of v) → IsWithin j (int_of w) → IsWithin (operator_interval q i j) (int_of (operate q v w))
operated_within op.Add i j v w a b = record { low = omega (arith, ints); high = omega (arith, ints) }
operated_within op.Sub i j v w a b = record { low = omega (arith, ints); high = omega (arith, ints) }
operated_within op.Mul i j v w a b = times_within i j (int_of v) (int_of w) a b
operated_within op.Implies i j v w a b = none_within
operated_within op.Or i j v w a b = none_within
operated_within op.And i j v w a b = none_within
operated_within op.Eq i j v w a b = none_within
operated_within op.Ne i j v w a b = none_within
operated_within op.Lt i j v w a b = none_within
operated_within op.Le i j v w a b = none_within
operated_within op.Gt i j v w a b = none_within
operated_within op.Ge i j v w a b = none_within
operated_within op.In i j v w a b = none_within

turned : (i : Interval) (v : ℤ) → IsWithin i v → IsWithin (between (neg_ℤ i.high) (neg_ℤ i.low)) (neg_ℤ v)
turned i v h = record { low = omega (arith, ints); high = omega (arith, ints) }

first_same : (vs : List Value) → int_of (first_of vs) ≡ int_of (slice_index_or vs 0 (Int (pos 0)))
first_same [] = refl
first_same (v ∷ vs) = refl

-- the sum over these members, where each body's value lies in the interval
pub sum_within : (i : Interval) (r : ℕ) (xs : List ℕ) (keeps : ℕ → Bool) (bodies : ℕ → List Value) → length xs ≤ r → All (λ x. IsWithin i (int_of (slice_index_or (bodies x) 0 (Int (pos 0))))) xs → IsWithin (many r i) (total (map (λ x. cond (keeps x) (int_of (first_of (bodies x))) (pos 0)) xs))
sum_within i r xs keeps bodies le h =
    total_within i r (map (λ x. cond (keeps x) (int_of (first_of (bodies x))) (pos 0)) xs) (omega (arith, le, length-map xs (λ x. cond (keeps x) (int_of (first_of (bodies x))) (pos 0))))
    (All-map (IsTerm i) (λ x. cond (keeps x) (int_of (first_of (bodies x))) (pos 0)) xs
    (All-weaker (λ x. IsWithin i (int_of (slice_index_or (bodies x) 0 (Int (pos 0))))) (λ x. IsTerm i (cond (keeps x) (int_of (first_of (bodies x))) (pos 0)))
    (λ x g. term_if i (keeps x) (int_of (first_of (bodies x))) (subst (IsWithin i) (sym (first_same (bodies x))) g)) xs h))

-- the load of a bin, where each size lies in the interval
pub load_within : (i : Interval) (r : ℕ) (bin : Value) (xs : List Item) → length xs ≤ r → All (λ (x : Item). IsWithin i x.size) xs → IsWithin (many r i) (load bin xs)
load_within i r bin xs le h =
    total_within i r (map (λ (x : Item). cond (same_value bin x.bin) x.size (pos 0)) xs) (omega (arith, le, length-map xs (λ (x : Item). cond (same_value bin x.bin) x.size (pos 0))))
    (All-map (IsTerm i) (λ (x : Item). cond (same_value bin x.bin) x.size (pos 0)) xs
    (All-weaker (λ (x : Item). IsWithin i x.size) (λ (x : Item). IsTerm i (cond (same_value bin x.bin) x.size (pos 0)))
    (λ x g. term_if i (same_value bin x.bin) x.size g) xs h))

quantified_within : (q : QuantKind) (r : ℕ) (i j : Interval) (xs : List ℕ) (keeps : ℕ → Bool) (bodies : ℕ → List Value) → length xs ≤ r → All (λ x. IsWithin i (int_of (slice_index_or (bodies x) 0 (Int (pos 0))))) xs → IsWithin (quantifier_interval q r i j) (int_of (quantified q xs keeps bodies))
quantified_within kind.Sum r i j xs keeps bodies le h = sum_within i r xs keeps bodies le h
quantified_within kind.Count r i j xs keeps bodies le h =
    let c = count_by-le-length (λ x. keeps x && meaning.all_true (bodies x)) xs in
    record { low = omega (arith, ints); high = omega (arith, ints) }
quantified_within kind.Pack r i j xs keeps bodies le h = zero_within j r
quantified_within kind.Forall r i j xs keeps bodies le h = none_within
quantified_within kind.Exists r i j xs keeps bodies le h = none_within
quantified_within kind.AllDifferent r i j xs keeps bodies le h = none_within

module _ (o : Outline) (sound : IsSound o) (vs : List ℤ) (conf : IsConfiguration o vs) where
  abbrev here : Option ℕ → List ℕ → Setting
  here this vars = record { outline = o; values = vs; this = this; vars = vars }

  variable_within : (owner : Option ℕ) (us : List Variable) (k : ℕ) (s : Resolved) (ty : ExprType) → IsVariable us k s ty → ((v : Variable) → slice_get us k ≡ Some v → slice_get (variables_of o owner) k ≡ Some v) → IsOwner o owner → IsWithin (shape_interval s) (int_of (attribute_value o vs owner k s))
  variable_within owner us k s ty i more w =
      let a = attribute_there o sound vs conf owner k i.variable w (more i.variable i.there) in
      subst (λ x. IsWithin (shape_interval x) (int_of (attribute_value o vs owner k x))) (sym i.shape_same) a.within

  object_within : (c x k : ℕ) (s : Resolved) (ty : ExprType) → IsVariable (attributes o.classes c) k s ty → Contains (extent o c) x → IsWithin (shape_interval s) (int_of (attribute_value o vs (Some x) k s))
  object_within c x k s ty i h = variable_within (Some x) (attributes o.classes c) k s ty i (λ v e. has_attribute o sound c x k v h e) (object_low o c x h)

  own_within : (class this : Option ℕ) (k : ℕ) (s : Resolved) (ty : ExprType) → IsThis o class this → attribute_type o (option_map type.Object class) k s ≡ Some ty → IsWithin (shape_interval s) (int_of (attribute_value o vs this k s))
  own_within None this k s ty h e = cc
  own_within (Some c) None k s ty h e = absurd h
  own_within (Some c) (Some x) k s ty h e = object_within c x k s ty (variable_typed (attributes o.classes c) k s ty e) h

  dotted_within : (before : Option ExprType) (k : ℕ) (s : Resolved) (ty : ExprType) (v : Value) → attribute_type o before k s ≡ Some ty → ((t : ExprType) → before ≡ Some t → IsValueOf o t v) → IsWithin (shape_interval s) (int_of (attribute_value o vs (Some (object_of v)) k s))
  dotted_within before k s ty v e h =
      let d = dotted o before k s ty e in
      object_within d.class (object_of v) k s ty d.variable (is_object o d.class v (h (type.Object d.class) d.is_object))

  -- the members of what a quantifier stands over
  pub members_listed : (over : Tree) (p : Place) (this : Option ℕ) (vars : List ℕ) (c : ℕ) → IsThis o p.class this → AreVars o p.locals vars → list_class (tree_type o over p) ≡ Some c → AreListed o c (reach o over) (meaning.value over (here this vars))
  members_listed over p this vars c h a e = listed o (tree_type o over p) c (reach o over) (meaning.value over (here this vars)) e (λ ty f. let r = value_right_at o sound vs conf over p this vars ty h a f in (r.typed, r.reached))

  mutual
    pub value_within_at : (t : Tree) (p : Place) (this : Option ℕ) (vars : List ℕ) (ty : ExprType) → IsThis o p.class this → AreVars o p.locals vars → tree_type o t p ≡ Some ty → IsWithin (interval o t) (int_of (meaning.value t (here this vars)))
    value_within_at (tree.Number i n) p this vars ty h a e = record { low = omega (arith, ints); high = omega (arith, ints) }
    value_within_at (tree.Truth i b) p this vars ty h a e = none_within
    value_within_at (tree.This i) p this vars ty h a e = none_within
    value_within_at (tree.Paren i t) p this vars ty h a e = value_within_at t p this vars ty h a e
    value_within_at (tree.Minus i t) p this vars ty h a e =
        let f = if_typed _ type.Int ty e in
        let g = typed_of_has need.Int (tree_type o t p) f.test in
        turned (interval o t) (int_of (meaning.value t (here this vars))) (value_within_at t p this vars g.type_is h a g.there)
    value_within_at (tree.Not i t) p this vars ty h a e = none_within
    value_within_at (tree.Pair i q l r) p this vars ty h a e =
        let f = if_typed _ _ ty e in
        let m = and_parts (has (left_by (class_of q)) (tree_type o l p)) _ f.test in
        let n = and_parts (has (right_by (class_of q)) (tree_type o r p)) _ m.1 in
        let x = typed_of_has (left_by (class_of q)) (tree_type o l p) m.0 in
        let y = typed_of_has (right_by (class_of q)) (tree_type o r p) n.0 in
        operated_within q (interval o l) (interval o r) (meaning.value l (here this vars)) (meaning.value r (here this vars)) (value_within_at l p this vars x.type_is h a x.there) (value_within_at r p this vars y.type_is h a y.there)
    value_within_at (tree.Local i k) p this vars ty h a e = none_within
    value_within_at (tree.Own i k s) p this vars ty h a e = own_within p.class this k s ty h e
    value_within_at (tree.Root i k s) p this vars ty h a e = variable_within None o.roots k s ty (variable_typed o.roots k s ty e) (λ v g. g) tt
    value_within_at (tree.Value i d k) p this vars ty h a e = none_within
    value_within_at (tree.Class i c) p this vars ty h a e = none_within
    value_within_at (tree.Dot i t k s) p this vars ty h a e = dotted_within (tree_type o t p) k s ty (meaning.value t (here this vars)) e (λ x f. (value_right_at o sound vs conf t p this vars x h a f).typed)
    value_within_at (tree.Quant i q over f bs) p this vars ty h a e =
        let g = quantifier_typed q (list_class (tree_type o over p)) _ ty e in
        let m = members_listed over p this vars g.class h a g.over_is in
        let fits = and_parts (filter_fits o f (within p (list_class (tree_type o over p)))) _ g.parts_fit in
        let inner : bodies_fit o q bs 0 (inside p g.class) ≡ true = subst (λ l. bodies_fit o q bs 0 (within p l) ≡ true) g.over_is fits.1 in
        quantified_within q (reach o over) (body_interval o bs 0) (body_interval o bs 1) (objects_of (meaning.value over (here this vars))) _ (λ x. values_of bs (here this (vars ++ x ∷ []))) m.count
        (All-weaker (Contains (extent o g.class)) (λ x. IsWithin (body_interval o bs 0) (int_of (slice_index_or (values_of bs (here this (vars ++ x ∷ []))) 0 (Int (pos 0)))))
        (λ x c. bodies_within_at bs q 0 (inside p g.class) this (vars ++ x ∷ []) 0 h (vars_more o p.locals vars g.class x a c) inner) (objects_of (meaning.value over (here this vars))) m.all)
    value_within_at (tree.Missing i) p this vars ty h a e = cc

    -- the value of body number k
    pub bodies_within_at : (bs : Bodies) (q : QuantKind) (n : ℕ) (p : Place) (this : Option ℕ) (vars : List ℕ) (k : ℕ) → IsThis o p.class this → AreVars o p.locals vars → bodies_fit o q bs n p ≡ true → IsWithin (body_interval o bs k) (int_of (slice_index_or (values_of bs (here this vars)) k (Int (pos 0))))
    bodies_within_at NoBody q n p this vars k h a e = none_within
    bodies_within_at (Body t bs) q n p this vars zero h a e =
        let m = and_parts (has (body_need q n) (tree_type o t p)) (bodies_fit o q bs (suc n) p) e in
        let x = typed_of_has (body_need q n) (tree_type o t p) m.0 in
        value_within_at t p this vars x.type_is h a x.there
    bodies_within_at (Body t bs) q n p this vars (suc k) h a e =
        let m = and_parts (has (body_need q n) (tree_type o t p)) (bodies_fit o q bs (suc n) p) e in
        bodies_within_at bs q (suc n) p this vars k h a m.1

  -- a quantifier that has a type: its members, and the values of its bodies at each
  pub record AreBodies (over : Tree) (bs : Bodies) (this : Option ℕ) (vars : List ℕ) : Type 0 where
    pub count : length (objects_of (meaning.value over (here this vars))) ≤ reach o over
    pub bodies : (k : ℕ) → All (λ x. IsWithin (body_interval o bs k) (int_of (slice_index_or (values_of bs (here this (vars ++ x ∷ []))) k (Int (pos 0))))) (objects_of (meaning.value over (here this vars)))

  pub bodies_at : (i : ℕ) (q : QuantKind) (over : Tree) (f : Filter) (bs : Bodies) (p : Place) (this : Option ℕ) (vars : List ℕ) (ty : ExprType) → IsThis o p.class this → AreVars o p.locals vars → tree_type o (tree.Quant i q over f bs) p ≡ Some ty → AreBodies over bs this vars
  bodies_at i q over f bs p this vars ty h a e =
      let g = quantifier_typed q (list_class (tree_type o over p)) _ ty e in
      let m = members_listed over p this vars g.class h a g.over_is in
      let fits = and_parts (filter_fits o f (within p (list_class (tree_type o over p)))) _ g.parts_fit in
      let inner : bodies_fit o q bs 0 (inside p g.class) ≡ true = subst (λ l. bodies_fit o q bs 0 (within p l) ≡ true) g.over_is fits.1 in
      record {
        count = m.count;
        bodies = λ k. All-weaker (Contains (extent o g.class)) (λ x. IsWithin (body_interval o bs k) (int_of (slice_index_or (values_of bs (here this (vars ++ x ∷ []))) k (Int (pos 0)))))
            (λ x c. bodies_within_at bs q 0 (inside p g.class) this (vars ++ x ∷ []) k h (vars_more o p.locals vars g.class x a c) inner) (objects_of (meaning.value over (here this vars))) m.all;
      }
