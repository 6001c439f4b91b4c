-- The numbers of an expression that may be evaluated stay within the limit on width, partial sums and loads included; and what stands
-- in such an expression may be evaluated.
use Rattle.std.proofs.Common.{◌≡◌, ℕ, zero, suc, ◌+◌, ◌<◌, ◌≤◌, true, ◌&&◌, List, [], ◌∷◌, Option, None, Some, length, map, take, drop, ℤ, pos, neg_ℤ, ◌≤ℤ◌, refl, ap, sym, ◌∙◌, subst, arith, ◌+ℤ◌, length-take, length-drop}
use Rattle.std.specs.Option.{option_map}
use Rattle.std.specs.Prelude.{All, Contains, slice_get, slice_index_or, int_le}
use Rattle.std.proofs.lemmas.Bool.{and_parts}
use Rattle.std.proofs.lemmas.Int.{ints}
use Rattle.std.proofs.lemmas.List.{length-map}
use Rattle.std.proofs.lemmas.List.Elements.{All-weaker, All-map, All-take, All-drop, All-contains, All-contains_itself}
use Rattle.model_limits.specs.Limits.{most_width}
use Rattle.class_table.specs.declared.table.Resolved.{Resolved}
use Rattle.class_table.specs.declared.table.Variable.{Variable}
use Rattle.class_table.specs.Outline.{Outline, attributes}
use Rattle.class_table.specs.Sound.{IsSound}
use Rattle.conf_syntax.specs.declared.tree.Op.{Op}
use Rattle.conf_syntax.specs.declared.tree.QuantKind.{QuantKind}
use Rattle.conf_syntax.specs.declared.tree.QuantKind.TheVariants as kind
use Rattle.conf_types.specs.declared.types.ExprType.{ExprType}
use Rattle.conf_types.specs.declared.types.ExprType.TheVariants as type
use Rattle.conf_types.specs.declared.types.Need.TheVariants as need
use Rattle.conf_types.specs.Readings.{has, list_class}
use Rattle.conf_types.specs.Trees.{Tree, Filter, NoFilter, Where, Bodies, NoBody, Body}
use Rattle.conf_types.specs.Trees as tree
use Rattle.conf_types.specs.Types.{body_need}
use Rattle.conf_types.specs.Typing.{Place, inside, within, local_class, attribute_type, tree_type, filter_fits, bodies_fit}
use Rattle.conf_types.specs.Operators.{class_of, left_by, right_by}
use Rattle.object_alloc.specs.Cells.{extent}
use Rattle.object_alloc.specs.Configurations.{IsConfiguration}
use Rattle.object_alloc.specs.Variables.{variables_of}
use Rattle.object_alloc.specs.Own.{IsOwner}
use Rattle.conf_eval.specs.declared.value.Value.{Value}
use Rattle.conf_eval.specs.declared.value.Value.TheVariants.{Int}
use Rattle.conf_eval.specs.Fitting.{IsThis, HasShape, Fits, IsEvaluable, IsEvaluableFilter, AreEvaluable, IsValueOf, IsReached, IsWithin, IsNarrow, term, packed}
use Rattle.conf_eval.specs.Meaning.{Setting, bind, value, values_of, keeps, int_of, object_of, objects_of, total, load, Item}
use Rattle.conf_limits.specs.declared.interval.Interval.{Interval}
use Rattle.conf_limits.specs.Measures.{interval, body_interval, many, is_near, is_narrow, narrow, filter_narrow, bodies_narrow, reach, shape_interval}
use Rattle.conf_eval.proofs.LawsClasses.{object_low, has_attribute}
use Rattle.conf_eval.proofs.LawsValues.{if_typed, IsVariable, variable_typed, is_object, local_low, dotted, quantifier_typed, vars_more, AreListed, value_right_at}
use Rattle.conf_eval.proofs.LawsIntervals.{typed_of_has, members_listed, value_within_at, bodies_at, sum_within, load_within}

at_most : (a b : ℤ) → int_le a b ≡ true → a ≤ℤ b
at_most a b h = grind (arith, ints)

narrow_is : (i : Interval) (v : ℤ) → is_narrow i ≡ true → IsWithin i v → IsNarrow v
narrow_is i v h w =
    let p = and_parts (is_near i.low) (is_near i.high) h in
    let l = at_most (neg_ℤ (pos most_width)) i.low (and_parts (int_le (neg_ℤ (pos most_width)) i.low) (int_le i.low (pos most_width)) p.0).0 in
    let g = at_most i.high (pos most_width) (and_parts (int_le (neg_ℤ (pos most_width)) i.high) (int_le i.high (pos most_width)) p.1).1 in
    let x = w.low in
    let y = w.high in
    record { low = omega (arith, ints, l, x); high = omega (arith, ints, g, y) }

-- the interval of a narrow expression is narrow
pub narrow_interval : (o : Outline) (t : Tree) → narrow o t ≡ true → is_narrow (interval o t) ≡ true
narrow_interval o (tree.Number i n) h = h
narrow_interval o (tree.Own i k s) h = h
narrow_interval o (tree.Root i k s) h = h
narrow_interval o (tree.Dot i t k s) h = (and_parts (narrow o t) (is_narrow (shape_interval s)) h).1
narrow_interval o (tree.Paren i t) h = narrow_interval o t h
narrow_interval o (tree.Minus i t) h = (and_parts (narrow o t) _ h).1
narrow_interval o (tree.Pair i q l r) h = (and_parts (narrow o l && narrow o r) _ h).1
narrow_interval o (tree.Quant i q over f bs) h = (and_parts (narrow o over && (filter_narrow o f && bodies_narrow o bs)) _ h).1
narrow_interval o (tree.Not i t) h = refl
narrow_interval o (tree.Truth i b) h = refl
narrow_interval o (tree.This i) h = refl
narrow_interval o (tree.Local i k) h = refl
narrow_interval o (tree.Value i d k) h = refl
narrow_interval o (tree.Class i c) h = refl
narrow_interval o (tree.Missing i) h = refl

module _ (o : Outline) (vs : List ℤ) where
  -- a setting that fits is made of the outline and the values
  by_setting : (P : Setting → Type 0) (p : Place) (s : Setting) → Fits o vs p s → P (record { outline = o; values = vs; this = s.this; vars = s.vars }) → P s
  by_setting P p s f h =
      subst (λ x. P (record { outline = x; values = s.values; this = s.this; vars = s.vars })) (sym f.outline)
      (subst (λ x. P (record { outline = o; values = x; this = s.this; vars = s.vars })) (sym f.values) h)

  pub inner_fits : (p : Place) (s : Setting) (c x : ℕ) → Fits o vs p s → Contains (extent o c) x → Fits o vs (inside p c) (bind s x)
  inner_fits p s c x f h = record { outline = f.outline; values = f.values; this = f.this; vars = vars_more o p.locals s.vars c x f.vars h }

  module _ (sound : IsSound o) (conf : IsConfiguration o vs) where
    -- the value is of the expression's type
    pub value_typed : (t : Tree) (p : Place) (s : Setting) (ty : ExprType) → Fits o vs p s → tree_type o t p ≡ Some ty → IsValueOf o ty (value t s)
    value_typed t p s ty f e = by_setting (λ x. IsValueOf o ty (value t x)) p s f (value_right_at o sound vs conf t p s.this s.vars ty f.this f.vars e).typed

    pub value_reached : (t : Tree) (p : Place) (s : Setting) (ty : ExprType) → Fits o vs p s → tree_type o t p ≡ Some ty → IsReached (reach o t) ty (value t s)
    value_reached t p s ty f e = by_setting (λ x. IsReached (reach o t) ty (value t x)) p s f (value_right_at o sound vs conf t p s.this s.vars ty f.this f.vars e).reached

    pub value_within : (t : Tree) (p : Place) (s : Setting) (ty : ExprType) → Fits o vs p s → tree_type o t p ≡ Some ty → IsWithin (interval o t) (int_of (value t s))
    value_within t p s ty f e = by_setting (λ x. IsWithin (interval o t) (int_of (value t x))) p s f (value_within_at o sound vs conf t p s.this s.vars ty f.this f.vars e)

    -- the members of a list are of its class's extent, and no more than are reached
    pub members_are : (over : Tree) (p : Place) (s : Setting) (c : ℕ) → Fits o vs p s → list_class (tree_type o over p) ≡ Some c → AreListed o c (reach o over) (value over s)
    members_are over p s c f e = by_setting (λ x. AreListed o c (reach o over) (value over x)) p s f (members_listed o sound vs conf over p s.this s.vars c f.this f.vars e)

    -- the number is narrow
    pub value_narrow : (t : Tree) (s : Setting) → IsEvaluable o vs t s → IsNarrow (int_of (value t s))
    value_narrow t s e = narrow_is (interval o t) (int_of (value t s)) (narrow_interval o t e.numbers) (value_within t e.place s e.type e.setting e.typed)

    -- What stands in an expression that may be evaluated

    pub in_paren : (i : ℕ) (t : Tree) (s : Setting) → IsEvaluable o vs (tree.Paren i t) s → IsEvaluable o vs t s
    in_paren i t s e = record { place = e.place; type = e.type; setting = e.setting; typed = e.typed; numbers = e.numbers }

    pub in_minus : (i : ℕ) (t : Tree) (s : Setting) → IsEvaluable o vs (tree.Minus i t) s → IsEvaluable o vs t s
    in_minus i t s e =
        let f = if_typed (has need.Int (tree_type o t e.place)) type.Int e.type e.typed in
        let g = typed_of_has need.Int (tree_type o t e.place) f.test in
        record { place = e.place; type = g.type_is; setting = e.setting; typed = g.there; numbers = (and_parts (narrow o t) _ e.numbers).0 }

    pub in_not : (i : ℕ) (t : Tree) (s : Setting) → IsEvaluable o vs (tree.Not i t) s → IsEvaluable o vs t s
    in_not i t s e =
        let f = if_typed (has need.Truth (tree_type o t e.place)) type.Truth e.type e.typed in
        let g = typed_of_has need.Truth (tree_type o t e.place) f.test in
        record { place = e.place; type = g.type_is; setting = e.setting; typed = g.there; numbers = e.numbers }

    pub in_left : (i : ℕ) (q : Op) (l r : Tree) (s : Setting) → IsEvaluable o vs (tree.Pair i q l r) s → IsEvaluable o vs l s
    in_left i q l r s e =
        let f = if_typed _ _ e.type e.typed in
        let m = and_parts (has (left_by (class_of q)) (tree_type o l e.place)) _ f.test in
        let g = typed_of_has (left_by (class_of q)) (tree_type o l e.place) m.0 in
        let n = and_parts (narrow o l && narrow o r) _ e.numbers in
        record { place = e.place; type = g.type_is; setting = e.setting; typed = g.there; numbers = (and_parts (narrow o l) (narrow o r) n.0).0 }

    pub in_right : (i : ℕ) (q : Op) (l r : Tree) (s : Setting) → IsEvaluable o vs (tree.Pair i q l r) s → IsEvaluable o vs r s
    in_right i q l r s e =
        let f = if_typed _ _ e.type e.typed in
        let m = and_parts (has (left_by (class_of q)) (tree_type o l e.place)) _ f.test in
        let k = and_parts (has (right_by (class_of q)) (tree_type o r e.place)) _ m.1 in
        let g = typed_of_has (right_by (class_of q)) (tree_type o r e.place) k.0 in
        let n = and_parts (narrow o l && narrow o r) _ e.numbers in
        record { place = e.place; type = g.type_is; setting = e.setting; typed = g.there; numbers = (and_parts (narrow o l) (narrow o r) n.0).1 }

    pub in_dot : (i : ℕ) (t : Tree) (k : ℕ) (sh : Resolved) (s : Setting) → IsEvaluable o vs (tree.Dot i t k sh) s → IsEvaluable o vs t s
    in_dot i t k sh s e =
        let d = dotted o (tree_type o t e.place) k sh e.type e.typed in
        record { place = e.place; type = type.Object d.class; setting = e.setting; typed = d.is_object; numbers = (and_parts (narrow o t) _ e.numbers).0 }

    pub in_filter : (t : Tree) (s : Setting) → IsEvaluableFilter o vs (Where t) s → IsEvaluable o vs t s
    in_filter t s e =
        let g = typed_of_has need.Truth (tree_type o t e.place) e.typed in
        record { place = e.place; type = g.type_is; setting = e.setting; typed = g.there; numbers = e.numbers }

    pub first_body : (q : QuantKind) (n : ℕ) (t : Tree) (bs : Bodies) (s : Setting) → AreEvaluable o vs q n (Body t bs) s → IsEvaluable o vs t s
    first_body q n t bs s e =
        let m = and_parts (has (body_need q n) (tree_type o t e.place)) _ e.typed in
        let g = typed_of_has (body_need q n) (tree_type o t e.place) m.0 in
        record { place = e.place; type = g.type_is; setting = e.setting; typed = g.there; numbers = (and_parts (narrow o t) (bodies_narrow o bs) e.numbers).0 }

    pub later_bodies : (q : QuantKind) (n : ℕ) (t : Tree) (bs : Bodies) (s : Setting) → AreEvaluable o vs q n (Body t bs) s → AreEvaluable o vs q (suc n) bs s
    later_bodies q n t bs s e = record { place = e.place; setting = e.setting; typed = (and_parts (has (body_need q n) (tree_type o t e.place)) _ e.typed).1; numbers = (and_parts (narrow o t) (bodies_narrow o bs) e.numbers).1 }

    -- Names in scope

    pub local_there : (i k : ℕ) (s : Setting) → IsEvaluable o vs (tree.Local i k) s → k < length s.vars
    local_there i k s e = by (local_class e.place.locals k) refl e.typed
      where
        by : (c : Option ℕ) → local_class e.place.locals k ≡ c → option_map type.Object c ≡ Some e.type → k < length s.vars
        by None f g = cc
        by (Some c) f g = local_low o e.place.locals s.vars k c e.setting.vars f

    shape_of : (owner : Option ℕ) (us : List Variable) (k : ℕ) (sh : Resolved) (ty : ExprType) → IsVariable us k sh ty → ((v : Variable) → slice_get us k ≡ Some v → slice_get (variables_of o owner) k ≡ Some v) → IsOwner o owner → HasShape o owner k sh
    shape_of owner us k sh ty v more w = record { variable = v.variable; there = w; is = more v.variable v.there; shape = sym v.shape_same }

    pub root_shape : (i k : ℕ) (sh : Resolved) (s : Setting) → IsEvaluable o vs (tree.Root i k sh) s → HasShape o None k sh
    root_shape i k sh s e = shape_of None o.roots k sh e.type (variable_typed o.roots k sh e.type e.typed) (λ v g. g) tt

    pub own_shape : (i k : ℕ) (sh : Resolved) (s : Setting) → IsEvaluable o vs (tree.Own i k sh) s → HasShape o s.this k sh
    own_shape i k sh s e = by e.place.class s.this e.setting.this e.typed
      where
        by : (class this : Option ℕ) → IsThis o class this → attribute_type o (option_map type.Object class) k sh ≡ Some e.type → HasShape o this k sh
        by None this h g = cc
        by (Some c) None h g = absurd h
        by (Some c) (Some x) h g = shape_of (Some x) (attributes o.classes c) k sh e.type (variable_typed (attributes o.classes c) k sh e.type g) (λ v f. has_attribute o sound c x k v h f) (object_low o c x h)

    pub dot_shape : (i : ℕ) (t : Tree) (k : ℕ) (sh : Resolved) (s : Setting) → IsEvaluable o vs (tree.Dot i t k sh) s → HasShape o (Some (object_of (value t s))) k sh
    dot_shape i t k sh s e =
        let d = dotted o (tree_type o t e.place) k sh e.type e.typed in
        let x = is_object o d.class (value t s) (value_typed t e.place s (type.Object d.class) e.setting d.is_object) in
        shape_of (Some (object_of (value t s))) (attributes o.classes d.class) k sh e.type d.variable (λ v f. has_attribute o sound d.class (object_of (value t s)) k v x f) (object_low o d.class (object_of (value t s)) x)

    module _ (i : ℕ) (q : QuantKind) (over : Tree) (f : Filter) (bs : Bodies) (s : Setting) (e : IsEvaluable o vs (tree.Quant i q over f bs) s) where
      numbers : (narrow o over && (filter_narrow o f && bodies_narrow o bs)) ≡ true
      numbers = (and_parts (narrow o over && (filter_narrow o f && bodies_narrow o bs)) _ e.numbers).0

      inner_numbers : (filter_narrow o f && bodies_narrow o bs) ≡ true
      inner_numbers = (and_parts (narrow o over) (filter_narrow o f && bodies_narrow o bs) numbers).1

      whole : is_narrow (interval o (tree.Quant i q over f bs)) ≡ true
      whole = narrow_interval o (tree.Quant i q over f bs) e.numbers

      over_typed : (t : Option ExprType) (c : ℕ) → list_class t ≡ Some c → (ty : ExprType) × (t ≡ Some ty)
      over_typed None c h = cc
      over_typed (Some ty) c h = (ty, refl)

      pub in_over : IsEvaluable o vs over s
      in_over =
          let g = quantifier_typed q (list_class (tree_type o over e.place)) _ e.type e.typed in
          let t = over_typed (tree_type o over e.place) g.class g.over_is in
          record { place = e.place; type = t.0; setting = e.setting; typed = t.1; numbers = (and_parts (narrow o over) _ numbers).0 }

      -- for each member the filter and the bodies may be evaluated
      pub record AreInner (x : ℕ) : Type 0 where
        pub filter : IsEvaluableFilter o vs f (bind s x)
        pub bodies : AreEvaluable o vs q 0 bs (bind s x)

      pub inner : All AreInner (objects_of (value over s))
      inner =
          let g = quantifier_typed q (list_class (tree_type o over e.place)) _ e.type e.typed in
          let m = members_are over e.place s g.class e.setting g.over_is in
          let fits = and_parts (filter_fits o f (within e.place (list_class (tree_type o over e.place)))) _ g.parts_fit in
          let filter : filter_fits o f (inside e.place g.class) ≡ true = subst (λ l. filter_fits o f (within e.place l) ≡ true) g.over_is fits.0 in
          let bodies : bodies_fit o q bs 0 (inside e.place g.class) ≡ true = subst (λ l. bodies_fit o q bs 0 (within e.place l) ≡ true) g.over_is fits.1 in
          let n = and_parts (filter_narrow o f) (bodies_narrow o bs) inner_numbers in
          All-weaker (Contains (extent o g.class)) AreInner (λ x h. record {
            filter = record { place = inside e.place g.class; setting = inner_fits e.place s g.class x e.setting h; typed = filter; numbers = n.0 };
            bodies = record { place = inside e.place g.class; setting = inner_fits e.place s g.class x e.setting h; typed = bodies; numbers = n.1 };
          }) (objects_of (value over s)) m.all

      pub count_reached : length (objects_of (value over s)) ≤ reach o over
      count_reached =
          let g = quantifier_typed q (list_class (tree_type o over e.place)) _ e.type e.typed in
          (members_are over e.place s g.class e.setting g.over_is).count

      body_within : (k : ℕ) → All (λ x. IsWithin (body_interval o bs k) (int_of (slice_index_or (values_of bs (bind s x)) k (Int (pos 0))))) (objects_of (value over s))
      body_within k = by_setting (λ y. All (λ x. IsWithin (body_interval o bs k) (int_of (slice_index_or (values_of bs (bind y x)) k (Int (pos 0))))) (objects_of (value over y))) e.place s e.setting
          ((bodies_at o sound vs conf i q over f bs e.place s.this s.vars e.type e.setting.this e.setting.vars e.typed).bodies k)

    -- Sums and loads, partial ones included

    -- the sum over any of the members
    pub sum_narrow : (i : ℕ) (over : Tree) (f : Filter) (bs : Bodies) (s : Setting) → IsEvaluable o vs (tree.Quant i kind.Sum over f bs) s → (xs : List ℕ) → length xs ≤ length (objects_of (value over s)) → All (Contains (objects_of (value over s))) xs → IsNarrow (total (map (term f bs s) xs))
    sum_narrow i over f bs s e xs le h =
        let members = objects_of (value over s) in
        let P = λ (x : ℕ). IsWithin (body_interval o bs 0) (int_of (slice_index_or (values_of bs (bind s x)) 0 (Int (pos 0)))) in
        let each : All P xs = All-weaker (Contains members) P (λ x c. All-contains P members x (body_within i kind.Sum over f bs s e 0) c) xs h in
        let most = count_reached i kind.Sum over f bs s e in
        narrow_is (many (reach o over) (body_interval o bs 0)) (total (map (term f bs s) xs)) (whole i kind.Sum over f bs s e)
        (sum_within (body_interval o bs 0) (reach o over) xs (λ x. keeps f (bind s x)) (λ x. values_of bs (bind s x)) (omega (arith, le, most)) each)

    -- the sum over the first n members
    pub sum_front_narrow : (i : ℕ) (over : Tree) (f : Filter) (bs : Bodies) (s : Setting) → IsEvaluable o vs (tree.Quant i kind.Sum over f bs) s → (n : ℕ) → IsNarrow (total (map (term f bs s) (take n (objects_of (value over s)))))
    sum_front_narrow i over f bs s e n =
        let members = objects_of (value over s) in
        sum_narrow i over f bs s e (take n members) (omega (arith, length-take n members)) (All-take (Contains members) n members (All-contains_itself members))

    -- the sum over all members but the first n
    pub sum_back_narrow : (i : ℕ) (over : Tree) (f : Filter) (bs : Bodies) (s : Setting) → IsEvaluable o vs (tree.Quant i kind.Sum over f bs) s → (n : ℕ) → IsNarrow (total (map (term f bs s) (drop n (objects_of (value over s)))))
    sum_back_narrow i over f bs s e n =
        let members = objects_of (value over s) in
        sum_narrow i over f bs s e (drop n members) (omega (arith, length-drop n members)) (All-drop (Contains members) n members (All-contains_itself members))

    -- the load of a bin by any of the items
    load_narrow : (i : ℕ) (over : Tree) (f : Filter) (bs : Bodies) (s : Setting) → IsEvaluable o vs (tree.Quant i kind.Pack over f bs) s → (bin : Value) (xs : List Item) → length xs ≤ length (objects_of (value over s)) → All (λ (x : Item). IsWithin (body_interval o bs 1) x.size) xs → IsNarrow (load bin xs)
    load_narrow i over f bs s e bin xs le h =
        let most = count_reached i kind.Pack over f bs s e in
        narrow_is (many (reach o over) (body_interval o bs 1)) (load bin xs) (whole i kind.Pack over f bs s e)
        (load_within (body_interval o bs 1) (reach o over) bin xs (omega (arith, le, most)) h)

    sizes_within : (i : ℕ) (over : Tree) (f : Filter) (bs : Bodies) (s : Setting) → IsEvaluable o vs (tree.Quant i kind.Pack over f bs) s → All (λ (x : Item). IsWithin (body_interval o bs 1) x.size) (map (packed bs s) (objects_of (value over s)))
    sizes_within i over f bs s e = All-map (λ (x : Item). IsWithin (body_interval o bs 1) x.size) (packed bs s) (objects_of (value over s)) (body_within i kind.Pack over f bs s e 1)

    -- the load of a bin by the first n items
    pub load_front_narrow : (i : ℕ) (over : Tree) (f : Filter) (bs : Bodies) (s : Setting) → IsEvaluable o vs (tree.Quant i kind.Pack over f bs) s → (bin : Value) (n : ℕ) → IsNarrow (load bin (take n (map (packed bs s) (objects_of (value over s)))))
    load_front_narrow i over f bs s e bin n =
        let items = map (packed bs s) (objects_of (value over s)) in
        load_narrow i over f bs s e bin (take n items) (omega (arith, length-take n items, length-map (objects_of (value over s)) (packed bs s)))
        (All-take (λ (x : Item). IsWithin (body_interval o bs 1) x.size) n items (sizes_within i over f bs s e))

    -- the load of a bin by all items but the first n
    pub load_back_narrow : (i : ℕ) (over : Tree) (f : Filter) (bs : Bodies) (s : Setting) → IsEvaluable o vs (tree.Quant i kind.Pack over f bs) s → (bin : Value) (n : ℕ) → IsNarrow (load bin (drop n (map (packed bs s) (objects_of (value over s)))))
    load_back_narrow i over f bs s e bin n =
        let items = map (packed bs s) (objects_of (value over s)) in
        load_narrow i over f bs s e bin (drop n items) (omega (arith, length-drop n items, length-map (objects_of (value over s)) (packed bs s)))
        (All-drop (λ (x : Item). IsWithin (body_interval o bs 1) x.size) n items (sizes_within i over f bs s e))

-- Sums, one member more

pub total_front : {X : Type 0} (f : X → ℤ) (xs : List X) (k : ℕ) (d : X) → k < length xs → total (map f (take (k + 1) xs)) ≡ total (map f (take k xs)) +ℤ f (slice_index_or xs k d)
total_front f [] k d h = absurd (omega (arith, h))
total_front f (x ∷ xs) zero d h = omega (arith, ints)
total_front f (x ∷ xs) (suc k) d h =
    let r = total_front f xs k d (omega (arith, h)) in
    let same : suc k + 1 ≡ suc (k + 1) = omega arith in
    let is = ap (λ n. total (map f (take n (x ∷ xs)))) same in
    is ∙ omega (arith, ints, r)

pub total_back : {X : Type 0} (f : X → ℤ) (xs : List X) (k : ℕ) (d : X) → k < length xs → total (map f (drop k xs)) ≡ f (slice_index_or xs k d) +ℤ total (map f (drop (k + 1) xs))
total_back f [] k d h = absurd (omega (arith, h))
total_back f (x ∷ xs) zero d h = refl
total_back f (x ∷ xs) (suc k) d h =
    let same : suc (k + 1) ≡ suc k + 1 = omega arith in
    total_back f xs k d (omega (arith, h)) ∙ ap (λ n. f (slice_index_or xs k d) +ℤ total (map f (drop n (x ∷ xs)))) same
