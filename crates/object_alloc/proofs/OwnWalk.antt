-- What the walk meets with a given owner and attribute.
use Rattle.std.proofs.Common.{◌≡◌, ℕ, zero, suc, ◌+◌, ◌-◌, ◌<◌, ◌≤◌, nat_eq, Bool, true, false, ◌&&◌, cond, List, [], ◌∷◌, ◌++◌, Option, None, Some, length, refl, ap, sym, ◌∙◌, subst, arith, length-append, append-nil, eq-eqb, ◌⊎◌, inl, inr}
use Rattle.std.specs.Prelude.{Contains, slice_get}
use Rattle.std.specs.List.{filter}
use Rattle.std.proofs.lemmas.Bool.{ne_eqb, cases_lt}
use Rattle.std.proofs.lemmas.Grind.{flat_map-append}
use Rattle.std.proofs.lemmas.List.Elements.{filter-append}
use Rattle.class_table.specs.declared.table.Resolved.{Resolved}
use Rattle.class_table.specs.declared.table.Resolved.TheVariants.{Span, Truth, Choice, One, Many, Ref, RefSet}
use Rattle.class_table.specs.declared.table.Variable.{Variable}
use Rattle.class_table.specs.Outline.{Outline, attributes}
use Rattle.class_table.specs.Sound.{HasNesting, held_class}
use Rattle.object_alloc.specs.declared.object.Leaf.{Leaf}
use Rattle.object_alloc.specs.declared.object.Object.{Object}
use Rattle.object_alloc.specs.Groups.{same_owner, is_part_of}
use Rattle.object_alloc.specs.Held.{IsBefore}
use Rattle.object_alloc.specs.Walk.{Met, Made, Passed, Visit, Inside, made, object, leaf, object_met, objects_in, elements, attribute, members, within, visit_to}

abbrev pub is_leaf_of : Option ℕ → ℕ → Leaf → Bool
is_leaf_of owner k l = same_owner owner l.owner && nat_eq k l.attribute

abbrev pub is_met_of : Option ℕ → ℕ → Met → Bool
is_met_of owner k (Made x) = is_part_of owner k x
is_met_of owner k (Passed l) = is_leaf_of owner k l

-- what was met as attribute k of the owner
abbrev pub kept : Option ℕ → ℕ → List Met → List Met
kept owner k ms = filter (is_met_of owner k) ms

abbrev pub first_elements : Inside → ℕ → ℕ → ℕ → ℕ → List Met
first_elements w k c zero i = []
first_elements w k c (suc m) i = Made (object w k c i) ∷ first_elements w k c m (i + 1)

-- attribute k of this shape, without what is in its objects
abbrev pub first_met : Inside → ℕ → Resolved → List Met
first_met w k (One c) = Made (object w k c 0) ∷ []
first_met w k (Many c m) = first_elements w k c m 0
first_met w k (Span low high) = Passed (leaf w k (Span low high)) ∷ []
first_met w k Truth = Passed (leaf w k Truth) ∷ []
first_met w k (Choice e) = Passed (leaf w k (Choice e)) ∷ []
first_met w k (Ref c) = Passed (leaf w k (Ref c)) ∷ []
first_met w k (RefSet c m) = Passed (leaf w k (RefSet c m)) ∷ []

-- the attributes from number k on, without what is in their objects
abbrev pub all_first : Inside → ℕ → List Variable → List Met
all_first w k [] = []
all_first w k (v ∷ vs) = first_met w k v.shape ++ all_first w (k + 1) vs

pub same_itself : (w : Option ℕ) → same_owner w w ≡ true
same_itself None = refl
same_itself (Some n) = eq-eqb n n refl

-- an owner from n on isn't one before n
other_owner : (w : Option ℕ) (n p : ℕ) → IsBefore w n → n ≤ p → same_owner (Some p) w ≡ false
other_owner None n p h le = refl
other_owner (Some q) n p h le = ne_eqb p q (λ e. absurd (omega arith))

before_more : (w : Option ℕ) (n m : ℕ) → IsBefore w n → n ≤ m → IsBefore w m
before_more None n m h le = tt
before_more (Some q) n m h le = omega arith

-- the owner isn't one of the objects from number n to before m
abbrev pub IsOutside : ℕ → ℕ → Option ℕ → Type 0
IsOutside n m None = Unit {0}
IsOutside n m (Some p) = (p < n) ⊎ (m ≤ p)

outside_left : (n m l : ℕ) (q : Option ℕ) → m ≤ l → IsOutside n l q → IsOutside n m q
outside_left n m l None le h = tt
outside_left n m l (Some p) le (inl h) = inl h
outside_left n m l (Some p) le (inr h) = inr (omega arith)

outside_right : (n m l : ℕ) (q : Option ℕ) → n ≤ m → IsOutside n l q → IsOutside m l q
outside_right n m l None le h = tt
outside_right n m l (Some p) le (inl h) = inl (omega arith)
outside_right n m l (Some p) le (inr h) = inr h

made_append : (here rest : List Met) → made (here ++ rest) ≡ made here + made rest
made_append here rest = ap length (flat_map-append object_met here rest) ∙ length-append (objects_in here) (objects_in rest)

get_left : (xs ys : List Object) (j : ℕ) → j < length xs → slice_get (xs ++ ys) j ≡ slice_get xs j
get_left [] ys j h = absurd (omega (arith, h))
get_left (x ∷ xs) ys zero h = refl
get_left (x ∷ xs) ys (suc j) h = get_left xs ys j (omega (arith, h))

get_right : (xs ys : List Object) (i : ℕ) → slice_get (xs ++ ys) (length xs + i) ≡ slice_get ys i
get_right [] ys i = let same : 0 + i ≡ i = omega arith in ap (slice_get ys) same
get_right (x ∷ xs) ys i = let same : suc (length xs) + i ≡ suc (length xs + i) = omega arith in ap (slice_get (x ∷ (xs ++ ys))) same ∙ get_right xs ys i

kept_append : (q : Option ℕ) (k : ℕ) (here rest : List Met) → kept q k (here ++ rest) ≡ kept q k here ++ kept q k rest
kept_append q k here rest = filter-append (is_met_of q k) here rest

kept_both : (q : Option ℕ) (k : ℕ) (here rest xs ys : List Met) → kept q k here ≡ xs → kept q k rest ≡ ys → kept q k (here ++ rest) ≡ xs ++ ys
kept_both q k here rest xs ys a b = kept_append q k here rest ∙ ap (λ ms. ms ++ kept q k rest) a ∙ ap (λ ms. xs ++ ms) b

kept_none : (q : Option ℕ) (k : ℕ) (here rest : List Met) → kept q k here ≡ [] → kept q k rest ≡ [] → kept q k (here ++ rest) ≡ []
kept_none q k here rest a b = kept_both q k here rest [] [] a b

module _ (o : Outline) where
  -- a part of the walk with the owner w, whose objects have the numbers from n on: what it meets belongs to w or to one of its
  -- objects, and of each of its objects it meets all attributes
  pub record IsOwn (w : Option ℕ) (n : ℕ) (ms : List Met) : Type 0 where
    pub others : (q : Option ℕ) (k : ℕ) → same_owner q w ≡ false → IsOutside n (n + made ms) q → kept q k ms ≡ []
    pub own : (j k : ℕ) (y : Object) (v : Variable) → slice_get (objects_in ms) j ≡ Some y → slice_get (attributes o.classes y.class) k ≡ Some v → kept (Some (n + j)) k ms ≡ first_met (within (n + j) y) k v.shape

  none_own : (w : Option ℕ) (n : ℕ) → IsOwn w n []
  none_own w n = record { others = λ q k e out. refl; own = λ j k y v g h. cc }

  leaf_own : (n : ℕ) (l : Leaf) → IsOwn l.owner n (Passed l ∷ [])
  leaf_own n l = record { others = λ q k e out. ap (λ b. cond (b && nat_eq k l.attribute) (Passed l ∷ []) []) e; own = λ j k y v g h. cc }

  own_both : (w : Option ℕ) (n : ℕ) (here rest : List Met) → IsBefore w n → IsOwn w n here → IsOwn w (n + made here) rest → IsOwn w n (here ++ rest)
  own_both w n here rest before a b =
      let size = made_append here rest in
      record {
        others = λ q k e out. kept_none q k here rest (a.others q k e (outside_left n (n + made here) (n + made (here ++ rest)) q (omega (arith, size)) out)) (b.others q k e (subst (λ m. IsOutside (n + made here) m q) (omega (arith, size)) (outside_right n (n + made here) (n + made (here ++ rest)) q (omega arith) out)));
        own = λ j k y v g h. by j k y v (ap (λ xs. slice_get xs j) (sym (flat_map-append object_met here rest)) ∙ g) h (cases_lt j (made here));
      }
    where
      by : (j k : ℕ) (y : Object) (v : Variable) → slice_get (objects_in here ++ objects_in rest) j ≡ Some y → slice_get (attributes o.classes y.class) k ≡ Some v → (j < made here) ⊎ (made here ≤ j) → kept (Some (n + j)) k (here ++ rest) ≡ first_met (within (n + j) y) k v.shape
      by j k y v g h (inl lt) =
          kept_both (Some (n + j)) k here rest (first_met (within (n + j) y) k v.shape) []
          (a.own j k y v (sym (get_left (objects_in here) (objects_in rest) j lt) ∙ g) h)
          (b.others (Some (n + j)) k (other_owner w n (n + j) before (omega arith)) (inl (omega arith)))
          ∙ append-nil (first_met (within (n + j) y) k v.shape)
      by j k y v g h (inr le) =
          let i = j - made here in
          let there : made here + i ≡ j = omega arith in
          let at : n + made here + i ≡ n + j = omega arith in
          let got : slice_get (objects_in rest) i ≡ Some y = sym (get_right (objects_in here) (objects_in rest) i) ∙ ap (slice_get (objects_in here ++ objects_in rest)) there ∙ g in
          kept_both (Some (n + j)) k here rest [] (first_met (within (n + j) y) k v.shape)
          (a.others (Some (n + j)) k (other_owner w n (n + j) before (omega arith)) (inr (omega arith)))
          (subst (λ m. kept (Some m) k rest ≡ first_met (within m y) k v.shape) at (b.own i k y v got h))

  -- a visit meets the object itself, and then what is in it
  pub record VisitOwns (f : Visit) (c : ℕ) : Type 0 where
    pub own : (n : ℕ) (x : Object) → x.class ≡ c → IsBefore x.owner n → IsOwn x.owner n (f n x)
    pub itself : (n k : ℕ) (x : Object) → x.class ≡ c → IsBefore x.owner n → kept x.owner k (f n x) ≡ kept x.owner k (Made x ∷ [])

  module _ (f : Visit) (w : Inside) where
    elements_own : (k c m i n : ℕ) → VisitOwns f c → IsBefore w.owner n → IsOwn w.owner n (elements f w k c m i n)
    elements_own k c zero i n l before = none_own w.owner n
    elements_own k c (suc m) i n l before =
        let here = f n (object w k c i) in
        own_both w.owner n here (elements f w k c m (i + 1) (n + made here)) before (l.own n (object w k c i) refl before) (elements_own k c m (i + 1) (n + made here) l (before_more w.owner n (n + made here) before (omega arith)))

    elements_first : (q k c m i n : ℕ) → VisitOwns f c → IsBefore w.owner n → kept w.owner q (elements f w k c m i n) ≡ kept w.owner q (first_elements w k c m i)
    elements_first q k c zero i n l before = refl
    elements_first q k c (suc m) i n l before =
        let x = object w k c i in
        let here = f n x in
        let more = elements_first q k c m (i + 1) (n + made here) l (before_more w.owner n (n + made here) before (omega arith)) in
        kept_both w.owner q here (elements f w k c m (i + 1) (n + made here)) (kept w.owner q (Made x ∷ [])) (kept w.owner q (first_elements w k c m (i + 1))) (l.itself n q x refl before) more
        ∙ sym (kept_append w.owner q (Made x ∷ []) (first_elements w k c m (i + 1)))

    attribute_own : (k : ℕ) (s : Resolved) (n : ℕ) → ((c : ℕ) → held_class s ≡ Some c → VisitOwns f c) → IsBefore w.owner n → IsOwn w.owner n (attribute f w k s n)
    attribute_own k (One c) n l before = (l c refl).own n (object w k c 0) refl before
    attribute_own k (Many c m) n l before = elements_own k c m 0 n (l c refl) before
    attribute_own k (Span low high) n l before = leaf_own n (leaf w k (Span low high))
    attribute_own k Truth n l before = leaf_own n (leaf w k Truth)
    attribute_own k (Choice e) n l before = leaf_own n (leaf w k (Choice e))
    attribute_own k (Ref c) n l before = leaf_own n (leaf w k (Ref c))
    attribute_own k (RefSet c m) n l before = leaf_own n (leaf w k (RefSet c m))

    attribute_first : (q k : ℕ) (s : Resolved) (n : ℕ) → ((c : ℕ) → held_class s ≡ Some c → VisitOwns f c) → IsBefore w.owner n → kept w.owner q (attribute f w k s n) ≡ kept w.owner q (first_met w k s)
    attribute_first q k (One c) n l before = (l c refl).itself n q (object w k c 0) refl before
    attribute_first q k (Many c m) n l before = elements_first q k c m 0 n (l c refl) before
    attribute_first q k (Span low high) n l before = refl
    attribute_first q k Truth n l before = refl
    attribute_first q k (Choice e) n l before = refl
    attribute_first q k (Ref c) n l before = refl
    attribute_first q k (RefSet c m) n l before = refl

    -- the classes of all these variables' objects are visited so
    abbrev pub AllOwn : List Variable → Type 0
    AllOwn vs = (j : ℕ) (v : Variable) (c : ℕ) → slice_get vs j ≡ Some v → held_class v.shape ≡ Some c → VisitOwns f c

    pub members_own : (k : ℕ) (vs : List Variable) (n : ℕ) → AllOwn vs → IsBefore w.owner n → IsOwn w.owner n (members f w k vs n)
    members_own k [] n l before = none_own w.owner n
    members_own k (v ∷ vs) n l before =
        let here = attribute f w k v.shape n in
        own_both w.owner n here (members f w (k + 1) vs (n + made here)) before (attribute_own k v.shape n (λ c h. l 0 v c refl h) before) (members_own (k + 1) vs (n + made here) (λ j u c g h. l (suc j) u c g h) (before_more w.owner n (n + made here) before (omega arith)))

    pub members_first : (q k : ℕ) (vs : List Variable) (n : ℕ) → AllOwn vs → IsBefore w.owner n → kept w.owner q (members f w k vs n) ≡ kept w.owner q (all_first w k vs)
    members_first q k [] n l before = refl
    members_first q k (v ∷ vs) n l before =
        let here = attribute f w k v.shape n in
        let more = members_first q (k + 1) vs (n + made here) (λ j u c g h. l (suc j) u c g h) (before_more w.owner n (n + made here) before (omega arith)) in
        kept_both w.owner q here (members f w (k + 1) vs (n + made here)) (kept w.owner q (first_met w k v.shape)) (kept w.owner q (all_first w (k + 1) vs)) (attribute_first q k v.shape n (λ c h. l 0 v c refl h) before) more
        ∙ sym (kept_append w.owner q (first_met w k v.shape) (all_first w (k + 1) vs))

some_variable : {a b : Variable} → Some a ≡ Some b → a ≡ b
some_variable e = cc

some_object : {a b : Object} → Some a ≡ Some b → a ≡ b
some_object e = cc

pub in_list : (vs : List Variable) (j : ℕ) (v : Variable) → slice_get vs j ≡ Some v → Contains vs v
in_list [] j v g = cc
in_list (u ∷ us) zero v g = (0, omega arith, some_variable g)
in_list (u ∷ us) (suc j) v g = let h = in_list us j v g in (suc h.0, omega (arith, h.1), h.2)

made_cons : (x : Object) (ms : List Met) → made (Made x ∷ ms) ≡ suc (made ms)
made_cons x ms = refl

kept_cons : (q : Option ℕ) (k : ℕ) (x : Object) (ms : List Met) → same_owner q x.owner ≡ false → kept q k (Made x ∷ ms) ≡ kept q k ms
kept_cons q k x ms e = ap (λ b. cond (b && nat_eq k x.attribute) (Made x ∷ kept q k ms) (kept q k ms)) e

-- Attribute k among all

module _ (w : Inside) (q : ℕ) where
  elements_hit : (c m i : ℕ) → kept w.owner q (first_elements w q c m i) ≡ first_elements w q c m i
  elements_hit c zero i = refl
  elements_hit c (suc m) i = rw (same_itself w.owner, eq-eqb q q refl) (ap (λ ms. Made (object w q c i) ∷ ms) (elements_hit c m (i + 1)))

  first_hit : (s : Resolved) → kept w.owner q (first_met w q s) ≡ first_met w q s
  first_hit (One c) = rw (same_itself w.owner, eq-eqb q q refl) refl
  first_hit (Many c m) = elements_hit c m 0
  first_hit (Span low high) = rw (same_itself w.owner, eq-eqb q q refl) refl
  first_hit Truth = rw (same_itself w.owner, eq-eqb q q refl) refl
  first_hit (Choice e) = rw (same_itself w.owner, eq-eqb q q refl) refl
  first_hit (Ref c) = rw (same_itself w.owner, eq-eqb q q refl) refl
  first_hit (RefSet c m) = rw (same_itself w.owner, eq-eqb q q refl) refl

  elements_miss : (k c m i : ℕ) → nat_eq q k ≡ false → kept w.owner q (first_elements w k c m i) ≡ []
  elements_miss k c zero i e = refl
  elements_miss k c (suc m) i e = rw (same_itself w.owner, e) (elements_miss k c m (i + 1) e)

  first_miss : (k : ℕ) (s : Resolved) → nat_eq q k ≡ false → kept w.owner q (first_met w k s) ≡ []
  first_miss k (One c) e = rw (same_itself w.owner, e) refl
  first_miss k (Many c m) e = elements_miss k c m 0 e
  first_miss k (Span low high) e = rw (same_itself w.owner, e) refl
  first_miss k Truth e = rw (same_itself w.owner, e) refl
  first_miss k (Choice x) e = rw (same_itself w.owner, e) refl
  first_miss k (Ref c) e = rw (same_itself w.owner, e) refl
  first_miss k (RefSet c m) e = rw (same_itself w.owner, e) refl

  all_miss : (k : ℕ) (vs : List Variable) → q < k → kept w.owner q (all_first w k vs) ≡ []
  all_miss k [] lt = refl
  all_miss k (v ∷ vs) lt = kept_none w.owner q (first_met w k v.shape) (all_first w (k + 1) vs) (first_miss k v.shape (ne_eqb q k (λ e. absurd (omega arith)))) (all_miss (k + 1) vs (omega arith))

pub all_hit : (w : Inside) (k : ℕ) (vs : List Variable) (j q : ℕ) (v : Variable) → k + j ≡ q → slice_get vs j ≡ Some v → kept w.owner q (all_first w k vs) ≡ first_met w q v.shape
all_hit w k [] j q v at g = cc
all_hit w k (u ∷ us) zero q v at g =
    let same : k ≡ q = omega arith in
    subst (λ m. kept w.owner q (first_met w m u.shape ++ all_first w (m + 1) us) ≡ first_met w q v.shape) (sym same)
    (kept_both w.owner q (first_met w q u.shape) (all_first w (q + 1) us) (first_met w q u.shape) [] (first_hit w q u.shape) (all_miss w q (q + 1) us (omega arith))
    ∙ append-nil (first_met w q u.shape) ∙ ap (λ (x : Variable). first_met w q x.shape) (some_variable g))
all_hit w k (u ∷ us) (suc j) q v at g =
    kept_both w.owner q (first_met w k u.shape) (all_first w (k + 1) us) [] (first_met w q v.shape) (first_miss w q k u.shape (ne_eqb q k (λ e. absurd (omega arith)))) (all_hit w (k + 1) us j q v (omega arith) g)

-- Objects and what is in them

module _ (o : Outline) where
  -- an object and then its attributes
  visit_own : (f : Visit) (n : ℕ) (x : Object) → AllOwn o f (within n x) (attributes o.classes x.class) → IsBefore x.owner n → IsOwn o x.owner n (Made x ∷ members f (within n x) 0 (attributes o.classes x.class) (n + 1))
  visit_own f n x all before =
      let w = within n x in
      let vs = attributes o.classes x.class in
      let M = members f w 0 vs (n + 1) in
      let rest = members_own o f w 0 vs (n + 1) all (omega arith) in
      record {
        others = λ q k e out. kept_cons q k x M e ∙ none q k rest.others e out;
        own = λ j k y v g h. by j k y v g h rest;
      }
    where
      none : (q : Option ℕ) (k : ℕ) → ((q : Option ℕ) (k : ℕ) → same_owner q (Some n) ≡ false → IsOutside (n + 1) (n + 1 + made (members f (within n x) 0 (attributes o.classes x.class) (n + 1))) q → kept q k (members f (within n x) 0 (attributes o.classes x.class) (n + 1)) ≡ []) → same_owner q x.owner ≡ false → IsOutside n (n + suc (made (members f (within n x) 0 (attributes o.classes x.class) (n + 1)))) q → kept q k (members f (within n x) 0 (attributes o.classes x.class) (n + 1)) ≡ []
      none None k each e out = each None k refl tt
      none (Some p) k each e (inl lt) = each (Some p) k (ne_eqb p n (λ same. absurd (omega arith))) (inl (omega arith))
      none (Some p) k each e (inr le) = each (Some p) k (ne_eqb p n (λ same. absurd (omega arith))) (inr (omega arith))

      by : (j k : ℕ) (y : Object) (v : Variable) → slice_get (x ∷ objects_in (members f (within n x) 0 (attributes o.classes x.class) (n + 1))) j ≡ Some y → slice_get (attributes o.classes y.class) k ≡ Some v → IsOwn o (Some n) (n + 1) (members f (within n x) 0 (attributes o.classes x.class) (n + 1)) → kept (Some (n + j)) k (Made x ∷ members f (within n x) 0 (attributes o.classes x.class) (n + 1)) ≡ first_met (within (n + j) y) k v.shape
      by zero k y v g h rest =
          let w = within n x in
          let vs = attributes o.classes x.class in
          let same : x ≡ y = some_object g in
          let h' : slice_get vs k ≡ Some v = subst (λ (z : Object). slice_get (attributes o.classes z.class) k ≡ Some v) (sym same) h in
          let at : n ≡ n + 0 = omega arith in
          let here : kept (Some n) k (Made x ∷ members f w 0 vs (n + 1)) ≡ first_met w k v.shape =
          kept_cons (Some n) k x (members f w 0 vs (n + 1)) (other_owner x.owner n n before (omega arith))
          ∙ members_first o f w k 0 vs (n + 1) all (omega arith)
          ∙ all_hit w 0 vs k k v (omega arith) h' in
          subst (λ (z : Object). kept (Some (n + 0)) k (Made x ∷ members f w 0 vs (n + 1)) ≡ first_met (within (n + 0) z) k v.shape) same
          (subst (λ m. kept (Some m) k (Made x ∷ members f w 0 vs (n + 1)) ≡ first_met (within m x) k v.shape) at here)
      by (suc j) k y v g h rest =
          let w = within n x in
          let vs = attributes o.classes x.class in
          let at : n + 1 + j ≡ n + suc j = omega arith in
          kept_cons (Some (n + suc j)) k x (members f w 0 vs (n + 1)) (other_owner x.owner n (n + suc j) before (omega arith))
          ∙ subst (λ m. kept (Some m) k (members f w 0 vs (n + 1)) ≡ first_met (within m y) k v.shape) at (rest.own j k y v g h)

  visit_itself : (f : Visit) (n k : ℕ) (x : Object) → AllOwn o f (within n x) (attributes o.classes x.class) → IsBefore x.owner n → kept x.owner k (Made x ∷ members f (within n x) 0 (attributes o.classes x.class) (n + 1)) ≡ kept x.owner k (Made x ∷ [])
  visit_itself f n k x all before =
      let w = within n x in
      let vs = attributes o.classes x.class in
      let M = members f w 0 vs (n + 1) in
      let rest = members_own o f w 0 vs (n + 1) all (omega arith) in
      kept_both x.owner k (Made x ∷ []) M (kept x.owner k (Made x ∷ [])) [] refl (none x.owner before rest.others)
      ∙ append-nil (kept x.owner k (Made x ∷ []))
    where
      none : (p : Option ℕ) → IsBefore p n → ((q : Option ℕ) (k : ℕ) → same_owner q (Some n) ≡ false → IsOutside (n + 1) (n + 1 + made (members f (within n x) 0 (attributes o.classes x.class) (n + 1))) q → kept q k (members f (within n x) 0 (attributes o.classes x.class) (n + 1)) ≡ []) → kept p k (members f (within n x) 0 (attributes o.classes x.class) (n + 1)) ≡ []
      none None h each = each None k refl tt
      none (Some p) h each = each (Some p) k (ne_eqb p n (λ same. absurd (omega arith))) (inl (omega arith))

  module _ (r : HasNesting o.classes) where
    pub visit_owns : (l c : ℕ) → r.rank c < l → VisitOwns o (visit_to o l) c
    visit_owns zero c h = absurd (omega (arith, h))
    visit_owns (suc l) c h =
        record {
          own = λ n x e. visit_own (visit_to o l) n x (λ j v d g held. let a = r.falls x.class d v (in_list (attributes o.classes x.class) j v g) held in visit_owns l d (omega (arith, a, ap r.rank e, h)));
          itself = λ n k x e. visit_itself (visit_to o l) n k x (λ j v d g held. let a = r.falls x.class d v (in_list (attributes o.classes x.class) j v g) held in visit_owns l d (omega (arith, a, ap r.rank e, h)));
        }
