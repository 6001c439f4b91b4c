-- Each leaf of a model is an attribute of an object, or a variable of the top level, and has its shape.
use Rattle.std.proofs.Common.{◌≡◌, ℕ, zero, suc, ◌+◌, ◌<◌, ◌≤◌, List, [], ◌∷◌, ◌++◌, Option, None, Some, length, refl, ap, sym, ◌∙◌, subst, arith, length-append, append_assoc}
use Rattle.std.specs.Prelude.{slice_get, slice_index_or, IfSome, Contains}
use Rattle.std.specs.Option.{option_map}
use Rattle.std.proofs.lemmas.Grind.{flat_map-append}
use Rattle.class_table.specs.declared.table.Resolved.{Resolved}
use Rattle.class_table.specs.declared.table.Resolved.TheVariants.{Span, Truth, Choice, One, Many, Ref, RefSet}
use Rattle.class_table.specs.declared.table.Variable.{Variable}
use Rattle.class_table.specs.Outline.{Outline, attributes}
use Rattle.object_alloc.specs.declared.object.Leaf.{Leaf}
use Rattle.object_alloc.specs.declared.object.Object.{Object}
use Rattle.object_alloc.specs.Variables.{class_in, variables_of, variables}
use Rattle.object_alloc.specs.Leaves.{IsHeldLeaf}
use Rattle.object_alloc.specs.Held.{IsBefore}
use Rattle.object_alloc.specs.Walk.{Met, Made, Passed, Visit, Inside, made, object, leaf, object_met, leaf_met, objects_in, leaves_in, elements, attribute, members, within, top, visit_to, visit, walk, objects}
use Rattle.object_alloc.proofs.HeldLaws.{StandsIn, class_more, get_last}

module _ (o : Outline) where
  -- among these objects the leaf's owner has such an attribute
  pub record IsLeafAmong (xs : List Object) (l : Leaf) : Type 0 where
    pub owner : IsBefore l.owner (length xs)
    pub variable : Variable
    pub has : slice_get (variables o (class_in xs l.owner)) l.attribute ≡ Some variable
    pub shape : variable.shape ≡ l.shape

  abbrev pub AreLeavesAmong : List Object → List Leaf → Type 0
  AreLeavesAmong xs [] = Unit {0}
  AreLeavesAmong xs (l ∷ ls) = IsLeafAmong xs l × AreLeavesAmong xs ls

  before_more : (p : Option ℕ) (n m : ℕ) → n ≤ m → IsBefore p n → IsBefore p m
  before_more None n m le h = tt
  before_more (Some q) n m le h = omega (arith, le, h)

  leaf_more : (xs zs : List Object) (l : Leaf) → IsLeafAmong xs l → IsLeafAmong (xs ++ zs) l
  leaf_more xs zs l h =
      record {
        owner = before_more l.owner (length xs) (length (xs ++ zs)) (omega (arith, length-append xs zs)) h.owner;
        variable = h.variable;
        has = ap (λ c. slice_get (variables o c) l.attribute) (class_more xs zs l.owner (length xs) h.owner (omega arith)) ∙ h.has;
        shape = h.shape;
      }

  all_more : (xs zs : List Object) (ls : List Leaf) → AreLeavesAmong xs ls → AreLeavesAmong (xs ++ zs) ls
  all_more xs zs [] h = tt
  all_more xs zs (l ∷ ls) (a, b) = (leaf_more xs zs l a, all_more xs zs ls b)

  all_append : (xs : List Object) (ls ms : List Leaf) → AreLeavesAmong xs ls → AreLeavesAmong xs ms → AreLeavesAmong xs (ls ++ ms)
  all_append xs [] ms a b = b
  all_append xs (l ∷ ls) ms (h, a) b = (h, all_append xs ls ms a b)

  -- a part keeps it, behind any objects that stand before it
  abbrev pub Keeps : List Object → (ℕ → List Met) → Type 0
  Keeps pre part = AreLeavesAmong (pre ++ objects_in (part (length pre))) (leaves_in (part (length pre)))

  -- two parts, one after the other
  keeps_both : (pre : List Object) (here rest : ℕ → List Met) → Keeps pre here → Keeps (pre ++ objects_in (here (length pre))) rest → Keeps pre (λ n. here n ++ rest (n + made (here n)))
  keeps_both pre here rest a b =
      let H = objects_in (here (length pre)) in
      let n = length pre in
      let number : length (pre ++ H) ≡ n + length H = length-append pre H in
      let R = objects_in (rest (length (pre ++ H))) in
      let split : objects_in (here n ++ rest (n + made (here n))) ≡ H ++ R = flat_map-append object_met (here n) (rest (n + made (here n))) ∙ ap (λ i. H ++ objects_in (rest i)) (sym number) in
      let leaves : leaves_in (here n ++ rest (n + made (here n))) ≡ leaves_in (here n) ++ leaves_in (rest (length (pre ++ H))) = flat_map-append leaf_met (here n) (rest (n + made (here n))) ∙ ap (λ i. leaves_in (here n) ++ leaves_in (rest i)) (sym number) in
      let whole : (pre ++ H) ++ R ≡ pre ++ (H ++ R) = append_assoc pre H R in
      let first = all_more (pre ++ H) R (leaves_in (here n)) a in
      let both = all_append ((pre ++ H) ++ R) (leaves_in (here n)) (leaves_in (rest (length (pre ++ H)))) first b in
      subst (λ ls. AreLeavesAmong (pre ++ objects_in (here n ++ rest (n + made (here n)))) ls) (sym leaves) (subst (λ xs. AreLeavesAmong xs (leaves_in (here n) ++ leaves_in (rest (length (pre ++ H))))) (whole ∙ ap (λ ys. pre ++ ys) (sym split)) both)

  -- a visit keeps it at each object
  abbrev pub VisitKeeps : Visit → Type 0
  VisitKeeps f = (pre : List Object) (x : Object) → Keeps pre (λ n. f n x)

  stands_more : (pre zs : List Object) (w : Inside) (class : Option ℕ) → StandsIn o pre w class → StandsIn o (pre ++ zs) w class
  stands_more pre zs w class s =
      record {
        owner = before_more w.owner (length pre) (length (pre ++ zs)) (omega (arith, length-append pre zs)) s.owner;
        class_is = class_more pre zs w.owner (length pre) s.owner (omega arith) ∙ s.class_is;
      }

  module _ (f : Visit) (keeps : VisitKeeps f) (w : Inside) (class : Option ℕ) where
    elements_keep : (k c m i : ℕ) (pre : List Object) → Keeps pre (elements f w k c m i)
    elements_keep k c zero i pre = tt
    elements_keep k c (suc m) i pre =
        let x = object w k c i in
        keeps_both pre (λ n. f n x) (elements f w k c m (i + 1)) (keeps pre x) (elements_keep k c m (i + 1) (pre ++ objects_in (f (length pre) x)))

    passed : (k : ℕ) (v : Variable) (t : Resolved) (pre : List Object) → v.shape ≡ t → StandsIn o pre w class → slice_get (variables o class) k ≡ Some v → AreLeavesAmong (pre ++ []) (leaf w k t ∷ [])
    passed k v t pre e s has = (leaf_more pre [] (leaf w k t) (record { owner = s.owner; variable = v; has = ap (λ c. slice_get (variables o c) k) s.class_is ∙ has; shape = e }), tt)

    attribute_keeps : (k : ℕ) (v : Variable) (t : Resolved) (pre : List Object) → v.shape ≡ t → StandsIn o pre w class → slice_get (variables o class) k ≡ Some v → Keeps pre (attribute f w k t)
    attribute_keeps k v (One c) pre e s has = keeps pre (object w k c 0)
    attribute_keeps k v (Many c m) pre e s has = elements_keep k c m 0 pre
    attribute_keeps k v (Span low high) pre e s has = passed k v (Span low high) pre e s has
    attribute_keeps k v Truth pre e s has = passed k v Truth pre e s has
    attribute_keeps k v (Choice x) pre e s has = passed k v (Choice x) pre e s has
    attribute_keeps k v (Ref c) pre e s has = passed k v (Ref c) pre e s has
    attribute_keeps k v (RefSet c m) pre e s has = passed k v (RefSet c m) pre e s has

    pub members_keep : (k : ℕ) (vs : List Variable) (pre : List Object) → ((j : ℕ) (v : Variable) → slice_get vs j ≡ Some v → slice_get (variables o class) (k + j) ≡ Some v) → StandsIn o pre w class → Keeps pre (members f w k vs)
    members_keep k [] pre all s = tt
    members_keep k (v ∷ vs) pre all s =
        let here = attribute f w k v.shape in
        keeps_both pre here (members f w (k + 1) vs)
        (attribute_keeps k v v.shape pre refl s (subst (λ i. slice_get (variables o class) i ≡ Some v) (omega arith) (all 0 v refl)))
        (members_keep (k + 1) vs (pre ++ objects_in (here (length pre)))
        (λ j u h. subst (λ i. slice_get (variables o class) i ≡ Some u) (omega arith) (all (suc j) u h))
        (stands_more pre (objects_in (here (length pre))) w class s))

  pub visit_keeps : (l : ℕ) → VisitKeeps (visit_to o l)
  visit_keeps zero pre x = tt
  visit_keeps (suc l) pre x =
      let n = length pre in
      let inside = members (visit_to o l) (within n x) 0 (attributes o.classes x.class) in
      let number : length (pre ++ x ∷ []) ≡ n + 1 = length-append pre (x ∷ []) in
      let s : StandsIn o (pre ++ x ∷ []) (within n x) (Some x.class) = record { owner = omega (arith, number); class_is = ap (option_map (λ (y : Object). y.class)) (get_last pre x n refl) } in
      let rest = members_keep (visit_to o l) (visit_keeps l) (within n x) (Some x.class) 0 (attributes o.classes x.class) (pre ++ x ∷ []) (λ j v g. subst (λ i. slice_get (attributes o.classes x.class) i ≡ Some v) (omega arith) g) s in
      let M = objects_in (inside (n + 1)) in
      let whole : (pre ++ x ∷ []) ++ M ≡ pre ++ x ∷ M = append_assoc pre (x ∷ []) M in
      subst (λ xs. AreLeavesAmong xs (leaves_in (inside (n + 1)))) whole (subst (λ i. AreLeavesAmong ((pre ++ x ∷ []) ++ objects_in (inside i)) (leaves_in (inside i))) number rest)

  leaves_among : AreLeavesAmong (objects o) (leaves_in (walk o))
  leaves_among = members_keep (visit o) (visit_keeps (length o.classes)) top None 0 o.roots [] (λ j v g. subst (λ i. slice_get o.roots i ≡ Some v) (omega arith) g) (record { owner = tt; class_is = refl })

  owner_is : (p : Option ℕ) (n : ℕ) → IsBefore p n → IfSome p (λ q. q < n)
  owner_is None n h = tt
  owner_is (Some q) n h = h

  held_among : (l : Leaf) → IsLeafAmong (objects o) l → IsHeldLeaf o l
  held_among l h = record { owner = owner_is l.owner (length (objects o)) h.owner; variable = h.variable; has = h.has; shape = h.shape }

  found_among : (ls : List Leaf) (i : ℕ) (l : Leaf) → AreLeavesAmong (objects o) ls → slice_get ls i ≡ Some l → IsHeldLeaf o l
  found_among [] i l all e = cc
  found_among (m ∷ ms) zero l (a, b) e = subst (IsHeldLeaf o) (is e) (held_among m a)
    where
      is : Some m ≡ Some l → m ≡ l
      is e = cc
  found_among (m ∷ ms) (suc i) l (a, b) e = found_among ms i l b e

  pub leaf_held : (i : ℕ) (l : Leaf) → slice_get (leaves_in (walk o)) i ≡ Some l → IsHeldLeaf o l
  leaf_held i l e = found_among (leaves_in (walk o)) i l leaves_among e
