-- Each object of a model is held by one with a lesser number, as an element of an attribute of it.
use Rattle.std.proofs.Common.{◌≡◌, ℕ, zero, suc, ◌+◌, ◌<◌, ◌≤◌, List, [], ◌∷◌, ◌++◌, Option, None, Some, length, refl, ap, sym, ◌∙◌, subst, arith, length-append, append_assoc}
use Rattle.std.specs.Prelude.{slice_get}
use Rattle.std.specs.Option.{option_map}
use Rattle.std.proofs.lemmas.Grind.{flat_map-append}
use Rattle.class_table.specs.declared.table.Resolved.{Resolved}
use Rattle.class_table.specs.declared.table.Resolved.TheVariants.{Span, Truth, Choice, One, Many, Ref, RefSet}
use Rattle.class_table.specs.declared.table.Variable.{Variable}
use Rattle.class_table.specs.Outline.{Outline, attributes}
use Rattle.object_alloc.specs.declared.object.Object.{Object}
use Rattle.object_alloc.specs.Variables.{class_in, variables}
use Rattle.object_alloc.specs.Held.{IsBefore, IsHeld, AreHeld, HoldsAt}
use Rattle.object_alloc.specs.Walk.{Met, Visit, Inside, made, object, object_met, objects_in, elements, attribute, members, within, top, visit_to, visit, objects}

-- an object of a list is one of a longer list
get_more : (xs zs : List Object) (n : ℕ) → n < length xs → slice_get (xs ++ zs) n ≡ slice_get xs n
get_more [] zs n h = absurd (omega (arith, h))
get_more (x ∷ xs) zs zero h = refl
get_more (x ∷ xs) zs (suc n) h = get_more xs zs n (omega (arith, h))

pub get_last : (xs : List Object) (x : Object) (n : ℕ) → n ≡ length xs → slice_get (xs ++ x ∷ []) n ≡ Some x
get_last [] x n e = ap (slice_get (x ∷ [])) e
get_last (y ∷ ys) x zero e = absurd (omega (arith, e))
get_last (y ∷ ys) x (suc n) e = get_last ys x n (omega (arith, e))

pub class_more : (xs zs : List Object) (owner : Option ℕ) (n : ℕ) → IsBefore owner n → n ≤ length xs → class_in (xs ++ zs) owner ≡ class_in xs owner
class_more xs zs None n h le = refl
class_more xs zs (Some p) n h le = ap (option_map (λ (x : Object). x.class)) (get_more xs zs p (omega (arith, h, le)))

module _ (o : Outline) where
  held_more : (xs zs : List Object) (n : ℕ) (x : Object) → n ≤ length xs → IsHeld o xs n x → IsHeld o (xs ++ zs) n x
  held_more xs zs n x le h = record { owner = h.owner; variable = h.variable; has = ap (λ c. slice_get (variables o c) x.attribute) (class_more xs zs x.owner n h.owner le) ∙ h.has; holds = h.holds }

  all_more : (xs zs : List Object) (n : ℕ) (ys : List Object) → n + length ys ≤ length xs → AreHeld o xs n ys → AreHeld o (xs ++ zs) n ys
  all_more xs zs n [] le h = tt
  all_more xs zs n (y ∷ ys) le (a, b) = (held_more xs zs n y (omega (arith, le)) a, all_more xs zs (suc n) ys (omega (arith, le)) b)

  all_append : (xs : List Object) (n : ℕ) (ys zs : List Object) → AreHeld o xs n ys → AreHeld o xs (n + length ys) zs → AreHeld o xs n (ys ++ zs)
  all_append xs n [] zs a b = subst (λ i. AreHeld o xs i zs) (omega arith) b
  all_append xs n (y ∷ ys) zs (h, a) b = (h, all_append xs (suc n) ys zs a (subst (λ i. AreHeld o xs i zs) (omega arith) b))

  -- a part keeps that objects are held, behind any objects that stand before it
  abbrev pub Keeps : List Object → (ℕ → List Met) → Type 0
  Keeps pre part = AreHeld o (pre ++ objects_in (part (length pre))) (length pre) (objects_in (part (length pre)))

  -- two parts, one after the other
  keeps_both : (pre : List Object) (here rest : ℕ → List Met) → Keeps pre here → Keeps (pre ++ objects_in (here (length pre))) rest → Keeps pre (λ n. here n ++ rest (n + made (here n)))
  keeps_both pre here rest a b =
      let H = objects_in (here (length pre)) in
      let n = length pre in
      let number : length (pre ++ H) ≡ n + length H = length-append pre H in
      let R = objects_in (rest (length (pre ++ H))) in
      let split : objects_in (here n ++ rest (n + made (here n))) ≡ H ++ R = flat_map-append object_met (here n) (rest (n + made (here n))) ∙ ap (λ i. H ++ objects_in (rest i)) (sym number) in
      let whole : (pre ++ H) ++ R ≡ pre ++ (H ++ R) = append_assoc pre H R in
      let first : AreHeld o (pre ++ (H ++ R)) n H = subst (λ xs. AreHeld o xs n H) whole (all_more (pre ++ H) R n H (omega (arith, number)) a) in
      let second : AreHeld o (pre ++ (H ++ R)) (n + length H) R = subst (λ i. AreHeld o (pre ++ (H ++ R)) i R) number (subst (λ xs. AreHeld o xs (length (pre ++ H)) R) whole b) in
      subst (λ ys. AreHeld o (pre ++ ys) n ys) (sym split) (all_append (pre ++ (H ++ R)) n H R first second)

  -- a visit keeps it at each object that is held
  abbrev pub VisitKeeps : Visit → Type 0
  VisitKeeps f = (pre : List Object) (x : Object) → IsHeld o pre (length pre) x → Keeps pre (λ n. f n x)

  -- where the walk stands: in an object that was made, or at the top level
  pub record StandsIn (pre : List Object) (w : Inside) (class : Option ℕ) : Type 0 where
    pub owner : IsBefore w.owner (length pre)
    pub class_is : class_in pre w.owner ≡ class

  stands_more : (pre zs : List Object) (w : Inside) (class : Option ℕ) → StandsIn pre w class → StandsIn (pre ++ zs) w class
  stands_more pre zs w class s =
      record {
        owner = by w.owner s.owner;
        class_is = class_more pre zs w.owner (length pre) s.owner (omega arith) ∙ s.class_is;
      }
    where
      by : (p : Option ℕ) → IsBefore p (length pre) → IsBefore p (length (pre ++ zs))
      by None h = tt
      by (Some q) h = omega (arith, h, length-append pre zs)

  module _ (f : Visit) (keeps : VisitKeeps f) (w : Inside) (class : Option ℕ) where
    held : (pre : List Object) (k c i : ℕ) (v : Variable) → StandsIn pre w class → slice_get (variables o class) k ≡ Some v → HoldsAt v.shape c i → IsHeld o pre (length pre) (object w k c i)
    held pre k c i v s has h = record { owner = s.owner; variable = v; has = ap (λ x. slice_get (variables o x) k) s.class_is ∙ has; holds = h }

    elements_keep : (k c m i : ℕ) (v : Variable) (pre : List Object) → StandsIn pre w class → slice_get (variables o class) k ≡ Some v → ((j : ℕ) → j < i + m → HoldsAt v.shape c j) → Keeps pre (elements f w k c m i)
    elements_keep k c zero i v pre s has h = tt
    elements_keep k c (suc m) i v pre s has h =
        let x = object w k c i in
        let here = keeps pre x (held pre k c i v s has (h i (omega arith))) in
        keeps_both pre (λ n. f n x) (elements f w k c m (i + 1)) here
        (elements_keep k c m (i + 1) v (pre ++ objects_in (f (length pre) x)) (stands_more pre (objects_in (f (length pre) x)) w class s) has (λ j lt. h j (omega (arith, lt))))

    attribute_keeps : (k : ℕ) (v : Variable) (t : Resolved) (pre : List Object) → v.shape ≡ t → StandsIn pre w class → slice_get (variables o class) k ≡ Some v → Keeps pre (attribute f w k t)
    attribute_keeps k v (One c) pre e s has = keeps pre (object w k c 0) (held pre k c 0 v s has (subst (λ t. HoldsAt t c 0) (sym e) (refl, refl)))
    attribute_keeps k v (Many c m) pre e s has = elements_keep k c m 0 v pre s has (λ j lt. subst (λ t. HoldsAt t c j) (sym e) (refl, omega (arith, lt)))
    attribute_keeps k v (Span low high) pre e s has = tt
    attribute_keeps k v Truth pre e s has = tt
    attribute_keeps k v (Choice x) pre e s has = tt
    attribute_keeps k v (Ref c) pre e s has = tt
    attribute_keeps k v (RefSet c m) pre e s has = tt

    pub members_keep : (k : ℕ) (vs : List Variable) (pre : List Object) → ((j : ℕ) (v : Variable) → slice_get vs j ≡ Some v → slice_get (variables o class) (k + j) ≡ Some v) → StandsIn pre w class → Keeps pre (members f w k vs)
    members_keep k [] pre all s = tt
    members_keep k (v ∷ vs) pre all s =
        let here = attribute f w k v.shape in
        keeps_both pre here (members f w (k + 1) vs)
        (attribute_keeps k v v.shape pre refl s (subst (λ i. slice_get (variables o class) i ≡ Some v) (omega arith) (all 0 v refl)))
        (members_keep (k + 1) vs (pre ++ objects_in (here (length pre)))
        (λ j u h. subst (λ i. slice_get (variables o class) i ≡ Some u) (omega arith) (all (suc j) u h))
        (stands_more pre (objects_in (here (length pre))) w class s))

  pub visit_keeps : (l : ℕ) → VisitKeeps (visit_to o l)
  visit_keeps zero pre x h = (held_more pre (x ∷ []) (length pre) x (omega arith) h, tt)
  visit_keeps (suc l) pre x h =
      let n = length pre in
      let inside = members (visit_to o l) (within n x) 0 (attributes o.classes x.class) in
      let number : length (pre ++ x ∷ []) ≡ n + 1 = length-append pre (x ∷ []) in
      let s : StandsIn (pre ++ x ∷ []) (within n x) (Some x.class) = record { owner = omega (arith, number); class_is = ap (option_map (λ (y : Object). y.class)) (get_last pre x n refl) } in
      let rest = members_keep (visit_to o l) (visit_keeps l) (within n x) (Some x.class) 0 (attributes o.classes x.class) (pre ++ x ∷ []) (λ j v g. subst (λ i. slice_get (attributes o.classes x.class) i ≡ Some v) (omega arith) g) s in
      let M = objects_in (inside (n + 1)) in
      let whole : (pre ++ x ∷ []) ++ M ≡ pre ++ x ∷ M = append_assoc pre (x ∷ []) M in
      let rest' : AreHeld o ((pre ++ x ∷ []) ++ M) (n + 1) M = subst (λ i. AreHeld o ((pre ++ x ∷ []) ++ objects_in (inside i)) i (objects_in (inside i))) number rest in
      let next : n + 1 ≡ suc n = omega arith in
      (held_more pre (x ∷ M) n x (omega arith) h, subst (λ i. AreHeld o (pre ++ x ∷ M) i M) next (subst (λ xs. AreHeld o xs (n + 1) M) whole rest'))

  -- all objects of a model are held
  pub objects_held : AreHeld o (objects o) 0 (objects o)
  objects_held = members_keep (visit o) (visit_keeps (length o.classes)) top None 0 o.roots [] (λ j v g. subst (λ i. slice_get o.roots i ≡ Some v) (omega arith) g) (record { owner = tt; class_is = refl })

  held_at : (xs : List Object) (n : ℕ) (ys : List Object) (i : ℕ) (x : Object) → AreHeld o xs n ys → slice_get ys i ≡ Some x → IsHeld o xs (n + i) x
  held_at xs n [] i x h e = cc
  held_at xs n (y ∷ ys) zero x (a, b) e = subst (λ i. IsHeld o xs i x) (omega arith) (subst (IsHeld o xs n) (some_is e) a)
    where
      some_is : {a b : Object} → Some a ≡ Some b → a ≡ b
      some_is e = cc
  held_at xs n (y ∷ ys) (suc i) x (a, b) e = subst (λ j. IsHeld o xs j x) (omega arith) (held_at xs (suc n) ys i x b e)

  pub object_held : (n : ℕ) (x : Object) → slice_get (objects o) n ≡ Some x → IsHeld o (objects o) n x
  object_held n x e = subst (λ i. IsHeld o (objects o) i x) (omega arith) (held_at (objects o) 0 (objects o) n x objects_held e)
