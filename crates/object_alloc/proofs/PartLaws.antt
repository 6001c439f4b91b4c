-- Each element of each attribute that holds objects is an object.
use Rattle.std.proofs.Common.{◌≡◌, ℕ, zero, suc, ◌+◌, ◌<◌, List, [], ◌∷◌, ◌++◌, Option, None, Some, length, refl, ap, sym, ◌∙◌, subst, arith}
use Rattle.std.specs.Prelude.{Contains, IfSome, slice_get, slice_index_or}
use Rattle.std.specs.Option.{option_map}
use Rattle.class_table.specs.Tables.{IsShapeOf}
use Rattle.object_alloc.specs.Variables.{variables_of, variables}
use Rattle.object_alloc.proofs.ShapeLaws.{root_shapes}
use Rattle.std.proofs.lemmas.Grind.{flat_map-append}
use Rattle.std.proofs.lemmas.List.Elements.{Contains-append_left, Contains-append_right}
use Rattle.class_table.specs.declared.table.Resolved.{Resolved}
use Rattle.class_table.specs.declared.table.Resolved.TheVariants.{Span, Truth, Choice, One, Many, Ref, RefSet}
use Rattle.class_table.specs.declared.table.Variable.{Variable}
use Rattle.class_table.specs.Outline.{Outline, attributes}
use Rattle.class_table.specs.Sound.{HasNesting, IsSound, held_class}
use Rattle.object_alloc.specs.declared.object.Object.{Object}
use Rattle.object_alloc.specs.Parts.{IsElement, HasPart}
use Rattle.object_alloc.specs.Walk.{Met, Visit, Inside, made, object, object_met, objects_in, elements, attribute, members, within, top, visit_to, visit, objects}

-- all parts of object y, which has number n, are among these objects
abbrev pub IsFull : Outline → List Object → ℕ → Object → Type 0
IsFull o xs n y = (k i : ℕ) (v : Variable) → slice_get (attributes o.classes y.class) k ≡ Some v → IsElement v.shape i → HasPart xs (Some n) k i

abbrev pub AreFull : Outline → List Object → ℕ → List Object → Type 0
AreFull o xs n [] = Unit {0}
AreFull o xs n (y ∷ ys) = IsFull o xs n y × AreFull o xs (suc n) ys

module _ (o : Outline) (r : HasNesting o.classes) where
  more : (xs zs : List Object) → ((x : Object) → Contains xs x → Contains zs x) → (n : ℕ) (ys : List Object) → AreFull o xs n ys → AreFull o zs n ys
  more xs zs sub n [] a = tt
  more xs zs sub n (y ∷ ys) (a, b) = (λ k i v g e. let h = a k i v g e in record { part = h.part; has = sub h.part h.has; is = h.is }, more xs zs sub (suc n) ys b)

  both : (xs : List Object) (n : ℕ) (ys zs : List Object) → AreFull o xs n ys → AreFull o xs (n + length ys) zs → AreFull o xs n (ys ++ zs)
  both xs n [] zs a b = subst (λ i. AreFull o xs i zs) (omega arith) b
  both xs n (y ∷ ys) zs (a, c) b = (a, both xs (suc n) ys zs c (subst (λ i. AreFull o xs i zs) (omega arith) b))

  -- a visit lists the object itself, and all parts of each object that it lists
  pub record Lists (f : Visit) (c : ℕ) : Type 0 where
    pub itself : (n : ℕ) (x : Object) → x.class ≡ c → Contains (objects_in (f n x)) x
    pub full : (n : ℕ) (x : Object) → x.class ≡ c → AreFull o (objects_in (f n x)) n (objects_in (f n x))

  full_both : (here rest : List Met) (n : ℕ) → AreFull o (objects_in here) n (objects_in here) → AreFull o (objects_in rest) (n + made here) (objects_in rest) → AreFull o (objects_in (here ++ rest)) n (objects_in (here ++ rest))
  full_both here rest n a b =
      let split = flat_map-append object_met here rest in
      let H = objects_in here in
      let R = objects_in rest in
      subst (λ xs. AreFull o xs n xs) (sym split)
      (both (H ++ R) n H R (more H (H ++ R) (λ x c. Contains-append_left H R x c) n H a) (more R (H ++ R) (λ x c. Contains-append_right H R x c) (n + length H) R b))

  left_part : (here rest : List Met) (owner : Option ℕ) (k i : ℕ) → HasPart (objects_in here) owner k i → HasPart (objects_in (here ++ rest)) owner k i
  left_part here rest owner k i h = record { part = h.part; has = subst (λ xs. Contains xs h.part) (sym (flat_map-append object_met here rest)) (Contains-append_left (objects_in here) (objects_in rest) h.part h.has); is = h.is }

  right_part : (here rest : List Met) (owner : Option ℕ) (k i : ℕ) → HasPart (objects_in rest) owner k i → HasPart (objects_in (here ++ rest)) owner k i
  right_part here rest owner k i h = record { part = h.part; has = subst (λ xs. Contains xs h.part) (sym (flat_map-append object_met here rest)) (Contains-append_right (objects_in here) (objects_in rest) h.part h.has); is = h.is }

  module _ (f : Visit) (w : Inside) where
    elements_full : (k c m i n : ℕ) → Lists f c → AreFull o (objects_in (elements f w k c m i n)) n (objects_in (elements f w k c m i n))
    elements_full k c zero i n l = tt
    elements_full k c (suc m) i n l =
        let here = f n (object w k c i) in
        full_both here (elements f w k c m (i + 1) (n + made here)) n (l.full n (object w k c i) refl) (elements_full k c m (i + 1) (n + made here) l)

    elements_part : (k c m i n j : ℕ) → Lists f c → j < m → HasPart (objects_in (elements f w k c m i n)) w.owner k (i + j)
    elements_part k c zero i n j l h = absurd (omega (arith, h))
    elements_part k c (suc m) i n zero l h =
        let here = f n (object w k c i) in
        left_part here (elements f w k c m (i + 1) (n + made here)) w.owner k (i + 0) (record { part = object w k c i; has = l.itself n (object w k c i) refl; is = (refl, refl, omega arith) })
    elements_part k c (suc m) i n (suc j) l h =
        let here = f n (object w k c i) in
        right_part here (elements f w k c m (i + 1) (n + made here)) w.owner k (i + suc j)
        (subst (HasPart (objects_in (elements f w k c m (i + 1) (n + made here))) w.owner k) (omega arith) (elements_part k c m (i + 1) (n + made here) j l (omega (arith, h))))

    attribute_full : (k : ℕ) (s : Resolved) (n : ℕ) → ((c : ℕ) → held_class s ≡ Some c → Lists f c) → AreFull o (objects_in (attribute f w k s n)) n (objects_in (attribute f w k s n))
    attribute_full k (One c) n l = (l c refl).full n (object w k c 0) refl
    attribute_full k (Many c m) n l = elements_full k c m 0 n (l c refl)
    attribute_full k (Span low high) n l = tt
    attribute_full k Truth n l = tt
    attribute_full k (Choice e) n l = tt
    attribute_full k (Ref c) n l = tt
    attribute_full k (RefSet c m) n l = tt

    attribute_part : (k : ℕ) (s : Resolved) (n i : ℕ) → ((c : ℕ) → held_class s ≡ Some c → Lists f c) → IsElement s i → HasPart (objects_in (attribute f w k s n)) w.owner k i
    attribute_part k (One c) n i l e = record { part = object w k c 0; has = (l c refl).itself n (object w k c 0) refl; is = (refl, refl, sym e) }
    attribute_part k (Many c m) n i l e = subst (HasPart (objects_in (elements f w k c m 0 n)) w.owner k) (omega arith) (elements_part k c m 0 n i (l c refl) e)
    attribute_part k (Span low high) n i l e = absurd e
    attribute_part k Truth n i l e = absurd e
    attribute_part k (Choice x) n i l e = absurd e
    attribute_part k (Ref c) n i l e = absurd e
    attribute_part k (RefSet c m) n i l e = absurd e

    -- each variable's class is listed by the visit
    abbrev pub Lend : List Variable → Type 0
    Lend vs = (j : ℕ) (v : Variable) (c : ℕ) → slice_get vs j ≡ Some v → held_class v.shape ≡ Some c → Lists f c

    pub members_full : (k : ℕ) (vs : List Variable) (n : ℕ) → Lend vs → AreFull o (objects_in (members f w k vs n)) n (objects_in (members f w k vs n))
    members_full k [] n l = tt
    members_full k (v ∷ vs) n l =
        let here = attribute f w k v.shape n in
        full_both here (members f w (k + 1) vs (n + made here)) n (attribute_full k v.shape n (λ c h. l 0 v c refl h)) (members_full (k + 1) vs (n + made here) (λ j u c g h. l (suc j) u c g h))

    pub members_part : (k : ℕ) (vs : List Variable) (n j i : ℕ) (v : Variable) → Lend vs → slice_get vs j ≡ Some v → IsElement v.shape i → HasPart (objects_in (members f w k vs n)) w.owner (k + j) i
    members_part k [] n j i v l g e = cc
    members_part k (u ∷ us) n zero i v l g e =
        let here = attribute f w k u.shape n in
        let same : u ≡ v = some_is g in
        left_part here (members f w (k + 1) us (n + made here)) w.owner (k + 0) i
        (subst (λ x. HasPart (objects_in here) w.owner x i) (omega arith) (attribute_part k u.shape n i (λ c h. l 0 u c refl h) (subst (λ (x : Variable). IsElement x.shape i) (sym same) e)))
      where
        some_is : {a b : Variable} → Some a ≡ Some b → a ≡ b
        some_is e = cc
    members_part k (u ∷ us) n (suc j) i v l g e =
        let here = attribute f w k u.shape n in
        right_part here (members f w (k + 1) us (n + made here)) w.owner (k + suc j) i
        (subst (λ x. HasPart (objects_in (members f w (k + 1) us (n + made here))) w.owner x i) (omega arith) (members_part (k + 1) us (n + made here) j i v (λ a b c d h. l (suc a) b c d h) g e))

  found : (vs : List Variable) (j : ℕ) (v : Variable) → slice_get vs j ≡ Some v → Contains vs v
  found [] j v g = cc
  found (u ∷ us) zero v g = (0, omega arith, some_is g)
    where
      some_is : {a b : Variable} → Some a ≡ Some b → a ≡ b
      some_is e = cc
  found (u ∷ us) (suc j) v g = let h = found us j v g in (suc h.0, omega (arith, h.1), h.2)

  pub visit_lists : (l c : ℕ) → r.rank c < l → Lists (visit_to o l) c
  visit_lists zero c h = absurd (omega (arith, h))
  visit_lists (suc l) c h =
      record {
        itself = λ n x e. (0, omega arith, refl);
        full = λ n x e.
            let vs = attributes o.classes x.class in
            let lend : Lend (visit_to o l) (within n x) vs = λ j v d g held. let a = r.falls x.class d v (found vs j v g) held in visit_lists l d (omega (arith, a, ap r.rank e, h)) in
            let M = objects_in (members (visit_to o l) (within n x) 0 vs (n + 1)) in
            let next : n + 1 ≡ suc n = omega arith in
            let rest = members_full (visit_to o l) (within n x) 0 vs (n + 1) lend in (
              λ k i v g held. let p = members_part (visit_to o l) (within n x) 0 vs (n + 1) k i v lend g held in record { part = p.part; has = (suc p.has.0, omega (arith, p.has.1), p.has.2); is = (p.is.0, p.is.1 ∙ omega arith, p.is.2) },
              subst (λ i. AreFull o (x ∷ M) i M) next (more M (x ∷ M) (λ y c. (suc c.0, omega (arith, c.1), c.2)) (n + 1) M rest),
            );
      }

  full_at : (xs : List Object) (n : ℕ) (ys : List Object) (j : ℕ) (y : Object) → AreFull o xs n ys → slice_get ys j ≡ Some y → IsFull o xs (n + j) y
  full_at xs n [] j y a g = cc
  full_at xs n (z ∷ zs) zero y (a, b) g = subst (λ i. IsFull o xs i y) (omega arith) (subst (IsFull o xs n) (some_is g) a)
    where
      some_is : {a b : Object} → Some a ≡ Some b → a ≡ b
      some_is e = cc
  full_at xs n (z ∷ zs) (suc j) y (a, b) g = subst (λ i. IsFull o xs i y) (omega arith) (full_at xs (suc n) zs j y b g)

class_of_shape : (m e : ℕ) (s : Resolved) (c : ℕ) → IsShapeOf m e s → held_class s ≡ Some c → c < m
class_of_shape m e (One d) c h g = let same : d ≡ c = cc in omega (arith, h, same)
class_of_shape m e (Many d i) c h g = let same : d ≡ c = cc in omega (arith, h, same)
class_of_shape m e (Span low high) c h g = cc
class_of_shape m e Truth c h g = cc
class_of_shape m e (Choice x) c h g = cc
class_of_shape m e (Ref d) c h g = cc
class_of_shape m e (RefSet d i) c h g = cc

-- the variable at a place
pub record StandsAt (vs : List Variable) (k i : ℕ) : Type 0 where
  pub variable : Variable
  pub is : slice_get vs k ≡ Some variable
  pub element : IsElement variable.shape i

stands_at : (vs : List Variable) (k i : ℕ) → k < length vs → ((d : Variable) → IsElement (slice_index_or vs k d).shape i) → StandsAt vs k i
stands_at [] k i h e = absurd (omega (arith, h))
stands_at (v ∷ vs) zero i h e = record { variable = v; is = refl; element = e v }
stands_at (v ∷ vs) (suc k) i h e = let s = stands_at vs k i (omega (arith, h)) e in record { variable = s.variable; is = s.is; element = s.element }

object_at : (xs : List Object) (n : ℕ) → n < length xs → (x : Object) × (slice_get xs n ≡ Some x)
object_at [] n h = absurd (omega (arith, h))
object_at (x ∷ xs) zero h = (x, refl)
object_at (x ∷ xs) (suc n) h = object_at xs n (omega (arith, h))

pub parts_there : (o : Outline) → IsSound o → (owner : Option ℕ) (k i : ℕ) → IfSome owner (λ n. n < length (objects o)) → k < length (variables_of o owner) → ((d : Variable) → IsElement (slice_index_or (variables_of o owner) k d).shape i) → HasPart (objects o) owner k i
parts_there o sound None k i there within e =
    let r = sound.nesting in
    let s = stands_at o.roots k i within e in
    let lend : Lend o r (visit o) top o.roots = λ j v c g held. visit_lists o r (length o.classes) c (r.below c (root_class j v c g held)) in
    subst (λ x. HasPart (objects o) None x i) (omega arith) (members_part o r (visit o) top 0 o.roots 0 k i s.variable lend s.is s.element)
  where
    root_class : (j : ℕ) (v : Variable) (c : ℕ) → slice_get o.roots j ≡ Some v → held_class v.shape ≡ Some c → c < length o.classes
    root_class j v c g held = class_of_shape (length o.classes) (length o.enumerations) v.shape c (root_shapes o sound v (found o sound.nesting o.roots j v g)) held
parts_there o sound (Some n) k i there within e =
    let r = sound.nesting in
    let x = object_at (objects o) n there in
    let same : variables_of o (Some n) ≡ attributes o.classes x.0.class = ap (λ (z : Option Object). variables o (option_map (λ (y : Object). y.class) z)) x.1 in
    let s = stands_at (attributes o.classes x.0.class) k i (omega (arith, within, ap length same)) (λ d. subst (λ vs. IsElement (slice_index_or vs k d).shape i) same (e d)) in
    let lend : Lend o r (visit o) top o.roots = λ j v c g held. visit_lists o r (length o.classes) c (r.below c (root_class j v c g held)) in
    let full = members_full o r (visit o) top 0 o.roots 0 lend in
    subst (λ m. HasPart (objects o) (Some m) k i) (omega arith) (full_at o r (objects o) 0 (objects o) n x.0 full x.1 k i s.variable s.is s.element)
  where
    root_class : (j : ℕ) (v : Variable) (c : ℕ) → slice_get o.roots j ≡ Some v → held_class v.shape ≡ Some c → c < length o.classes
    root_class j v c g held = class_of_shape (length o.classes) (length o.enumerations) v.shape c (root_shapes o sound v (found o sound.nesting o.roots j v g)) held
