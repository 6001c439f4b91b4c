-- An object of an extent has the attributes of the extent's class, with the same numbers.
use Rattle.std.proofs.Common.{◌≡◌, ℕ, zero, suc, ◌+◌, ◌<◌, Bool, true, false, ◌||◌, cond, List, [], ◌∷◌, ◌++◌, Option, Some, length, refl, ap, sym, ◌∙◌, subst, arith, eq-eqb}
use Rattle.std.specs.Prelude.{Contains, slice_get}
use Rattle.std.specs.Option.{option_map, option_map_or}
use Rattle.class_table.specs.declared.table.Class.{Class}
use Rattle.class_table.specs.declared.table.Variable.{Variable}
use Rattle.class_table.specs.Ancestry.{derives}
use Rattle.class_table.specs.Outline.{Outline, parent_in, own_in, is_a, attributes}
use Rattle.class_table.specs.Scopes.{HasRanks}
use Rattle.class_table.specs.Sound.{IsSound}
use Rattle.class_table.specs.Steps.{StepsBy}
use Rattle.class_table.proofs.AncestryLaws.{IsUp, steps_from_derives, attributes_next}
use Rattle.object_alloc.specs.declared.object.Object.{Object}
use Rattle.object_alloc.specs.Cells.{extent_from, extent}
use Rattle.object_alloc.specs.Variables.{variables_of, variables}
use Rattle.object_alloc.specs.Walk.{objects}

-- an item of a list is one of a longer list
get_more : {X : Type 0} (xs ys : List X) (k : ℕ) (v : X) → slice_get xs k ≡ Some v → slice_get (xs ++ ys) k ≡ Some v
get_more [] ys k v e = cc
get_more (x ∷ xs) ys zero v e = e
get_more (x ∷ xs) ys (suc k) v e = get_more xs ys k v e

-- what has a parent is a class
parent_low : (cs : List Class) (c q : ℕ) → parent_in cs c ≡ Some q → c < length cs
parent_low [] c q e = cc
parent_low (k ∷ ks) zero q e = omega arith
parent_low (k ∷ ks) (suc c) q e = let h = parent_low ks c q e in omega arith

module _ (cs : List Class) (ranks : HasRanks cs) where
  inherited_steps : (j d c k : ℕ) (v : Variable) → StepsBy (IsUp (parent_in cs)) j d c → slice_get (attributes cs c) k ≡ Some v → slice_get (attributes cs d) k ≡ Some v
  inherited_steps zero d c k v s e = subst (λ x. slice_get (attributes cs x) k ≡ Some v) (sym s) e
  inherited_steps (suc j) d c k v s e =
      let low = ranks.below d (parent_low cs d s.0 s.1) in
      let next : attributes cs d ≡ attributes cs s.0 ++ own_in cs d = attributes_next (parent_in cs) ranks.rank ranks.falls (own_in cs) (length cs) (length cs) d s.0 (omega (arith, low)) s.1 in
      subst (λ vs. slice_get vs k ≡ Some v) (sym next) (get_more (attributes cs s.0) (own_in cs d) k v (inherited_steps j s.0 c k v s.2 e))

  -- an attribute of a class is an attribute of each class that derives from it
  pub inherited : (d c k : ℕ) (v : Variable) → is_a cs d c ≡ true → slice_get (attributes cs c) k ≡ Some v → slice_get (attributes cs d) k ≡ Some v
  inherited d c k v h e = let s = steps_from_derives (parent_in cs) (length cs) d c h in inherited_steps s.0 d c k v s.1 e

-- each class derives from itself
itself : (up : ℕ → Option ℕ) (n c : ℕ) → derives up n c c ≡ true
itself up zero c = eq-eqb c c refl
itself up (suc n) c = ap (λ b. b || option_map_or (λ parent. derives up n parent c) (up c) false) (eq-eqb c c refl)

-- an object of the extent of a class
pub record IsOfClass (o : Outline) (c x : ℕ) : Type 0 where
  pub object : Object
  pub there : slice_get (objects o) x ≡ Some object
  pub derived : is_a o.classes object.class c ≡ true

abbrev OfList : Outline → ℕ → List Object → ℕ → ℕ → Type 0
OfList o c xs n x = (i : ℕ) × (x ≡ n + i) × ((y : Object) × (slice_get xs i ≡ Some y) × (is_a o.classes y.class c ≡ true))

later : (o : Outline) (c : ℕ) (x : Object) (xs : List Object) (n k : ℕ) → OfList o c xs (n + 1) k → OfList o c (x ∷ xs) n k
later o c x xs n k (i, e, h) = (suc i, omega (arith, e), h)

of_list : (o : Outline) (c : ℕ) (xs : List Object) (n x : ℕ) → Contains (extent_from o.classes c n xs) x → OfList o c xs n x
of_list o c [] n x h = absurd (omega (arith, h.1))
of_list o c (y ∷ ys) n x h = by (λ g. of_list o c ys (n + 1) x g) (is_a o.classes y.class c) refl h
  where
    by : (Contains (extent_from o.classes c (n + 1) ys) x → OfList o c ys (n + 1) x) → (b : Bool) → is_a o.classes y.class c ≡ b → Contains (cond b (n ∷ extent_from o.classes c (n + 1) ys) (extent_from o.classes c (n + 1) ys)) x → OfList o c (y ∷ ys) n x
    by more true e (zero, lt, is) = (0, omega (arith, is), (y, refl, e))
    by more true e (suc k, lt, is) = later o c y ys n x (more (k, omega (arith, lt), is))
    by more false e g = later o c y ys n x (more g)

pub of_extent : (o : Outline) (c x : ℕ) → Contains (extent o c) x → IsOfClass o c x
of_extent o c x h =
    let f = of_list o c (objects o) 0 x h in
    record { object = f.2.0; there = ap (slice_get (objects o)) (omega (arith, f.1)) ∙ f.2.1; derived = f.2.2 }

there_low : (xs : List Object) (n : ℕ) (y : Object) → slice_get xs n ≡ Some y → n < length xs
there_low [] n y e = cc
there_low (z ∷ zs) zero y e = omega arith
there_low (z ∷ zs) (suc n) y e = let l = there_low zs n y e in omega arith

-- what is in an extent is an object
pub object_low : (o : Outline) (c x : ℕ) → Contains (extent o c) x → x < length (objects o)
object_low o c x h = let f = of_extent o c x h in there_low (objects o) x f.object f.there

has_list : (o : Outline) (c : ℕ) (xs : List Object) (n i : ℕ) (y : Object) → slice_get xs i ≡ Some y → is_a o.classes y.class c ≡ true → Contains (extent_from o.classes c n xs) (n + i)
has_list o c [] n i y e d = cc
has_list o c (z ∷ zs) n zero y e d = subst (λ b. Contains (cond b (n ∷ extent_from o.classes c (n + 1) zs) (extent_from o.classes c (n + 1) zs)) (n + 0)) (sym (ap (λ (x : Object). is_a o.classes x.class c) (some_is e) ∙ d)) (0, omega arith, omega arith)
  where
    some_is : {a b : Object} → Some a ≡ Some b → a ≡ b
    some_is g = cc
has_list o c (z ∷ zs) n (suc i) y e d = by (is_a o.classes z.class c) (subst (Contains (extent_from o.classes c (n + 1) zs)) (omega arith) (has_list o c zs (n + 1) i y e d))
  where
    by : (b : Bool) → Contains (extent_from o.classes c (n + 1) zs) (n + suc i) → Contains (cond b (n ∷ extent_from o.classes c (n + 1) zs) (extent_from o.classes c (n + 1) zs)) (n + suc i)
    by true (k, lt, is) = (suc k, omega (arith, lt), is)
    by false h = h

-- an object is in the extent of each class that its own derives from
pub in_extent : (o : Outline) (c x : ℕ) (y : Object) → slice_get (objects o) x ≡ Some y → is_a o.classes y.class c ≡ true → Contains (extent o c) x
in_extent o c x y e d = subst (Contains (extent o c)) (omega arith) (has_list o c (objects o) 0 x y e d)

-- an object is in the extent of its own class
pub in_own_extent : (o : Outline) (c x : ℕ) (y : Object) → slice_get (objects o) x ≡ Some y → y.class ≡ c → Contains (extent o c) x
in_own_extent o c x y e f = in_extent o c x y e (ap (λ d. is_a o.classes d c) f ∙ itself (parent_in o.classes) (length o.classes) c)

-- an object of the extent of a class has its attributes
pub has_attribute : (o : Outline) → IsSound o → (c x k : ℕ) (v : Variable) → Contains (extent o c) x → slice_get (attributes o.classes c) k ≡ Some v → slice_get (variables_of o (Some x)) k ≡ Some v
has_attribute o sound c x k v h e =
    let f = of_extent o c x h in
    let same : variables_of o (Some x) ≡ attributes o.classes f.object.class = ap (λ (r : Option Object). variables o (option_map (λ (y : Object). y.class) r)) f.there in
    subst (λ vs. slice_get vs k ≡ Some v) (sym same) (inherited o.classes sound.ranks f.object.class c k v f.derived e)
