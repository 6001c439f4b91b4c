-- What is known of objects by their numbers.
use Rattle.std.proofs.Common.{◌≡◌, ℕ, zero, suc, ◌+◌, ◌<◌, List, [], ◌∷◌, Option, None, Some, Bool, true, false, cond, length, nat_eq, refl, sym, ap, ◌∙◌, subst, arith, eq-eqb}
use Rattle.std.specs.Prelude.{slice_get, slice_index_or, Contains, IfSome}
use Rattle.std.specs.List.{list_any}
use Rattle.std.specs.Option.{option_map}
use Rattle.std.proofs.lemmas.Bool.{eqb-true}
use Rattle.std.proofs.lemmas.Option.{get_or_from_slice_get}
use Rattle.class_table.specs.declared.table.Class.{Class}
use Rattle.class_table.specs.declared.table.Resolved.{Resolved}
use Rattle.class_table.specs.declared.table.Resolved.TheVariants.{Span, Truth, Choice, One, Many, Ref, RefSet}
use Rattle.class_table.specs.declared.table.Variable.{Variable}
use Rattle.class_table.specs.Outline.{Outline, is_a, attributes}
use Rattle.class_table.specs.Sound.{IsSound}
use Rattle.class_table.specs.Tables.{IsShapeOf}
use Rattle.object_alloc.specs.declared.object.Object.{Object}
use Rattle.object_alloc.specs.Cells.{extent, extent_from}
use Rattle.object_alloc.specs.Variables.{class_in, variables_of, variables}
use Rattle.object_alloc.specs.Held.{HoldsAt}
use Rattle.object_alloc.specs.Walk.{objects}
use Rattle.object_alloc.proofs.HeldLaws.{object_held}
use Rattle.object_alloc.proofs.ShapeLaws.{shapes, root_shapes}

-- the item with this number
pub record IsItem {X : Type 0} (xs : List X) (n : ℕ) : Type 0 where
  pub item : X
  pub has : slice_get xs n ≡ Some item
  pub is : (d : X) → slice_index_or xs n d ≡ item

pub item_at : {X : Type 0} (xs : List X) (n : ℕ) → n < length xs → IsItem xs n
item_at [] n h = absurd (omega (arith, h))
item_at (x ∷ xs) zero h = record { item = x; has = refl; is = λ d. refl }
item_at (x ∷ xs) (suc n) h = let r = item_at xs n (omega (arith, h)) in record { item = r.item; has = r.has; is = r.is }

pub item_within : {X : Type 0} (xs : List X) (n : ℕ) (x : X) → slice_get xs n ≡ Some x → n < length xs
item_within [] n x e = cc
item_within (y ∷ ys) zero x e = omega arith
item_within (y ∷ ys) (suc n) x e = let r = item_within ys n x e in omega arith

some_is : {X : Type 0} {a b : X} → Some a ≡ Some b → a ≡ b
some_is e = cc

pub item_contained : {X : Type 0} (xs : List X) (n : ℕ) (x : X) → slice_get xs n ≡ Some x → Contains xs x
item_contained [] n x e = cc
item_contained (y ∷ ys) zero x e = (0, omega arith, some_is e)
item_contained (y ∷ ys) (suc n) x e = let r = item_contained ys n x e in (suc r.0, omega (arith, r.1), r.2)

-- the shape of a variable
pub shape_known : (o : Outline) → IsSound o → (c : Option ℕ) (k : ℕ) (v : Variable) → slice_get (variables o c) k ≡ Some v → IsShapeOf (length o.classes) (length o.enumerations) v.shape
shape_known o sound None k v e = root_shapes o sound v (item_contained o.roots k v e)
shape_known o sound (Some c) k v e = shapes o sound c v (item_contained (variables o (Some c)) k v e)

class_held : (n m : ℕ) (s : Resolved) (c i : ℕ) → IsShapeOf n m s → HoldsAt s c i → c < n
class_held n m (One d) c i h held = omega (arith, h, held.0)
class_held n m (Many d count) c i h held = omega (arith, h, held.0)
class_held n m (Span low high) c i h held = absurd held
class_held n m Truth c i h held = absurd held
class_held n m (Choice e) c i h held = absurd held
class_held n m (Ref d) c i h held = absurd held
class_held n m (RefSet d count) c i h held = absurd held

-- the class of an object
pub class_known : (o : Outline) → IsSound o → (n : ℕ) (x : Object) → slice_get (objects o) n ≡ Some x → x.class < length o.classes
class_known o sound n x e =
    let held = object_held o n x e in
    class_held (length o.classes) (length o.enumerations) held.variable.shape x.class x.element (shape_known o sound (class_in (objects o) x.owner) x.attribute held.variable held.has) held.holds

-- Extents

pub differs : (a b : ℕ) → (a ≡ b → ⊥) → nat_eq a b ≡ false
differs a b h = by (nat_eq a b) refl
  where
    by : (t : Bool) → nat_eq a b ≡ t → t ≡ false
    by true e = absurd (h (eqb-true a b e))
    by false e = refl

module _ (cs : List Class) (c : ℕ) where
  pub before : (m k : ℕ) (xs : List Object) → k < m → list_any (nat_eq k) (extent_from cs c m xs) ≡ false
  before m k [] h = refl
  before m k (x ∷ xs) h = by (is_a cs x.class c) (before (m + 1) k xs (omega (arith, h)))
    where
      by : (b : Bool) → list_any (nat_eq k) (extent_from cs c (m + 1) xs) ≡ false → list_any (nat_eq k) (cond b (m ∷ extent_from cs c (m + 1) xs) (extent_from cs c (m + 1) xs)) ≡ false
      by true rest = rw (differs k m (λ same. omega (arith, same, h))) rest
      by false rest = rest

  among : (m n : ℕ) (xs : List Object) (x : Object) → slice_get xs n ≡ Some x → list_any (nat_eq (m + n)) (extent_from cs c m xs) ≡ is_a cs x.class c
  among m n [] x e = cc
  among m zero (y ∷ ys) x e = by (is_a cs y.class c) refl
    where
      here : nat_eq (m + 0) m ≡ true
      here = eq-eqb (m + 0) m (omega arith)

      same : is_a cs y.class c ≡ is_a cs x.class c
      same = ap (λ (z : Object). is_a cs z.class c) (some_is e)

      by : (b : Bool) → is_a cs y.class c ≡ b → list_any (nat_eq (m + 0)) (cond b (m ∷ extent_from cs c (m + 1) ys) (extent_from cs c (m + 1) ys)) ≡ is_a cs x.class c
      by true is = rw here (sym is ∙ same)
      by false is = before (m + 1) (m + 0) ys (omega arith) ∙ sym is ∙ same
  among m (suc n) (y ∷ ys) x e =
      let at : (m + 1) + n ≡ m + suc n = omega arith in
      by (is_a cs y.class c) (subst (λ k. list_any (nat_eq k) (extent_from cs c (m + 1) ys) ≡ is_a cs x.class c) at (among (m + 1) n ys x e))
    where
      by : (b : Bool) → list_any (nat_eq (m + suc n)) (extent_from cs c (m + 1) ys) ≡ is_a cs x.class c → list_any (nat_eq (m + suc n)) (cond b (m ∷ extent_from cs c (m + 1) ys) (extent_from cs c (m + 1) ys)) ≡ is_a cs x.class c
      by true rest = rw (differs (m + suc n) m (λ same. omega (arith, same))) rest
      by false rest = rest

-- an object is among those of an extent where its class is the extent's or derives from it
pub in_extent : (o : Outline) (c n : ℕ) (x : Object) → slice_get (objects o) n ≡ Some x → list_any (nat_eq n) (extent o c) ≡ is_a o.classes x.class c
in_extent o c n x e = subst (λ k. list_any (nat_eq k) (extent o c) ≡ is_a o.classes x.class c) (omega arith) (among o.classes c 0 n (objects o) x e)

-- the class of an object, as it is told
pub class_told :
    (o : Outline) (n k : ℕ) (x : Object) → slice_get (objects o) n ≡ Some x
    → ((d : Object) → k ≡ (slice_index_or (objects o) n d).class) → k ≡ x.class
class_told o n k x e told =
    told x ∙ ap (λ (y : Object). y.class) (get_or_from_slice_get (objects o) n x x e)

-- Variables

abbrev variable : List ℕ → Resolved → Variable
variable name shape = record { name = name; shape = shape }

variable_is : (v : Variable) (name : List ℕ) (shape : Resolved) → name ≡ v.name → shape ≡ v.shape → Some v ≡ Some (variable name shape)
variable_is v name shape n s = ap (λ x. Some (variable x v.shape)) (sym n) ∙ ap (λ y. Some (variable name y)) (sym s)

-- a variable, as it is told
pub variable_told : (vs : List Variable) (k : ℕ) (name : List ℕ) (shape : Resolved) → k < length vs → ((d : Variable) → name ≡ (slice_index_or vs k d).name) → ((d : Variable) → shape ≡ (slice_index_or vs k d).shape) → slice_get vs k ≡ Some (record { name = name; shape = shape })
variable_told [] k name shape h n s = absurd (omega (arith, h))
variable_told (v ∷ vs) zero name shape h n s = variable_is v name shape (n v) (s v)
variable_told (v ∷ vs) (suc k) name shape h n s = variable_told vs k name shape (omega (arith, h)) n s

-- the variables of an object are those of its class
pub variables_are : (o : Outline) (n : ℕ) (x : Object) → slice_get (objects o) n ≡ Some x → variables_of o (Some n) ≡ attributes o.classes x.class
variables_are o n x e = ap (λ y. variables o (option_map (λ (z : Object). z.class) y)) e

-- the variables of an object that is given are those of its class, as the table and it are told
pub variables_told :
    (o t : Outline) (owner : Option ℕ) (n k : ℕ) → t ≡ o → owner ≡ Some n
    → IfSome owner (λ m. m < length (objects o))
    → ((d : Object) → k ≡ (slice_index_or (objects o) n d).class)
    → variables_of o owner ≡ attributes t.classes k
variables_told o t owner n k same is there told =
    let on : n < length (objects o) = subst (λ p. IfSome p (λ m. m < length (objects o))) is there in
    let x = item_at (objects o) n on in
    ap (variables_of o) is ∙ variables_are o n x.item x.has
    ∙ ap (attributes o.classes) (sym (class_told o n k x.item x.has told))
    ∙ ap (λ (y : Outline). attributes y.classes k) (sym same)
