-- What follows for each shape: how many parts an attribute has and of which class, and its cells.
use Rattle.std.proofs.Common.{◌≡◌, ℕ, zero, suc, ◌+◌, ◌<◌, nat_eq, Bool, true, false, ◌&&◌, cond, List, [], ◌∷◌, Option, None, Some, length, map, refl, ap, sym, ◌∙◌, subst, arith, eq-eqb}
use Rattle.std.specs.Prelude.{slice_get, option_and_then}
use Rattle.std.proofs.lemmas.List.{length-map}
use Rattle.std.proofs.lemmas.Option.{slice_get_within}
use Rattle.class_table.specs.declared.table.Resolved.{Resolved}
use Rattle.class_table.specs.declared.table.Resolved.TheVariants.{Span, Truth, Choice, One, Many, Ref, RefSet}
use Rattle.class_table.specs.declared.table.Variable.{Variable}
use Rattle.class_table.specs.Outline.{Outline}
use Rattle.class_table.specs.Sound.{IsSound, held_class}
use Rattle.object_alloc.specs.declared.object.Cell.{Cell}
use Rattle.object_alloc.specs.declared.object.Domain.{Domain}
use Rattle.object_alloc.specs.declared.object.Object.{Object}
use Rattle.object_alloc.specs.Cells.{cells, extent, domain_of, leaf_cells}
use Rattle.object_alloc.specs.Groups.{numbers_from, same_owner, is_part_of, parts_of, own_cells}
use Rattle.object_alloc.specs.Variables.{variables_of}
use Rattle.object_alloc.specs.Own.{inside_of, IsOwner, IsOwned, held, held_from, held_count, IsPartOf, HasOnePart, HasOneCell, HasMemberCells, member_cell}
use Rattle.object_alloc.specs.Parts.{IsPart}
use Rattle.object_alloc.specs.Held.{IsBefore}
use Rattle.object_alloc.specs.Walk.{Inside, object, leaf, objects}
use Rattle.object_alloc.proofs.HeldLaws.{object_held}
use Rattle.object_alloc.proofs.OwnLaws.{owned}

some_is : {X : Type 0} {a b : X} → Some a ≡ Some b → a ≡ b
some_is e = cc

-- Numbers, read one by one

-- the number at a place is that of the item there
pub record IsRead {X : Type 0} (read : ℕ → Option X) (xs : List X) (i n : ℕ) : Type 0 where
  pub item : X
  pub has : slice_get xs i ≡ Some item
  pub is : read n ≡ Some item

module _ {X : Type 0} (read : ℕ → Option X) where
  pub read_at : (ns : List ℕ) (xs : List X) (i n : ℕ) → map read ns ≡ map Some xs → slice_get ns i ≡ Some n → IsRead read xs i n
  read_at [] xs i n e g = cc
  read_at (m ∷ ms) [] i n e g = cc
  read_at (m ∷ ms) (x ∷ xs) zero n e g =
      let first : read m ≡ Some x = cc in
      let same : m ≡ n = some_is g in
      record { item = x; has = refl; is = ap read (sym same) ∙ first }
  read_at (m ∷ ms) (x ∷ xs) (suc i) n e g =
      let rest : map read ms ≡ map Some xs = cc in
      let r = read_at ms xs i n rest g in
      record { item = r.item; has = r.has; is = r.is }

  pub read_length : (ns : List ℕ) (xs : List X) → map read ns ≡ map Some xs → length ns ≡ length xs
  read_length ns xs e = sym (length-map ns read) ∙ ap length e ∙ length-map xs Some

  -- one number
  pub record IsSingle (ns : List ℕ) (x : X) : Type 0 where
    pub number : ℕ
    pub are : ns ≡ number ∷ []
    pub is : read number ≡ Some x

  pub read_single : (ns : List ℕ) (x : X) → map read ns ≡ Some x ∷ [] → IsSingle ns x
  read_single [] x e = cc
  read_single (n ∷ []) x e = record { number = n; are = refl; is = cc }
  read_single (n ∷ m ∷ ns) x e = cc

  pub read_none : (ns : List ℕ) → map read ns ≡ [] → ns ≡ []
  read_none [] e = refl
  read_none (n ∷ ns) e = cc

-- the number of an item that passes is among the numbers
number_there : {X : Type 0} (test : X → Bool) (s : ℕ) (xs : List X) (n : ℕ) (x : X) → slice_get xs n ≡ Some x → test x ≡ true → (j : ℕ) × (slice_get (numbers_from test s xs) j ≡ Some (s + n))
number_there test s [] n x g e = cc
number_there test s (y ∷ ys) zero x g e =
    let here : test y ≡ true = ap test (some_is g) ∙ e in
    let at : s ≡ s + 0 = omega arith in
    (0, ap (λ b. slice_get (cond b (s ∷ numbers_from test (suc s) ys) (numbers_from test (suc s) ys)) 0) here ∙ ap Some at)
number_there test s (y ∷ ys) (suc n) x g e =
    let r = number_there test (suc s) ys n x g e in
    let at : suc s + n ≡ s + suc n = omega arith in
    by (test y) r.0 (r.1 ∙ ap Some at)
  where
    by : (b : Bool) (j : ℕ) → slice_get (numbers_from test (suc s) ys) j ≡ Some (s + suc n) → (j : ℕ) × (slice_get (cond b (s ∷ numbers_from test (suc s) ys) (numbers_from test (suc s) ys)) j ≡ Some (s + suc n))
    by true j h = (suc j, h)
    by false j h = (j, h)

-- The objects that a shape holds

-- what an object of these is
pub record IsHeldAs (w : Inside) (k c i : ℕ) (x : Object) : Type 0 where
  pub class_is : x.class ≡ c
  pub is : IsPart w.owner k i x

elements_held : (w : Inside) (k c m i j : ℕ) (x : Object) → slice_get (held_from w k c m i) j ≡ Some x → IsHeldAs w k c (i + j) x
elements_held w k c zero i j x g = cc
elements_held w k c (suc m) i zero x g =
    let same : object w k c i ≡ x = some_is g in
    let at : i ≡ i + 0 = omega arith in
    subst (IsHeldAs w k c (i + 0)) same (record { class_is = refl; is = (refl, refl, at) })
elements_held w k c (suc m) i (suc j) x g =
    let at : i + 1 + j ≡ i + suc j = omega arith in
    subst (λ e. IsHeldAs w k c e x) at (elements_held w k c m (i + 1) j x g)

held_is : (w : Inside) (k : ℕ) (s : Resolved) (c i : ℕ) (x : Object) → held_class s ≡ Some c → slice_get (held w k s) i ≡ Some x → IsHeldAs w k c i x
held_is w k (One d) c zero x h g =
    let same : object w k d 0 ≡ x = some_is g in
    subst (IsHeldAs w k c 0) same (record { class_is = some_is h; is = (refl, refl, refl) })
held_is w k (One d) c (suc i) x h g = cc
held_is w k (Many d m) c i x h g =
    let at : 0 + i ≡ i = omega arith in
    subst (λ b. IsHeldAs w k b i x) (some_is h) (subst (λ e. IsHeldAs w k d e x) at (elements_held w k d m 0 i x g))
held_is w k (Span low high) c i x h g = cc
held_is w k Truth c i x h g = cc
held_is w k (Choice e) c i x h g = cc
held_is w k (Ref d) c i x h g = cc
held_is w k (RefSet d m) c i x h g = cc

-- an object of these is held by the owner, as the element of its place
held_element : (w : Inside) (k : ℕ) (s : Resolved) (i : ℕ) (x : Object) → slice_get (held w k s) i ≡ Some x → x.element ≡ i
held_element w k (One d) zero x g = ap (λ (y : Object). y.element) (sym (some_is g))
held_element w k (One d) (suc i) x g = cc
held_element w k (Many d m) i x g = let h = elements_held w k d m 0 i x g in let at : 0 + i ≡ i = omega arith in h.is.2 ∙ at
held_element w k (Span low high) i x g = cc
held_element w k Truth i x g = cc
held_element w k (Choice e) i x g = cc
held_element w k (Ref d) i x g = cc
held_element w k (RefSet d m) i x g = cc

elements_count : (w : Inside) (k c m i : ℕ) → length (held_from w k c m i) ≡ m
elements_count w k c zero i = refl
elements_count w k c (suc m) i = ap suc (elements_count w k c m (i + 1))

count_held : (w : Inside) (k : ℕ) (s : Resolved) → length (held w k s) ≡ held_count s
count_held w k (One c) = refl
count_held w k (Many c m) = elements_count w k c m 0
count_held w k (Span low high) = refl
count_held w k Truth = refl
count_held w k (Choice e) = refl
count_held w k (Ref c) = refl
count_held w k (RefSet c m) = refl

none_held : (w : Inside) (k : ℕ) (s : Resolved) → held_class s ≡ None → held w k s ≡ []
none_held w k (One c) e = cc
none_held w k (Many c m) e = cc
none_held w k (Span low high) e = refl
none_held w k Truth e = refl
none_held w k (Choice x) e = refl
none_held w k (Ref c) e = refl
none_held w k (RefSet c m) e = refl

abbrev pub cell_of : Inside → ℕ → Domain → Cell
cell_of w k values = record { owner = w.owner; attribute = k; element = None; domain = values }

one_of : (o : Outline) (w : Inside) (k : ℕ) (s : Resolved) (d : Domain) → domain_of o s ≡ Some d → leaf_cells o (leaf w k s) ≡ cell_of w k d ∷ []
one_of o w k (Span low high) d e = ap (λ values. cell_of w k values ∷ []) (some_is e)
one_of o w k Truth d e = ap (λ values. cell_of w k values ∷ []) (some_is e)
one_of o w k (Choice x) d e = ap (λ values. cell_of w k values ∷ []) (some_is e)
one_of o w k (Ref c) d e = ap (λ values. cell_of w k values ∷ []) (some_is e)
one_of o w k (RefSet c m) d e = cc
one_of o w k (One c) d e = cc
one_of o w k (Many c m) d e = cc

none_of : (o : Outline) (w : Inside) (k : ℕ) (s : Resolved) (c : ℕ) → held_class s ≡ Some c → leaf_cells o (leaf w k s) ≡ []
none_of o w k (Span low high) c e = cc
none_of o w k Truth c e = cc
none_of o w k (Choice x) c e = cc
none_of o w k (Ref d) c e = cc
none_of o w k (RefSet d m) c e = cc
none_of o w k (One d) c e = refl
none_of o w k (Many d m) c e = refl

module _ (o : Outline) (sound : IsSound o) (owner : Option ℕ) (k : ℕ) (v : Variable) (there : IsOwner o owner) (has : slice_get (variables_of o owner) k ≡ Some v) where
  own : IsOwned o owner k v.shape
  own = owned o sound owner k v there has

  -- as many parts as the shape says
  pub parts_count : length (parts_of o owner k) ≡ held_count v.shape
  parts_count = read_length (slice_get (objects o)) (parts_of o owner k) (held (inside_of o owner) k v.shape) own.parts ∙ count_held (inside_of o owner) k v.shape

  -- the part at a place is the element of this number
  pub part_is : (c i n : ℕ) → held_class v.shape ≡ Some c → slice_get (parts_of o owner k) i ≡ Some n → IsPartOf o owner k i c n
  part_is c i n h g =
      let r = read_at (slice_get (objects o)) (parts_of o owner k) (held (inside_of o owner) k v.shape) i n own.parts g in
      let x = held_is (inside_of o owner) k v.shape c i r.item h r.has in
      record { object = r.item; has = r.is; there = slice_get_within (objects o) n r.item r.is; class_is = x.class_is; is = x.is }

  pub no_parts : held_class v.shape ≡ None → parts_of o owner k ≡ []
  no_parts e = read_none (slice_get (objects o)) (parts_of o owner k) (own.parts ∙ ap (map Some) (none_held (inside_of o owner) k v.shape e))

  -- one object
  pub one_part : (c : ℕ) → v.shape ≡ One c → HasOnePart o owner k c
  one_part c e =
      let parts : map (slice_get (objects o)) (parts_of o owner k) ≡ Some (object (inside_of o owner) k c 0) ∷ [] = own.parts ∙ ap (λ s. map Some (held (inside_of o owner) k s)) e in
      let r = read_single (slice_get (objects o)) (parts_of o owner k) (object (inside_of o owner) k c 0) parts in
      record {
        number = r.number;
        parts = r.are;
        is = record { object = object (inside_of o owner) k c 0; has = r.is; there = slice_get_within (objects o) r.number (object (inside_of o owner) k c 0) r.is; class_is = refl; is = (refl, refl, refl) };
      }

  -- one cell, with the values of the shape
  pub one_cell : (values : Domain) → domain_of o v.shape ≡ Some values → HasOneCell o owner k values
  one_cell values e =
      let w = inside_of o owner in
      let r = read_single (slice_get (cells o)) (own_cells o owner k) (cell_of w k values) (own.cells ∙ ap (map Some) (one_of o w k v.shape values e)) in
      record { number = r.number; own = r.are; is = r.is }

  -- what holds objects has no cell
  pub no_cells : (c : ℕ) → held_class v.shape ≡ Some c → own_cells o owner k ≡ []
  no_cells c e = read_none (slice_get (cells o)) (own_cells o owner k) (own.cells ∙ ap (map Some) (none_of o (inside_of o owner) k v.shape c e))

  -- a cell for each object of the extent
  pub member_cells_are : (c m : ℕ) → v.shape ≡ RefSet c m → HasMemberCells o owner k c
  member_cells_are c m e = subst (λ s. map (slice_get (cells o)) (own_cells o owner k) ≡ map Some (leaf_cells o (leaf (inside_of o owner) k s))) e own.cells

  pub member_count : (c m : ℕ) → v.shape ≡ RefSet c m → length (own_cells o owner k) ≡ length (extent o c)
  member_count c m e = read_length (slice_get (cells o)) (own_cells o owner k) (map (member_cell owner k) (extent o c)) (member_cells_are c m e) ∙ length-map (extent o c) (member_cell owner k)

  -- the cells' objects are those of the extent, in order
  pub members_are : (c m : ℕ) → v.shape ≡ RefSet c m → map (λ i. option_and_then (λ (x : Cell). x.element) (slice_get (cells o) i)) (own_cells o owner k) ≡ map Some (extent o c)
  members_are c m e = elements (own_cells o owner k) (extent o c) (member_cells_are c m e)
    where
      elements : (is ns : List ℕ) → map (slice_get (cells o)) is ≡ map Some (map (member_cell owner k) ns) → map (λ i. option_and_then (λ (x : Cell). x.element) (slice_get (cells o) i)) is ≡ map Some ns
      elements [] [] h = refl
      elements [] (n ∷ ns) h = cc
      elements (i ∷ is) [] h = cc
      elements (i ∷ is) (n ∷ ns) h =
          let first : slice_get (cells o) i ≡ Some (member_cell owner k n) = cc in
          let rest : map (slice_get (cells o)) is ≡ map Some (map (member_cell owner k) ns) = cc in
          ap (λ (x : Option Cell). option_and_then (λ (y : Cell). y.element) x ∷ map (λ i. option_and_then (λ (x : Cell). x.element) (slice_get (cells o) i)) is) first ∙ ap (λ (xs : List (Option ℕ)). Some n ∷ xs) (elements is ns rest)

  -- the cell at a place says whether the object at that place of the extent is a member
  pub member_at : (c m j i : ℕ) → v.shape ≡ RefSet c m → slice_get (own_cells o owner k) j ≡ Some i → (n : ℕ) × (slice_get (extent o c) j ≡ Some n) × (slice_get (cells o) i ≡ Some (member_cell owner k n))
  member_at c m j i e g =
      let r = read_at (slice_get (cells o)) (own_cells o owner k) (map (member_cell owner k) (extent o c)) j i (member_cells_are c m e) g in
      by (extent o c) j r.item r.has r.is
    where
      by : (ns : List ℕ) (j : ℕ) (x : Cell) → slice_get (map (member_cell owner k) ns) j ≡ Some x → slice_get (cells o) i ≡ Some x → (n : ℕ) × (slice_get ns j ≡ Some n) × (slice_get (cells o) i ≡ Some (member_cell owner k n))
      by [] j x h r = cc
      by (n ∷ ns) zero x h r = (n, refl, r ∙ sym h)
      by (n ∷ ns) (suc j) x h r = by ns j x h r

-- An object's place

module _ (o : Outline) (sound : IsSound o) where
  before_there : (owner : Option ℕ) (n : ℕ) → IsBefore owner n → n < length (objects o) → IsOwner o owner
  before_there None n h lt = tt
  before_there (Some p) n h lt = omega arith

  part_passes : (owner : Option ℕ) (k i : ℕ) (x : Object) → IsPart owner k i x → is_part_of owner k x ≡ true
  part_passes owner k i x p = ap (λ b. b && nat_eq k x.attribute) (ap (same_owner owner) p.0 ∙ itself owner) ∙ eq-eqb k x.attribute (sym p.1)
    where
      itself : (w : Option ℕ) → same_owner w w ≡ true
      itself None = refl
      itself (Some n) = eq-eqb n n refl

  -- an object stands among its owner's parts at the place that its element says
  pub part_place : (owner : Option ℕ) (k i n : ℕ) (x : Object) → slice_get (objects o) n ≡ Some x → IsPart owner k i x → slice_get (parts_of o owner k) i ≡ Some n
  part_place owner k i n x g p =
      let h = object_held o n x g in
      let same = p.0 in
      let there : IsOwner o owner = before_there owner n (subst (λ w. IsBefore w n) p.0 h.owner) (slice_get_within (objects o) n x g) in
      let has : slice_get (variables_of o owner) k ≡ Some h.variable = ap (λ w. slice_get (variables_of o w) k) (sym p.0) ∙ ap (slice_get (variables_of o x.owner)) (sym p.1) ∙ h.has in
      let at = number_there (is_part_of owner k) 0 (objects o) n x g (part_passes owner k i x p) in
      let zero_n : 0 + n ≡ n = omega arith in
      let r = read_at (slice_get (objects o)) (parts_of o owner k) (held (inside_of o owner) k h.variable.shape) at.0 n (owned o sound owner k h.variable there has).parts (at.1 ∙ ap Some zero_n) in
      let item : x ≡ r.item = some_is (sym g ∙ r.is) in
      let place : at.0 ≡ i = sym (held_element (inside_of o owner) k h.variable.shape at.0 r.item r.has) ∙ ap (λ (y : Object). y.element) (sym item) ∙ p.2 in
      subst (λ j. slice_get (parts_of o owner k) j ≡ Some n) place (at.1 ∙ ap Some zero_n)

  -- at most one object is this element of this attribute of this owner
  pub same_part : (owner : Option ℕ) (k i n m : ℕ) (x y : Object) → slice_get (objects o) n ≡ Some x → slice_get (objects o) m ≡ Some y → IsPart owner k i x → IsPart owner k i y → n ≡ m
  same_part owner k i n m x y g h p q = some_is (sym (part_place owner k i n x g p) ∙ part_place owner k i m y h q)
