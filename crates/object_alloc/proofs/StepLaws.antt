-- The steps of paths, by the names of variables and the numbers of elements.
use Rattle.std.proofs.Common.{◌≡◌, ℕ, zero, suc, ◌+◌, ◌<◌, ◌≤◌, ◌^◌, Bool, true, false, cond, List, [], ◌∷◌, ◌++◌, Option, None, Some, length, map, take, drop, get_or, refl, ap, sym, ◌∙◌, subst, arith, append-nil, append_assoc, true≢false, decimal}
use Rattle.std.specs.Prelude.{All, IfSome, Contains, slice_get, slice_index_or, position, codes}
use Rattle.std.specs.Cmp.Lexicographic.{bytes_decides}
use Rattle.std.specs.List.{list_any, position_from}
use Rattle.std.specs.Option.{option_map, option_map_or}
use Rattle.std.proofs.lemmas.Bool.{and_parts, or_parts}
use Rattle.std.proofs.lemmas.List.Quantifiers.{position-Some}
use Rattle.std.proofs.lemmas.Option.{slice_get_within}
use Rattle.std.proofs.lemmas.Fmt.{decimal_injective}
use Rattle.std.proofs.lemmas.Iterator.Adapters.{position_from-zero}
use Rattle.class_table.specs.declared.table.Resolved.{Resolved}
use Rattle.class_table.specs.declared.table.Resolved.TheVariants.{Span, Truth, Choice, One, Many, Ref, RefSet}
use Rattle.class_table.specs.declared.table.Variable.{Variable}
use Rattle.class_table.specs.Names.{means}
use Rattle.class_table.specs.Outline.{Outline, attributes, variable_name}
use Rattle.class_table.specs.Same.{same_name}
use Rattle.class_table.specs.Sound.{IsSound}
use Rattle.class_table.specs.Tables.{all_differ, root_meant, IsShapeOf}
use Rattle.object_alloc.specs.declared.object.Object.{Object}
use Rattle.object_alloc.specs.Groups.{numbers_from, is_part_of, parts_of}
use Rattle.object_alloc.specs.Variables.{class_in, variables_of, variables}
use Rattle.class_table.specs.Named.{IsNamed, IsPlain, lacks, dot, bracket}
use Rattle.object_alloc.specs.Named.{IsStep, HasName, first_place}
use Rattle.object_alloc.specs.Parts.{IsElement, IsPart}
use Rattle.object_alloc.specs.Paths.{index_text, step_text}
use Rattle.object_alloc.specs.Held.{HoldsAt}
use Rattle.object_alloc.specs.Walk.{objects}
use Rattle.object_alloc.proofs.Digits.{lacks_decimal}
use Rattle.object_alloc.proofs.HeldLaws.{object_held}
use Rattle.object_alloc.proofs.OwnParts.{part_place}
use Rattle.object_alloc.proofs.ShapeLaws.{shapes, root_shapes}
use Rattle.object_alloc.proofs.PlaceLaws.{place_behind, take_front, drop_front, lacks_append, same_front}

-- Variables by their names

same_is : (a b : List ℕ) → same_name a b ≡ true → a ≡ b
same_is a b e = (bytes_decides a b).0 e

is_same : (a b : List ℕ) → a ≡ b → same_name a b ≡ true
is_same a b e = (bytes_decides a b).1 e

get_mapped : (vs : List Variable) (k : ℕ) (d : List ℕ) → k < length (map variable_name vs) → HasName vs (get_or (map variable_name vs) k d) k
get_mapped [] k d h = absurd (omega arith)
get_mapped (v ∷ vs) zero d h = record { variable = v; has = refl; name_is = refl }
get_mapped (v ∷ vs) (suc k) d h = let r = get_mapped vs k d (omega (arith, h)) in record { variable = r.variable; has = r.has; name_is = r.name_is }

-- the variable that a search finds has the name
pub name_found : (vs : List Variable) (name : List ℕ) (r : Option ℕ) → r ≡ position (same_name name) (map variable_name vs) → IfSome r (HasName vs name)
name_found vs name None e = tt
name_found vs name (Some k) e =
    let p = position-Some (same_name name) (map variable_name vs) k [] (sym e) in
    subst (λ w. HasName vs w k) (sym (same_is name (get_or (map variable_name vs) k []) p.1)) (get_mapped vs k [] p.0)

any_front : (p : List ℕ → Bool) (xs ys : List (List ℕ)) → list_any p (xs ++ ys) ≡ false → list_any p xs ≡ false
any_front p [] ys h = refl
any_front p (x ∷ xs) ys h = let r = or_parts (p x) (list_any p (xs ++ ys)) h in rw (r.0) (any_front p xs ys r.1)

any_back : (p : List ℕ → Bool) (xs ys : List (List ℕ)) → list_any p (xs ++ ys) ≡ false → list_any p ys ≡ false
any_back p [] ys h = h
any_back p (x ∷ xs) ys h = let r = or_parts (p x) (list_any p (xs ++ ys)) h in any_back p xs ys r.1

-- a name isn't one of those before it
name_new : (xs seen : List (List ℕ)) (k : ℕ) (w : List ℕ) → all_differ xs seen ≡ true → slice_get xs k ≡ Some w → list_any (same_name w) (seen ++ take k xs) ≡ false
name_new [] seen k w d g = cc
name_new (x ∷ xs) seen zero w d g = by (list_any (same_name x) seen) refl d
  where
    same : x ≡ w
    same = cc

    by : (b : Bool) → list_any (same_name x) seen ≡ b → cond b false (all_differ xs (seen ++ x ∷ [])) ≡ true → list_any (same_name w) (seen ++ []) ≡ false
    by true e h = absurd (true≢false (sym h))
    by false e h = ap (list_any (same_name w)) (append-nil seen) ∙ ap (λ y. list_any (same_name y) seen) (sym same) ∙ e
name_new (x ∷ xs) seen (suc k) w d g = ap (list_any (same_name w)) (sym (append_assoc seen (x ∷ []) (take k xs))) ∙ name_new xs (seen ++ x ∷ []) k w (by (list_any (same_name x) seen) d) g
  where
    by : (b : Bool) → cond b false (all_differ xs (seen ++ x ∷ [])) ≡ true → all_differ xs (seen ++ x ∷ []) ≡ true
    by true h = absurd (true≢false (sym h))
    by false h = h

first_from : (p : List ℕ → Bool) (xs : List (List ℕ)) (i k : ℕ) (w : List ℕ) → list_any p (take k xs) ≡ false → slice_get xs k ≡ Some w → p w ≡ true → position_from p i xs ≡ Some (i + k)
first_from p [] i k w n g e = cc
first_from p (x ∷ xs) i zero w n g e =
    let same : x ≡ w = cc in
    let here : p x ≡ true = ap p same ∙ e in
    let at : i ≡ i + 0 = omega arith in
    rw here (ap (λ j. Some j) at)
first_from p (x ∷ xs) i (suc k) w n g e =
    let r = or_parts (p x) (list_any p (take k xs)) n in
    let at : (i + 1) + k ≡ i + suc k = omega arith in
    rw (r.0) (first_from p xs (i + 1) k w r.1 g e ∙ ap (λ j. Some j) at)

get_map : (vs : List Variable) (k : ℕ) (v : Variable) → slice_get vs k ≡ Some v → slice_get (map variable_name vs) k ≡ Some v.name
get_map [] k v g = cc
get_map (u ∷ us) zero v g = ap (λ (x : Option Variable). option_map_or (λ (y : Variable). Some y.name) x None) g
get_map (u ∷ us) (suc k) v g = get_map us k v g

-- where names differ, the variable of this name is the one that a search finds
pub name_finds : (vs : List Variable) (name : List ℕ) (k : ℕ) → all_differ (map variable_name vs) [] ≡ true → HasName vs name k → position (same_name name) (map variable_name vs) ≡ Some k
name_finds vs name k d h =
    let names = map variable_name vs in
    let there : slice_get names k ≡ Some h.variable.name = get_map vs k h.variable h.has in
    let new = name_new names [] k h.variable.name d there in
    let at : 0 + k ≡ k = omega arith in
    position_from-zero (same_name name) names ∙ first_from (same_name name) names 0 k h.variable.name (ap (λ w. list_any (same_name w) (take k names)) (sym h.name_is) ∙ new) there (is_same name h.variable.name (sym h.name_is)) ∙ ap (λ j. Some j) at

pub root_found : (o : Outline) (name : List ℕ) (k : ℕ) → IsNamed o → HasName o.roots name k → root_meant (means o.names name) ≡ Some k
root_found o name k named h = ap (λ w. root_meant (means o.names w)) (sym h.name_is) ∙ ap root_meant (named.meant k h.variable h.has)

-- Steps

index_lacks : (s : Resolved) (i : ℕ) → i < 2 ^ 32 → lacks dot (index_text s i) ≡ true
index_lacks (Many c m) i h = lacks_append dot (decimal i) (93 ∷ []) (lacks_decimal dot i (omega arith) refl) refl
index_lacks (One c) i h = refl
index_lacks (Span low high) i h = refl
index_lacks Truth i h = refl
index_lacks (Choice e) i h = refl
index_lacks (Ref c) i h = refl
index_lacks (RefSet c m) i h = refl

-- an index begins with a bracket
index_place : (s : Resolved) (i : ℕ) → first_place bracket (index_text s i) ≡ 0
index_place (Many c m) i = refl
index_place (One c) i = refl
index_place (Span low high) i = refl
index_place Truth i = refl
index_place (Choice e) i = refl
index_place (Ref c) i = refl
index_place (RefSet c m) i = refl

pub one_index : (i j : ℕ) → i < 2 ^ 32 → j < 2 ^ 32 → codes "[" ++ decimal i ++ codes "]" ≡ codes "[" ++ decimal j ++ codes "]" → i ≡ j
one_index i j hi hj e =
    let inner : decimal i ++ 93 ∷ [] ≡ decimal j ++ 93 ∷ [] = ap (drop 1) e in
    decimal_injective i j (omega arith) (omega arith) (same_front 93 (decimal i) (decimal j) inner)

numbers_few : {X : Type 0} (test : X → Bool) (n : ℕ) (xs : List X) → length (numbers_from test n xs) ≤ length xs
numbers_few test n [] = omega arith
numbers_few test n (x ∷ xs) = by (test x) (numbers_few test (suc n) xs)
  where
    by : (b : Bool) → length (numbers_from test (suc n) xs) ≤ length xs → length (cond b (n ∷ numbers_from test (suc n) xs) (numbers_from test (suc n) xs)) ≤ suc (length xs)
    by true h = omega arith
    by false h = omega arith

element_of : (s : Resolved) (c i : ℕ) → HoldsAt s c i → IsElement s i
element_of (One d) c i h = h.1
element_of (Many d m) c i h = h.1
element_of (Span low high) c i h = absurd h
element_of Truth c i h = absurd h
element_of (Choice e) c i h = absurd h
element_of (Ref d) c i h = absurd h
element_of (RefSet d m) c i h = absurd h

-- what a step names: variable k of the owner, and its element i
pub record IsNaming (o : Outline) (owner : Option ℕ) (text : List ℕ) (n : ℕ) : Type 0 where
  pub object : Object
  pub has : slice_get (objects o) n ≡ Some object
  pub k : ℕ
  pub i : ℕ
  pub variable : Variable
  pub variable_is : slice_get (variables_of o owner) k ≡ Some variable
  pub part : IsPart owner k i object
  pub element : IsElement variable.shape i
  pub small : i < 2 ^ 32
  pub text_is : variable.name ++ index_text variable.shape i ≡ text

all_at : (vs : List Variable) (k : ℕ) (v : Variable) → All IsPlain vs → slice_get vs k ≡ Some v → IsPlain v
all_at vs k v all g = subst IsPlain (at vs k g) (all k v (slice_get_within vs k v g))
  where
    at : (vs : List Variable) (k : ℕ) → slice_get vs k ≡ Some v → slice_index_or vs k v ≡ v
    at [] k g = cc
    at (u ∷ us) zero g = cc
    at (u ∷ us) (suc k) g = at us k g

plain_of : (o : Outline) → IsNamed o → (class : Option ℕ) (k : ℕ) (v : Variable) → slice_get (variables o class) k ≡ Some v → IsPlain v
plain_of o named None k v g = all_at o.roots k v named.roots g
plain_of o named (Some c) k v g = all_at (attributes o.classes c) k v (named.attributes c) g

module _ (o : Outline) (sound : IsSound o) (few : length (objects o) < 2 ^ 32) where
  pub naming : (owner : Option ℕ) (text : List ℕ) (n : ℕ) → IsStep o owner text n → IsNaming o owner text n
  naming owner text n s =
      let x = s.object in
      let h = object_held o n x s.has in
      let is : slice_get (variables_of o owner) x.attribute ≡ Some h.variable = ap (λ w. slice_get (variables_of o w) x.attribute) (sym s.owner_is) ∙ h.has in
      let part : IsPart owner x.attribute x.element x = (s.owner_is, refl, refl) in
      let place = part_place o sound owner x.attribute x.element n x s.has part in
      record {
        object = x;
        has = s.has;
        k = x.attribute;
        i = x.element;
        variable = h.variable;
        variable_is = is;
        part = part;
        element = element_of h.variable.shape x.class x.element h.holds;
        small = omega (arith, few, slice_get_within (parts_of o owner x.attribute) x.element n place, numbers_few (is_part_of owner x.attribute) 0 (objects o));
        text_is = ap (λ v. option_map_or (λ (u : Variable). step_text u x.element) v []) (sym is) ∙ s.text_is;
      }

  -- the element i of the variable k is a step
  pub step_made : (owner : Option ℕ) (k i n : ℕ) (v : Variable) (x : Object) (text : List ℕ) → slice_get (variables_of o owner) k ≡ Some v → slice_get (objects o) n ≡ Some x → IsPart owner k i x → v.name ++ index_text v.shape i ≡ text → IsStep o owner text n
  step_made owner k i n v x text is has p e =
      record {
        object = x;
        has = has;
        owner_is = p.0;
        text_is =
            ap (λ j. option_map_or (λ (u : Variable). step_text u x.element) (slice_get (variables_of o owner) j) []) p.1
            ∙ ap (λ j. option_map_or (λ (u : Variable). step_text u j) (slice_get (variables_of o owner) k) []) p.2
            ∙ ap (λ u. option_map_or (λ (u : Variable). step_text u i) u []) is
            ∙ e;
      }

  module _ (named : IsNamed o) where
    -- a step has no dot
    pub step_lacks : (owner : Option ℕ) (text : List ℕ) (n : ℕ) → IsStep o owner text n → lacks dot text ≡ true
    step_lacks owner text n s =
        let r = naming owner text n s in
        let plain = and_parts (lacks dot r.variable.name) (lacks bracket r.variable.name) (plain_of o named (class_in (objects o) owner) r.k r.variable r.variable_is) in
        ap (lacks dot) (sym r.text_is) ∙ lacks_append dot r.variable.name (index_text r.variable.shape r.i) plain.0 (index_lacks r.variable.shape r.i r.small)

    -- the name and the index are what stands before and behind the bracket
    pub record IsCut (owner : Option ℕ) (text : List ℕ) (n : ℕ) : Type 0 where
      pub naming : IsNaming o owner text n
      pub name : take (first_place bracket text) text ≡ naming.variable.name
      pub index : drop (first_place bracket text) text ≡ index_text naming.variable.shape naming.i

    pub step_cut : (owner : Option ℕ) (text : List ℕ) (n : ℕ) → IsStep o owner text n → IsCut owner text n
    step_cut owner text n s =
        let r = naming owner text n s in
        let name = r.variable.name in
        let index = index_text r.variable.shape r.i in
        let plain = and_parts (lacks dot name) (lacks bracket name) (plain_of o named (class_in (objects o) owner) r.k r.variable r.variable_is) in
        let behind = place_behind bracket name index plain.1 in
        let none = index_place r.variable.shape r.i in
        let place : first_place bracket text ≡ length name = ap (first_place bracket) (sym r.text_is) ∙ behind ∙ omega (arith, none) in
        record {
          naming = r;
          name = ap (λ j. take j text) place ∙ ap (take (length name)) (sym r.text_is) ∙ take_front name index;
          index = ap (λ j. drop j text) place ∙ ap (drop (length name)) (sym r.text_is) ∙ drop_front name index;
        }

-- Objects' classes and variables, as they are read

shape_class : (m e : ℕ) (s : Resolved) (c i : ℕ) → IsShapeOf m e s → HoldsAt s c i → c < m
shape_class m e (One d) c i h g = omega (arith, h, g.0)
shape_class m e (Many d n) c i h g = omega (arith, h, g.0)
shape_class m e (Span low high) c i h g = absurd g
shape_class m e Truth c i h g = absurd g
shape_class m e (Choice x) c i h g = absurd g
shape_class m e (Ref d) c i h g = absurd g
shape_class m e (RefSet d n) c i h g = absurd g

in_list : (vs : List Variable) (j : ℕ) (v : Variable) → slice_get vs j ≡ Some v → Contains vs v
in_list [] j v g = cc
in_list (u ∷ us) zero v g = (0, omega arith, cc)
in_list (u ∷ us) (suc j) v g = let h = in_list us j v g in (suc h.0, omega (arith, h.1), h.2)

shape_of : (o : Outline) → IsSound o → (class : Option ℕ) (k : ℕ) (v : Variable) → slice_get (variables o class) k ≡ Some v → IsShapeOf (length o.classes) (length o.enumerations) v.shape
shape_of o sound None k v g = root_shapes o sound v (in_list o.roots k v g)
shape_of o sound (Some c) k v g = shapes o sound c v (in_list (attributes o.classes c) k v g)

-- the object at a place
pub record IsAt (xs : List Object) (n : ℕ) : Type 0 where
  pub object : Object
  pub has : slice_get xs n ≡ Some object
  pub read : (d : Object) → slice_index_or xs n d ≡ object

pub at : (xs : List Object) (n : ℕ) → n < length xs → IsAt xs n
at [] n h = absurd (omega (arith, h))
at (x ∷ xs) zero h = record { object = x; has = refl; read = λ d. refl }
at (x ∷ xs) (suc n) h = let r = at xs n (omega (arith, h)) in record { object = r.object; has = r.has; read = r.read }

-- the variable at a place
pub record IsVariable (vs : List Variable) (k : ℕ) : Type 0 where
  pub variable : Variable
  pub has : slice_get vs k ≡ Some variable
  pub read : (d : Variable) → slice_index_or vs k d ≡ variable

pub variable_at : (vs : List Variable) (k : ℕ) → k < length vs → IsVariable vs k
variable_at [] n h = absurd (omega (arith, h))
variable_at (x ∷ xs) zero h = record { variable = x; has = refl; read = λ d. refl }
variable_at (x ∷ xs) (suc n) h = let r = variable_at xs n (omega (arith, h)) in record { variable = r.variable; has = r.has; read = r.read }

module _ (o : Outline) (n r : ℕ) (there : n < length (objects o)) (read : (d : Object) → r ≡ (slice_index_or (objects o) n d).class) where
  pub class_low : IsSound o → r < length o.classes
  class_low sound =
      let x = at (objects o) n there in
      let h = object_held o n x.object x.has in
      let low = shape_class (length o.classes) (length o.enumerations) h.variable.shape x.object.class x.object.element (shape_of o sound (class_in (objects o) x.object.owner) x.object.attribute h.variable h.has) h.holds in
      omega (arith, low, read x.object, ap (λ (y : Object). y.class) (x.read x.object))

  pub variables_in : variables_of o (Some n) ≡ attributes o.classes r
  variables_in =
      let x = at (objects o) n there in
      ap (λ y. variables o (option_map (λ (z : Object). z.class) y)) x.has ∙ ap (attributes o.classes) (sym (read x.object ∙ ap (λ (y : Object). y.class) (x.read x.object)))

-- a variable of which the name was read
pub name_read : (vs : List Variable) (k : ℕ) (w name : List ℕ) → k < length vs → ((d : Variable) → w ≡ (slice_index_or vs k d).name) → w ≡ name → HasName vs name k
name_read vs k w name h read e =
    let v = variable_at vs k h in
    record { variable = v.variable; has = v.has; name_is = ap (λ (x : Variable). x.name) (sym (v.read v.variable)) ∙ sym (read v.variable) ∙ e }

pub name_is_read : (vs : List Variable) (k : ℕ) (w name : List ℕ) → ((d : Variable) → w ≡ (slice_index_or vs k d).name) → HasName vs name k → w ≡ name
name_is_read vs k w name read h =
    let v = variable_at vs k (slice_get_within vs k h.variable h.has) in
    let same : v.variable ≡ h.variable = cc in
    read v.variable ∙ ap (λ (x : Variable). x.name) (v.read v.variable ∙ same) ∙ h.name_is
