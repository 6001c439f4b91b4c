-- Each number in an outline is that of a class, an enumeration or a variable.
use Rattle.std.proofs.Common.{◌≡◌, ℕ, zero, suc, ◌+◌, ◌<◌, ◌≤◌, Bool, true, false, cond, List, [], ◌∷◌, ◌++◌, Option, None, Some, length, map, get_or, ap, sym, ◌∙◌, subst, arith}
use Rattle.std.specs.Option.{option_map_or}
use Rattle.conf_syntax.specs.declared.tree.ClassDecl.{ClassDecl}
use Rattle.conf_syntax.specs.declared.tree.Item.{Item}
use Rattle.conf_syntax.specs.declared.tree.Item.TheVariants as item
use Rattle.conf_syntax.specs.declared.tree.Shape.{Shape}
use Rattle.conf_syntax.specs.declared.tree.Shape.TheVariants as shape
use Rattle.conf_syntax.specs.declared.tree.VarDecl.{VarDecl}
use Rattle.class_table.specs.declared.names.NameMeaning.{NameMeaning}
use Rattle.class_table.specs.declared.names.NameMeaning.TheVariants as meaning
use Rattle.class_table.specs.declared.table.Class.{Class}
use Rattle.class_table.specs.declared.table.Enumeration.{Enumeration}
use Rattle.class_table.specs.declared.table.Resolved.{Resolved}
use Rattle.class_table.specs.declared.table.Variable.{Variable}
use Rattle.class_table.specs.Ancestry.{derives_from_itself, attributes_within}
use Rattle.class_table.specs.Names.{Space, space, space_from, means, same_name, classes, enumerations, roots, own}
use Rattle.class_table.specs.Outline.{Outline, outline, resolved, named, of_class, variable_of, class_of, enumeration_of, own_in, parent_in, attributes}
use Rattle.class_table.specs.Tables.{IsMeant, IsShapeOf, IsClosed}
use Rattle.class_table.proofs.ScopeSteps.{length_map}

-- Names

meant_more : (x : Option NameMeaning) (n m r n' m' r' : ℕ) → n ≤ n' → m ≤ m' → r ≤ r' → IsMeant n m r x → IsMeant n' m' r' x
meant_more (Some (meaning.Class c)) n m r n' m' r' a b d h = omega (arith, h, a)
meant_more (Some (meaning.Enumeration e)) n m r n' m' r' a b d h = omega (arith, h, b)
meant_more (Some (meaning.Variable v)) n m r n' m' r' a b d h = omega (arith, h, d)
meant_more None n m r n' m' r' a b d h = tt

first : (b : Bool) (n m r : ℕ) (x : NameMeaning) (y : Option NameMeaning) → IsMeant n m r (Some x) → IsMeant n m r y → IsMeant n m r (cond b (Some x) y)
first true n m r x y h k = h
first false n m r x y h k = k

meant_from : (items : List Item) (c e v : ℕ) (w : List ℕ) → IsMeant (c + length (classes items)) (e + length (enumerations items)) (v + length (roots items)) (means (space_from items c e v) w)
meant_from [] c e v w = tt
meant_from (item.Class d ∷ is) c e v w =
    let rest = meant_more (means (space_from is (c + 1) e v) w) _ _ _ (c + suc (length (classes is))) (e + length (enumerations is)) (v + length (roots is)) (omega arith) (omega arith) (omega arith) (meant_from is (c + 1) e v w) in
    first (same_name w d.name.name) _ _ _ (meaning.Class c) (means (space_from is (c + 1) e v) w) (omega arith) rest
meant_from (item.Enum d ∷ is) c e v w =
    let rest = meant_more (means (space_from is c (e + 1) v) w) _ _ _ (c + length (classes is)) (e + suc (length (enumerations is))) (v + length (roots is)) (omega arith) (omega arith) (omega arith) (meant_from is c (e + 1) v w) in
    first (same_name w d.name.name) _ _ _ (meaning.Enumeration e) (means (space_from is c (e + 1) v) w) (omega arith) rest
meant_from (item.Var d ∷ is) c e v w =
    let rest = meant_more (means (space_from is c e (v + 1)) w) _ _ _ (c + length (classes is)) (e + length (enumerations is)) (v + suc (length (roots is))) (omega arith) (omega arith) (omega arith) (meant_from is c e (v + 1) w) in
    first (same_name w d.name.name) _ _ _ (meaning.Variable v) (means (space_from is c e (v + 1)) w) (omega arith) rest
meant_from (item.Where d ∷ is) c e v w = meant_from is c e v w
meant_from (item.Goal d ∷ is) c e v w = meant_from is c e v w

-- Shapes

module _ (names : Space) (n m r : ℕ) (each : (w : List ℕ) → IsMeant n m r (means names w)) where
  by_name : (x : Option NameMeaning) → IsMeant n m r x → IsShapeOf n m (named x)
  by_name (Some (meaning.Class c)) h = h
  by_name (Some (meaning.Enumeration e)) h = h
  by_name (Some (meaning.Variable v)) h = tt
  by_name None h = tt

  by_class : (f : ℕ → Resolved) → ((c : ℕ) → c < n → IsShapeOf n m (f c)) → (x : Option NameMeaning) → IsMeant n m r x → IsShapeOf n m (of_class f x)
  by_class f g (Some (meaning.Class c)) h = g c h
  by_class f g (Some (meaning.Enumeration e)) h = tt
  by_class f g (Some (meaning.Variable v)) h = tt
  by_class f g None h = tt

  shape_of : (s : Shape) → IsShapeOf n m (resolved names s)
  shape_of (shape.Range low high) = tt
  shape_of shape.Int = tt
  shape_of shape.Bool = tt
  shape_of (shape.Named i) = by_name (means names i.name) (each i.name)
  shape_of (shape.Many i k) = by_class (λ c. Resolved.Many c k) (λ c h. h) (means names i.name) (each i.name)
  shape_of (shape.Ref i) = by_class Resolved.Ref (λ c h. h) (means names i.name) (each i.name)
  shape_of (shape.RefSet i k) = by_class (λ c. Resolved.RefSet c k) (λ c h. h) (means names i.name) (each i.name)

  abbrev AllShapes : List Variable → Type 0
  AllShapes [] = Unit {0}
  AllShapes (v ∷ vs) = IsShapeOf n m v.shape × AllShapes vs

  all_at : (vs : List Variable) (k : ℕ) (d : Variable) → AllShapes vs → k < length vs → IsShapeOf n m (get_or vs k d).shape
  all_at [] k d a h = absurd (omega (arith, h))
  all_at (v ∷ vs) zero d a h = a.0
  all_at (v ∷ vs) (suc k) d a h = all_at vs k d a.1 (omega (arith, h))

  all_append : (xs ys : List Variable) → AllShapes xs → AllShapes ys → AllShapes (xs ++ ys)
  all_append [] ys a b = b
  all_append (x ∷ xs) ys a b = (a.0, all_append xs ys a.1 b)

  all_mapped : (vs : List VarDecl) → AllShapes (map (variable_of names) vs)
  all_mapped [] = tt
  all_mapped (v ∷ vs) = (shape_of v.shape, all_mapped vs)

  all_own : (ds : List ClassDecl) (c : ℕ) → AllShapes (own_in (map (class_of names) ds) c)
  all_own [] c = tt
  all_own (d ∷ ds) zero = all_mapped (own d)
  all_own (d ∷ ds) (suc c) = all_own ds c

  all_within : (up : ℕ → Option ℕ) (own : ℕ → List Variable) → ((c : ℕ) → AllShapes (own c)) → (q k c : ℕ) → AllShapes (attributes_within up own q k c)
  all_within up own a q zero c = a c
  all_within up own a q (suc k) c = all_append (cond (derives_from_itself up q c) [] (option_map_or (attributes_within up own q k) (up c) [])) (own c) (by (derives_from_itself up q c) (up c) (λ p. all_within up own a q k p)) (a c)
    where
      by : (b : Bool) (o : Option ℕ) → ((p : ℕ) → AllShapes (attributes_within up own q k p)) → AllShapes (cond b [] (option_map_or (attributes_within up own q k) o []))
      by true o more = tt
      by false None more = tt
      by false (Some p) more = more p

pub closed : (items : List Item) → IsClosed (outline items)
closed items =
    record {
      meant = meant;
      attributes_have = λ c k d h. all_at (space items) n m r meant (attributes cs c) k d (all_within (space items) n m r meant (parent_in cs) (own_in cs) (all_own (space items) n m r meant (classes items)) (length cs) (length cs) c) h;
      roots_have = λ k d h. all_at (space items) n m r meant (map (variable_of (space items)) (roots items)) k d (all_mapped (space items) n m r meant (roots items)) h;
    }
  where
    cs : List Class
    cs = map (class_of (space items)) (classes items)

    n : ℕ
    n = length cs

    m : ℕ
    m = length (map enumeration_of (enumerations items))

    r : ℕ
    r = length (map (variable_of (space items)) (roots items))

    meant : (w : List ℕ) → IsMeant n m r (means (space items) w)
    meant w = meant_more (means (space items) w) _ _ _ n m r (omega (arith, length_map (class_of (space items)) (classes items))) (omega (arith, length_map enumeration_of (enumerations items))) (omega (arith, length_map (variable_of (space items)) (roots items))) (meant_from items 0 0 0 w)

pub closed_parts : (items : List Item) (names : Space) (cs : List Class) (es : List Enumeration) (rs : List Variable) → names ≡ space items → cs ≡ map (class_of (space items)) (classes items) → es ≡ map enumeration_of (enumerations items) → rs ≡ map (variable_of (space items)) (roots items) → IsClosed (record { names = names; classes = cs; enumerations = es; roots = rs })
closed_parts items names cs es rs a b d e =
    subst (λ x. IsClosed (record { names = x; classes = cs; enumerations = es; roots = rs })) (sym a)
    (subst (λ x. IsClosed (record { names = space items; classes = x; enumerations = es; roots = rs })) (sym b)
    (subst (λ x. IsClosed (record { names = space items; classes = map (class_of (space items)) (classes items); enumerations = x; roots = rs })) (sym d)
    (subst (λ x. IsClosed (record { names = space items; classes = map (class_of (space items)) (classes items); enumerations = map enumeration_of (enumerations items); roots = x })) (sym e) (closed items))))

pub shape_exists : (o o' : Outline) (cs : List Class) (c k : ℕ) (v : Variable) → o ≡ o' → IsClosed o → cs ≡ o.classes → k < length (attributes o'.classes c) → v ≡ get_or (attributes cs c) k v → IsShapeOf (length o'.classes) (length o'.enumerations) v.shape
shape_exists o o' cs c k v e closed same h at =
    let closed' = subst IsClosed e closed in
    let same' : cs ≡ o'.classes = same ∙ ap (λ (x : Outline). x.classes) e in
    subst (λ (x : Variable). IsShapeOf (length o'.classes) (length o'.enumerations) x.shape) (sym (at ∙ ap (λ xs. get_or (attributes xs c) k v) same')) (closed'.attributes_have c k v h)
